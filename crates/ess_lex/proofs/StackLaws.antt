-- The code's stack as items.
use Rattle.std.proofs.Common.{◌≡◌, refl, sym, ap, ◌∙◌, subst, ℕ, zero, suc, ◌+◌, ◌-◌, ◌≤◌, ◌<◌, true, List, [], ◌∷◌, ◌++◌, length, take, get_or, reverse, replicate, arith, length-append, length-take, nat_lt}
use Rattle.std.proofs.lemmas.List.{reverse-append, length-reverse}
use Rattle.std.proofs.lemmas.Bool.{and_parts, and_from, ltb-true, lt-ltb}
use Rattle.std.proofs.Math.Seq.{take-suc}
use Rattle.std.proofs.Math.ListN.{length-replicate}
use Rattle.ess_grammar.specs.Load.{Item, bracket, plain, closed, down_to_bracket}
use Rattle.ess_lex.specs.Stacks.{items_from, falls}
use Rattle.ess_lex.specs.StackItems.{items_of}
use Rattle.ess_lex.specs.declared.stack.Stack.{Stack}

pub length-items_from : (below : List ℕ) (height : ℕ) → falls below height ≡ true → length (items_from below height) ≡ height
length-items_from [] height h = length-replicate height plain
length-items_from (b ∷ below) height h =
    let parts = and_parts (nat_lt b height) (falls below b) h in
    length-append (replicate (height - suc b) plain) (bracket ∷ items_from below b)
    ∙ omega (arith, length-replicate (height - suc b) plain, length-items_from below b parts.1, ltb-true b height parts.0)

pub length-items_of : (stack : Stack) → length (items_of stack) ≡ stack.height
length-items_of stack = length-items_from (reverse (take stack.brackets stack.below)) stack.height stack.falling

-- ---- pushing

pub items_from-plain : (below : List ℕ) (height : ℕ) → falls below height ≡ true →
    items_from below (height + 1) ≡ plain ∷ items_from below height
items_from-plain [] height h = let e : height + 1 ≡ suc height = omega arith in ap (λ n. replicate n plain) e
items_from-plain (b ∷ below) height h =
    let parts = and_parts (nat_lt b height) (falls below b) h in
    let e : height + 1 - suc b ≡ suc (height - suc b) = omega (arith, ltb-true b height parts.0) in
    ap (λ n. replicate n plain ++ bracket ∷ items_from below b) e

pub falls-more : (below : List ℕ) (height higher : ℕ) → height ≤ higher → falls below height ≡ true → falls below higher ≡ true
falls-more [] height higher l h = refl
falls-more (b ∷ below) height higher l h =
    let parts = and_parts (nat_lt b height) (falls below b) h in
    and_from (nat_lt b higher) (falls below b) (lt-ltb b higher (omega (arith, ltb-true b height parts.0))) parts.1

-- ---- removing

down_past-plain : (n : ℕ) (items : List Item) → down_to_bracket (replicate n plain ++ items) ≡ down_to_bracket items
down_past-plain zero items = refl
down_past-plain (suc n) items = down_past-plain n items

down_all-plain : (n : ℕ) → down_to_bracket (replicate n plain) ≡ []
down_all-plain zero = refl
down_all-plain (suc n) = down_all-plain n

abbrev closed_as : List Item → List Item → List Item
closed_as items down = elim down [ [] ↦ items | innermost ∷ rest ↦ rest ]

pub closed-plain : (height : ℕ) → closed (items_from [] height) ≡ items_from [] height
closed-plain height = ap (closed_as (replicate height plain)) (down_all-plain height)

pub closed-bracket : (b height : ℕ) (below : List ℕ) → closed (items_from (b ∷ below) height) ≡ items_from below b
closed-bracket b height below =
    ap (closed_as (items_from (b ∷ below) height)) (down_past-plain (height - suc b) (bracket ∷ items_from below b))

pub down-plain : (height : ℕ) → down_to_bracket (items_from [] height) ≡ []
down-plain height = down_all-plain height

pub down-bracket : (b height : ℕ) (below : List ℕ) → down_to_bracket (items_from (b ∷ below) height) ≡ items_from (b ∷ below) (b + 1)
down-bracket b height below =
    let none : b + 1 - suc b ≡ 0 = omega arith in
    down_past-plain (height - suc b) (bracket ∷ items_from below b) ∙ ap (λ n. replicate n plain ++ bracket ∷ items_from below b) (sym none)

-- ---- the innermost bracket

pub length-falls : (below : List ℕ) (height : ℕ) → falls below height ≡ true → length below ≤ height
length-falls [] height h = omega arith
length-falls (b ∷ below) height h =
    let parts = and_parts (nat_lt b height) (falls below b) h in
    omega (arith, length-falls below b parts.1, ltb-true b height parts.0)

-- what lies below the innermost of n brackets
pub record Innermost (n height : ℕ) (numbers : List ℕ) : Type 0 where
  pub shown : reverse (take n numbers) ≡ get_or numbers (n - 1) 0 ∷ reverse (take (n - 1) numbers)
  pub lower : get_or numbers (n - 1) 0 < height
  pub falling : falls (reverse (take (n - 1) numbers)) (get_or numbers (n - 1) 0) ≡ true
  pub nested : n - 1 ≤ get_or numbers (n - 1) 0

reversed-more : (n : ℕ) (numbers : List ℕ) → 0 < n → n ≤ length numbers →
    reverse (take n numbers) ≡ get_or numbers (n - 1) 0 ∷ reverse (take (n - 1) numbers)
reversed-more zero numbers h l = absurd (omega arith)
reversed-more (suc n) numbers h l =
    let e : suc n - 1 ≡ n = omega arith in
    ap reverse (take-suc numbers n 0 (omega arith)) ∙ reverse-append (take n numbers) (get_or numbers n 0 ∷ [])
    ∙ ap (λ k. get_or numbers k 0 ∷ reverse (take k numbers)) (sym e)

pub innermost : (n height : ℕ) (numbers : List ℕ) → 0 < n → n ≤ length numbers → falls (reverse (take n numbers)) height ≡ true →
    Innermost n height numbers
innermost n height numbers h l f =
    let shown = reversed-more n numbers h l in
    let parts = and_parts (nat_lt (get_or numbers (n - 1) 0) height) (falls (reverse (take (n - 1) numbers)) (get_or numbers (n - 1) 0))
    (ap (λ below. falls below height) (sym shown) ∙ f) in
    record {
      shown = shown;
      lower = ltb-true (get_or numbers (n - 1) 0) height parts.0;
      falling = parts.1;
      nested = omega (
        arith,
        length-falls (reverse (take (n - 1) numbers)) (get_or numbers (n - 1) 0) parts.1,
        length-reverse (take (n - 1) numbers),
        length-take (n - 1) numbers,
      );
    }

pub no_bracket : (n height : ℕ) (numbers : List ℕ) → n ≤ 0 → items_from (reverse (take n numbers)) height ≡ items_from [] height
no_bracket n height numbers h = let e : n ≡ 0 = omega arith in ap (λ k. items_from (reverse (take k numbers)) height) e

-- how many items are left where those above the innermost of n brackets are removed, or all where there is none
pub record Ended (n height left : ℕ) (numbers : List ℕ) : Type 0 where
  pub room : left ≤ height
  pub nested : n ≤ left
  pub falling : falls (reverse (take n numbers)) left ≡ true
  pub items : items_from (reverse (take n numbers)) left ≡ down_to_bracket (items_from (reverse (take n numbers)) height)

pub ended-bracket : (n height left : ℕ) (numbers : List ℕ) → 0 < n → n ≤ length numbers → falls (reverse (take n numbers)) height ≡ true →
    left ≡ get_or numbers (n - 1) 0 + 1 → Ended n height left numbers
ended-bracket n height left numbers h l f e =
    let top = innermost n height numbers h l f in
    let b : ℕ = get_or numbers (n - 1) 0 in
    let below : List ℕ = reverse (take (n - 1) numbers) in
    record {
      room = omega (arith, top.lower, e);
      nested = omega (arith, top.nested, e);
      falling =
          ap (λ ns. falls ns left) top.shown ∙ and_from (nat_lt b left) (falls below b) (lt-ltb b left (omega (arith, e))) top.falling;
      items = ap (λ ns. items_from ns left) top.shown ∙ ap (items_from (b ∷ below)) e
          ∙ sym (ap (λ ns. down_to_bracket (items_from ns height)) top.shown ∙ down-bracket b height below);
    }

pub ended-plain : (n height left : ℕ) (numbers : List ℕ) → n ≤ 0 → left ≡ 0 → Ended n height left numbers
ended-plain n height left numbers h e =
    let none : n ≡ 0 = omega arith in
    subst (λ k. Ended k height left numbers) (sym none) (subst (λ k. Ended 0 height k numbers) (sym e)
    (record { room = omega arith; nested = omega arith; falling = refl; items = sym (down-plain height) }))
