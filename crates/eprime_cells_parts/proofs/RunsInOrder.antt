-- Numbers of an axis, gone through beside the members of ranges.
use Rattle.std.proofs.Common.{◌≡◌, refl, sym, ap, ◌∙◌, ℕ, zero, suc, ◌+◌, ◌<◌, ◌≤◌, ℤ, pos, negsuc, ◌+ℤ◌, ◌-ℤ◌, ◌≤ℤ◌, ◌<ℤ◌, int_le, Bool, true, false, ◌&&◌, if◌then◌else◌, List, [], ◌∷◌, ◌++◌, length, get_or, drop, Option, Some, None, arith}
use Rattle.std.specs.declared.cmp.Ordering.{Ordering}
use Rattle.std.specs.declared.cmp.Ordering.TheVariants.{Less, Equal, Greater}
use Rattle.std.specs.Ordering.{int_cmp, is_eq, ordering_then}
use Rattle.std.proofs.lemmas.Int.{ints}
use Rattle.ess_semantics.specs.Lists.{is_some_and}
use Rattle.ess_semantics.specs.Numbers.{natural}
use Rattle.ess_semantics.specs.Order.{order_ints, same_int, same_ints}
use Rattle.ess_semantics.proofs.Orders.{same_int-itself, same_int-equal}
use Rattle.eprime_cells_parts.specs.declared.sweeping.Ends.{Ends}
use Rattle.eprime_cells_parts.specs.Sweeping.{up_from, greater, swept, behind}
use Rattle.eprime_cells_parts.proofs.WhatIsLeft.{left-more, left-none}

both-equal : (p q : Ordering) → is_eq (ordering_then p q) ≡ is_eq p && is_eq q
both-equal Less q = refl
both-equal Equal q = refl
both-equal Greater q = refl

-- Two lists are equal where their first numbers and the others are.
same-more : (x y : ℤ) (xs ys : List ℤ) → same_ints (x ∷ xs) (y ∷ ys) ≡ same_int x y && same_ints xs ys
same-more x y xs ys = both-equal (int_cmp x y) (order_ints xs ys)

-- ---- one run

-- What is left to compare behind the first i numbers.
abbrev pub Run : ℤ → List ℤ → ℕ → Type 0
Run a ns i = same_ints (up_from a (length ns)) ns ≡ same_ints (up_from (a +ℤ pos i) (length (drop i ns))) (drop i ns)

pub run_none : (a : ℤ) (ns : List ℤ) → Run a ns 0
run_none a ns = ap (λ b. same_ints (up_from b (length ns)) ns) (omega (arith, ints))

-- The next number beside the next one of the run.
run-next : (a : ℤ) (ns : List ℤ) (i : ℕ) (x : ℤ) → Run a ns i → i < length ns → x ≡ get_or ns i x →
    same_ints (up_from a (length ns)) ns ≡ same_int (a +ℤ pos i) x && same_ints
    (up_from ((a +ℤ pos i) +ℤ pos 1) (length (drop (i + 1) ns))) (drop (i + 1) ns)
run-next a ns i x r lt is =
    r ∙ ap (λ ms. same_ints (up_from (a +ℤ pos i) (length ms)) ms) (left-more ns i x lt is)
    ∙ same-more (a +ℤ pos i) x (up_from ((a +ℤ pos i) +ℤ pos 1) (length (drop (i + 1) ns))) (drop (i + 1) ns)

pub run_more : (a : ℤ) (ns : List ℤ) (i : ℕ) (x : ℤ) → Run a ns i → i < length ns → x ≡ get_or ns i x → x -ℤ a ≡ pos i → Run a ns (i + 1)
run_more a ns i x r lt is h =
    let here : a +ℤ pos i ≡ x = omega (arith, ints, h) in
    let next : (a +ℤ pos i) +ℤ pos 1 ≡ a +ℤ pos (i + 1) = omega (arith, ints) in
    run-next a ns i x r lt is
    ∙ ap (λ b. b && same_ints (up_from ((a +ℤ pos i) +ℤ pos 1) (length (drop (i + 1) ns))) (drop (i + 1) ns))
    (ap (λ y. same_int y x) here ∙ same_int-itself x)
    ∙ ap (λ b. same_ints (up_from b (length (drop (i + 1) ns))) (drop (i + 1) ns)) next

pub run_stop : (a : ℤ) (ns : List ℤ) (i : ℕ) (x : ℤ) → Run a ns i → i < length ns → x ≡ get_or ns i x → (x -ℤ a ≡ pos i → ⊥) → false
    ≡ same_ints (up_from a (length ns)) ns
run_stop a ns i x r lt is h =
    sym (run-next a ns i x r lt is
    ∙ ap (λ b. b && same_ints (up_from ((a +ℤ pos i) +ℤ pos 1) (length (drop (i + 1) ns))) (drop (i + 1) ns))
    (not-same (same_int (a +ℤ pos i) x) refl))
  where
    not-same : (b : Bool) → same_int (a +ℤ pos i) x ≡ b → b ≡ false
    not-same true e = let k : a +ℤ pos i ≡ x = same_int-equal (a +ℤ pos i) x e in absurd (h (omega (arith, ints, k)))
    not-same false e = refl

pub run_all : (a : ℤ) (ns : List ℤ) (i : ℕ) → Run a ns i → length ns ≤ i → true ≡ same_ints (up_from a (length ns)) ns
run_all a ns i r le = sym (r ∙ ap (λ ms. same_ints (up_from (a +ℤ pos i) (length ms)) ms) (left-none ns i le))

-- ---- what stands behind a run

pub up_length : (a : ℤ) (n : ℕ) → length (up_from a n) ≡ n
up_length a zero = refl
up_length a (suc n) = ap suc (up_length (a +ℤ pos 1) n)

if-both : (b c : Bool) (ys : List ℤ) → (if b then (if c then Some ys else None) else None) ≡ (if b && c then Some ys else None)
if-both true c ys = refl
if-both false c ys = refl

-- A list of the same length at the front.
behind-front : (xs ys zs : List ℤ) → length xs ≡ length ys → behind xs (ys ++ zs) ≡ (if same_ints xs ys then Some zs else None)
behind-front [] [] zs h = refl
behind-front (x ∷ xs) (y ∷ ys) zs h =
    ap (λ o. if same_int x y then o else None) (behind-front xs ys zs (omega (arith, h)))
    ∙ if-both (same_int x y) (same_ints xs ys) zs
    ∙ ap (λ b. if b then Some zs else None) (sym (same-more x y xs ys))
behind-front [] (y ∷ ys) zs h = absurd (omega (arith, h))
behind-front (x ∷ xs) [] zs h = absurd (omega (arith, h))

-- A shorter list begins with no longer one.
behind-short : (xs ys : List ℤ) → length ys < length xs → behind xs ys ≡ None
behind-short [] ys h = absurd (omega (arith, h))
behind-short (x ∷ xs) [] h = refl
behind-short (x ∷ xs) (y ∷ ys) h = either (same_int x y) (behind xs ys) (behind-short xs ys (omega (arith, h)))
  where
    either : (b : Bool) (o : Option (List ℤ)) → o ≡ None → (if b then o else None) ≡ None
    either true o k = k
    either false o k = refl

natural-of : (d : ℤ) (n : ℕ) → d ≡ pos n → natural d ≡ n
natural-of d n h = ap natural h

none-up : (a d : ℤ) → d ≤ℤ pos 0 → up_from a (natural d) ≡ []
none-up a (pos zero) h = refl
none-up a (pos (suc n)) h = absurd (omega (arith, ints))
none-up a (negsuc n) h = refl

-- A run of no numbers,
pub behind_nothing : (from end : ℤ) (ns : List ℤ) → end ≤ℤ from → Some ns ≡ behind (up_from from (natural (end -ℤ from))) ns
behind_nothing from end ns h = sym (ap (λ xs. behind xs ns) (none-up from (end -ℤ from) (omega (arith, ints, h))))

-- one that is longer than the list,
pub behind_longer : (from end : ℤ) (ns : List ℤ) → pos (length ns) <ℤ (end -ℤ from) → None
    ≡ behind (up_from from (natural (end -ℤ from))) ns
behind_longer from end ns h = go (end -ℤ from) h
  where
    go : (d : ℤ) → pos (length ns) <ℤ d → None ≡ behind (up_from from (natural d)) ns
    go (pos n) k = sym (behind-short (up_from from n) ns (let e = up_length from n in omega (arith, ints, k, e)))
    go (negsuc n) k = absurd (omega (arith, ints, k))

-- and one that is as long as a part at the front.
pub behind_part : (from end : ℤ) (ns front rest : List ℤ) (b : Bool) → ns ≡ front ++ rest → pos (length front) ≡ end -ℤ from → b
    ≡ same_ints (up_from from (length front)) front →
    (if b then Some rest else None) ≡ behind (up_from from (natural (end -ℤ from))) ns
behind_part from end ns front rest b e l h =
    ap (λ c. if c then Some rest else None) h
    ∙ sym (ap (λ n. behind (up_from from n) ns) (natural-of (end -ℤ from) (length front) (sym l))
    ∙ ap (behind (up_from from (length front))) e
    ∙ behind-front (up_from from (length front)) front rest (up_length from (length front)))

-- ---- all ranges

-- A list that begins with a run goes on behind it.
front-same : (xs ss ys : List ℤ) → same_ints (xs ++ ss) ys ≡ is_some_and (behind xs ys) (same_ints ss)
front-same [] ss ys = refl
front-same (x ∷ xs) ss [] = refl
front-same (x ∷ xs) ss (y ∷ ys) =
    same-more x y (xs ++ ss) ys ∙ ap (λ b. same_int x y && b) (front-same xs ss ys) ∙ inside (same_int x y) (behind xs ys)
  where
    inside : (b : Bool) (o : Option (List ℤ)) → b && is_some_and o (same_ints ss) ≡ is_some_and (if b then o else None) (same_ints ss)
    inside true o = refl
    inside false o = refl

-- How far the ranges are gone through: the rest of them, from k on, is to be the rest of the axis.
pub record Swept (first : ℤ) (rs : List Ends) (axis : List ℤ) (i : ℕ) (k : ℤ) (left : List ℤ) : Type 0 where
  pub same : same_ints (swept first rs) axis ≡ same_ints (swept k (drop i rs)) left
  pub low : negsuc 9223372036854775807 ≤ℤ k
  pub high : k ≤ℤ pos 9223372036854775808

-- The next range.
sweep-next : (first : ℤ) (rs : List Ends) (axis : List ℤ) (i : ℕ) (k : ℤ) (left : List ℤ) (r : Ends) → Swept first rs axis i k left →
    i < length rs → r ≡ get_or rs i r →
    same_ints (swept first rs) axis
    ≡ is_some_and (behind (up_from (greater k r.from) (natural ((r.to +ℤ pos 1) -ℤ greater k r.from))) left)
    (same_ints (swept (greater k (r.to +ℤ pos 1)) (drop (i + 1) rs)))
sweep-next first rs axis i k left r s lt is =
    s.same ∙ ap (λ us. same_ints (swept k us) left) (left-more rs i r lt is)
    ∙ front-same (up_from (greater k r.from) (natural ((r.to +ℤ pos 1) -ℤ greater k r.from)))
    (swept (greater k (r.to +ℤ pos 1)) (drop (i + 1) rs)) left

pub swept_stop : (first : ℤ) (rs : List Ends) (axis : List ℤ) (i : ℕ) (k : ℤ) (left : List ℤ) (r : Ends) → Swept first rs axis i k left →
    i < length rs → r ≡ get_or rs i r →
    None ≡ behind (up_from (greater k r.from) (natural ((r.to +ℤ pos 1) -ℤ greater k r.from))) left → false
    ≡ same_ints (swept first rs) axis
swept_stop first rs axis i k left r s lt is h =
    sym (sweep-next first rs axis i k left r s lt is
    ∙ ap (λ o. is_some_and o (same_ints (swept (greater k (r.to +ℤ pos 1)) (drop (i + 1) rs)))) (sym h))

pub swept_more : (first : ℤ) (rs : List Ends) (axis : List ℤ) (i : ℕ) (k : ℤ) (left rest : List ℤ) (r : Ends) →
    Swept first rs axis i k left → i < length rs → r ≡ get_or rs i r →
    Some rest ≡ behind (up_from (greater k r.from) (natural ((r.to +ℤ pos 1) -ℤ greater k r.from))) left →
    same_ints (swept first rs) axis ≡ same_ints (swept (greater k (r.to +ℤ pos 1)) (drop (i + 1) rs)) rest
swept_more first rs axis i k left rest r s lt is h =
    sweep-next first rs axis i k left r s lt is
    ∙ ap (λ o. is_some_and o (same_ints (swept (greater k (r.to +ℤ pos 1)) (drop (i + 1) rs)))) (sym h)

pub swept_none : (first : ℤ) (rs : List Ends) (axis : List ℤ) → negsuc 9223372036854775807 ≤ℤ first → first ≤ℤ pos 9223372036854775808 →
    Swept first rs axis 0 first axis
swept_none first rs axis l h = record { same = refl; low = l; high = h }

pub swept_all : (first : ℤ) (rs : List Ends) (axis : List ℤ) (i : ℕ) (k : ℤ) (left : List ℤ) → Swept first rs axis i k left →
    length rs ≤ i → same_ints [] left ≡ same_ints (swept first rs) axis
swept_all first rs axis i k left s le = sym (s.same ∙ ap (λ us. same_ints (swept k us) left) (left-none rs i le))

-- The greater one of two numbers stays within bounds of both.
pub greater_within : (k a : ℤ) → negsuc 9223372036854775807 ≤ℤ k → k ≤ℤ pos 9223372036854775808 → a ≤ℤ pos 9223372036854775808 →
    (negsuc 9223372036854775807 ≤ℤ greater k a) × (greater k a ≤ℤ pos 9223372036854775808)
greater_within k a l h u = go (int_le k a) refl
  where
    go : (b : Bool) → int_le k a ≡ b → (negsuc 9223372036854775807 ≤ℤ (if b then a else k)) ×
        ((if b then a else k) ≤ℤ pos 9223372036854775808)
    go true e = (grind (arith, ints), u)
    go false e = (l, h)
