-- Generators taken apart at the first that isn't plain, from the front: before it stand none but plain ones.
use Rattle.std.proofs.Common.{◌≡◌, refl, sym, ap, ◌∙◌, arith, ℕ, ◌+◌, ◌-◌, ◌<◌, ◌≤◌, Bool, true, false, if◌then◌else◌, List, [], ◌∷◌, ◌++◌, length, map, take, drop, get_or, Option, Some, None, option_map, take-append-drop, le_refl}
use Rattle.std.proofs.lemmas.List.{drop_more, length-drop, take_all, take_more}
use Rattle.ess_semantics.specs.Trees.{Gens, no_gens, over, from, cond}
use Rattle.ess_core.specs.TreeViews.{Item, over_item, from_item, cond_item, gens_of}
use Rattle.ess_core_nodes.specs.declared.nodes.Gen.{Gen}
use Rattle.ess_core_nodes.specs.NodeViews.{pure_gen, pure_gens}
use Rattle.ess_rules_laws.specs.SpliceRules.{append_gens}
use Rattle.ess_open_rules_laws.specs.OpenGenerators.{Opened, with_first, opened_here, is_plain_over, at_first_open}
use Rattle.ess_rules_opening.specs.OpenedViews.{is_plain_item}

-- ---- what is found

when-true : (b : Bool) (x y : Option Opened) → b ≡ true → (if b then x else y) ≡ x
when-true true x y h = refl
when-true false x y h = cc

when-false : (b : Bool) (x y : Option Opened) → b ≡ false → (if b then x else y) ≡ y
when-false true x y h = cc
when-false false x y h = refl

-- Where nothing is found the first generator is plain, and nothing is found behind it.
plain-of : (b : Bool) (f : Opened → Opened) (o : Option Opened) (t : Opened) → (if b then option_map f o else Some t) ≡ None → b ≡ true
plain-of true f o t h = refl
plain-of false f o t h = cc

none-of : (b : Bool) (f : Opened → Opened) (o : Option Opened) (t : Opened) → (if b then option_map f o else Some t) ≡ None → o ≡ None
none-of true f None t h = refl
none-of true f (Some x) t h = cc
none-of false f o t h = cc

none-mapped : (f : Opened → Opened) (o : Option Opened) → option_map f o ≡ None → o ≡ None
none-mapped f None h = refl
none-mapped f (Some x) h = cc

as-it-is : (o : Option Opened) → o ≡ option_map (with_first (append_gens no_gens)) o
as-it-is None = refl
as-it-is (Some t) = refl

put-both : (f g : Gens → Gens) (o : Option Opened) → option_map (with_first f) (option_map (with_first g) o) ≡ option_map (with_first (λ x. f (g x))) o
put-both f g None = refl
put-both f g (Some t) = refl

-- Behind plain generators is found what is found in the rest.
found-behind : (js is : List Item) → at_first_open (gens_of js) ≡ None
    → at_first_open (gens_of (js ++ is)) ≡ option_map (with_first (append_gens (gens_of js))) (at_first_open (gens_of is))
found-behind [] is h = as-it-is (at_first_open (gens_of is))
found-behind (over_item p d ∷ js) is h =
    when-true (is_plain_over p d) (option_map (with_first (over p d)) (at_first_open (gens_of (js ++ is)))) (Some (opened_here (over p d (gens_of (js ++ is)))))
    (plain-of (is_plain_over p d) (with_first (over p d)) (at_first_open (gens_of js)) (opened_here (over p d (gens_of js))) h)
    ∙ ap (option_map (with_first (over p d)))
    (found-behind js is (none-of (is_plain_over p d) (with_first (over p d)) (at_first_open (gens_of js)) (opened_here (over p d (gens_of js))) h))
    ∙ put-both (over p d) (append_gens (gens_of js)) (at_first_open (gens_of is))
found-behind (from_item p s ∷ js) is h = cc
found-behind (cond_item c ∷ js) is h =
    ap (option_map (with_first (cond c))) (found-behind js is (none-mapped (with_first (cond c)) (at_first_open (gens_of js)) h))
    ∙ put-both (cond c) (append_gens (gens_of js)) (at_first_open (gens_of is))

-- A plain item alone, and one that isn't plain before others.
plain-alone : (i : Item) → is_plain_item i ≡ true → at_first_open (gens_of (i ∷ [])) ≡ None
plain-alone (over_item p d) h = when-true (is_plain_over p d) None (Some (opened_here (over p d no_gens))) h
plain-alone (from_item p s) h = cc
plain-alone (cond_item c) h = refl

open-first : (i : Item) (is : List Item) → is_plain_item i ≡ false → at_first_open (gens_of (i ∷ is)) ≡ Some (opened_here (gens_of (i ∷ is)))
open-first (over_item p d) is h =
    when-false (is_plain_over p d) (option_map (with_first (over p d)) (at_first_open (gens_of is))) (Some (opened_here (over p d (gens_of is)))) h
open-first (from_item p s) is h = refl
open-first (cond_item c) is h = cc

append-none : (gs : Gens) → append_gens gs no_gens ≡ gs
append-none no_gens = refl
append-none (over p d gs) = ap (over p d) (append-none gs)
append-none (from p s gs) = ap (from p s) (append-none gs)
append-none (cond c gs) = ap (cond c) (append-none gs)

map-both : (gs hs : List Gen) → map pure_gen (gs ++ hs) ≡ map pure_gen gs ++ map pure_gen hs
map-both [] hs = refl
map-both (g ∷ gs) hs = ap (λ l. pure_gen g ∷ l) (map-both gs hs)

-- ---- rows

-- Before the first generator nothing is found.
pub open_start : (gs : List Gen) → at_first_open (pure_gens (take 0 gs)) ≡ None
open_start gs = refl

-- Nor where one more is plain.
pub open_more : (gs : List Gen) (i : ℕ) (x : Gen) → i < length gs → x ≡ get_or gs i x → is_plain_item (pure_gen x) ≡ true
    → at_first_open (pure_gens (take i gs)) ≡ None → at_first_open (pure_gens (take (i + 1) gs)) ≡ None
open_more gs i x lt is h e =
    ap (λ l. at_first_open (pure_gens l)) (take_more gs i x lt ∙ ap (λ z. take i gs ++ z ∷ []) (sym is))
    ∙ ap (λ l. at_first_open (gens_of l)) (map-both (take i gs) (x ∷ []))
    ∙ found-behind (map pure_gen (take i gs)) (pure_gen x ∷ []) e
    ∙ ap (option_map (with_first (append_gens (pure_gens (take i gs))))) (plain-alone (pure_gen x) h)

-- Nor in all.
pub open_end : (gs : List Gen) (n : ℕ) → n ≡ length gs → at_first_open (pure_gens (take n gs)) ≡ None → None ≡ at_first_open (pure_gens gs)
open_end gs n e h = sym (ap (λ l. at_first_open (pure_gens l)) (sym (take_all n gs (omega (arith, e)))) ∙ h)

-- The first that isn't plain is found.
pub open_found : (gs : List Gen) (i : ℕ) (x : Gen) → i < length gs → x ≡ get_or gs i x → is_plain_item (pure_gen x) ≡ false
    → at_first_open (pure_gens (take i gs)) ≡ None
    → Some (record { before = pure_gens (take i gs); after = pure_gens (take (length gs - i) (drop i gs)) }) ≡ at_first_open (pure_gens gs)
open_found gs i x lt is h e =
    let here : drop i gs ≡ x ∷ drop (i + 1) gs = drop_more gs i x lt ∙ ap (λ z. z ∷ drop (i + 1) gs) (sym is) in
    let short : length (drop i gs) ≤ length gs - i = rw (length-drop i gs) (le_refl (length gs - i)) in
    let found : at_first_open (pure_gens (drop i gs)) ≡ Some (opened_here (pure_gens (drop i gs))) =
    ap (λ l. at_first_open (pure_gens l)) here ∙ open-first (pure_gen x) (map pure_gen (drop (i + 1) gs)) h
    ∙ ap (λ l. Some (opened_here (pure_gens l))) (sym here) in
    ap (λ l. Some (record { before = pure_gens (take i gs); after = pure_gens l })) (take_all (length gs - i) (drop i gs) short)
    ∙ sym (ap (λ l. at_first_open (pure_gens l)) (sym (take-append-drop i gs))
    ∙ ap (λ l. at_first_open (gens_of l)) (map-both (take i gs) (drop i gs))
    ∙ found-behind (map pure_gen (take i gs)) (map pure_gen (drop i gs)) e
    ∙ ap (option_map (with_first (append_gens (pure_gens (take i gs))))) found
    ∙ ap (λ z. Some (record { before = z; after = pure_gens (drop i gs) })) (append-none (pure_gens (take i gs))))
