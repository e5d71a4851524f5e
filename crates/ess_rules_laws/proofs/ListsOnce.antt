-- Lists without repeats, and what is collected from the items of a list.
use Rattle.std.proofs.Common.{◌≡◌, refl, sym, ap, ◌∙◌, suc, Bool, true, false, ◌||◌, if◌then◌else◌, List, [], ◌∷◌, ◌++◌, map, filter, Option, Some, option_map}
use Rattle.ess_semantics.specs.Lists.{and_then, append_all}
use Rattle.ess_semantics.specs.Values.{Value, truth, items_of}
use Rattle.ess_semantics.specs.Order.{same}
use Rattle.ess_semantics.specs.Collections.{holds, count, sorted_once}
use Rattle.ess_semantics.specs.Meaning.{collect, where_true}
use Rattle.ess_semantics.specs.Contexts.{Each}
use Rattle.ess_semantics.proofs.Tests.{or-left-no, or-right-no}
use Rattle.ess_semantics.proofs.Orders.{same-equal}
use Rattle.ess_semantics.proofs.Sorting.{Distinct}
use Rattle.ess_rules_laws.proofs.ContainerValues.{count-absent}
use Rattle.ess_rules_laws.proofs.ListedItems.{count-sorted_once}

-- ---- lists without repeats

-- A list without repeats has each value once or not at all.
count-distinct : (xs : List Value) (v : Value) → Distinct xs → count xs v ≡ (if holds xs v then 1 else 0)
count-distinct [] v d = refl
count-distinct (x ∷ xs) v d = go (same x v) refl (count-distinct xs v d.1)
  where
    go : (b : Bool) → same x v ≡ b → count xs v ≡ (if holds xs v then 1 else 0) →
        (if b then suc (count xs v) else count xs v) ≡ (if b || holds xs v then 1 else 0)
    go true q h = ap suc (count-absent xs v (ap (holds xs) (sym (same-equal x v q)) ∙ d.0))
    go false q h = h

-- Sorting a list without repeats keeps how often each value is there.
pub sorted-counts : (xs : List Value) → Distinct xs → (v : Value) → count (sorted_once xs) v ≡ count xs v
sorted-counts xs d v = count-sorted_once xs v ∙ sym (count-distinct xs v d)

-- What a list lacks, a part of it lacks.
absent-filtered : (c : Value → Value) (q : Value → Bool) (ps : List Value) (v : Value) → holds (map c ps) v ≡ false →
    holds (map c (filter q ps)) v ≡ false
absent-filtered c q [] v h = refl
absent-filtered c q (p ∷ ps) v h =
    go (q p) (or-left-no (same (c p) v) (holds (map c ps) v) h)
    (absent-filtered c q ps v (or-right-no (same (c p) v) (holds (map c ps) v) h))
  where
    go : (b : Bool) → same (c p) v ≡ false → holds (map c (filter q ps)) v ≡ false →
        holds (map c (if b then p ∷ filter q ps else filter q ps)) v ≡ false
    go true e r = ap (λ z. z || holds (map c (filter q ps)) v) e ∙ r
    go false e r = r

-- A part of a list without repeats has none.
pub distinct-filtered : (c : Value → Value) (q : Value → Bool) (ps : List Value) → Distinct (map c ps) → Distinct (map c (filter q ps))
distinct-filtered c q [] d = tt
distinct-filtered c q (p ∷ ps) d = go (q p) (distinct-filtered c q ps d.1)
  where
    go : (b : Bool) → Distinct (map c (filter q ps)) → Distinct (map c (if b then p ∷ filter q ps else filter q ps))
    go true r = (absent-filtered c q ps (c p) d.0, r)
    go false r = r

-- ---- what is collected

-- One answer for each item.
pub collect-map : (c : Value → Value) (vs : List Value) (F : Value → Option (List Value)) → Each vs (λ v. F v ≡ Some (c v ∷ [])) →
    collect vs F ≡ Some (map c vs)
collect-map c [] F h = refl
collect-map c (v ∷ vs) F h =
    ap (λ o. and_then o (λ xs. option_map (λ ys. xs ++ ys) (collect vs F))) h.0 ∙ ap (option_map (λ ys. c v ∷ ys)) (collect-map c vs F h.1)

-- One answer for each item that passes a test.
pub collect-kept : (c : Value → Value) (q : Value → Bool) (vs : List Value) (F : Value → Option (List Value)) →
    Each vs (λ v. F v ≡ where_true (Some (truth (q v))) (λ u. Some (c v ∷ []))) → collect vs F ≡ Some (map c (filter q vs))
collect-kept c q [] F h = refl
collect-kept c q (v ∷ vs) F h = ap (λ o. and_then o (λ xs. option_map (λ ys. xs ++ ys) (collect vs F))) h.0
    ∙ go (q v) (collect-kept c q vs F h.1)
  where
    go : (b : Bool) → collect vs F ≡ Some (map c (filter q vs)) →
        and_then (where_true (Some (truth b)) (λ u. Some (c v ∷ []))) (λ xs. option_map (λ ys. xs ++ ys) (collect vs F))
        ≡ Some (map c (if b then v ∷ filter q vs else filter q vs))
    go true e = ap (option_map (λ ys. c v ∷ ys)) e
    go false e = ap (option_map (λ ys. ys)) e

-- A list for each item.
pub collect-lists : (vs : List Value) (F : Value → Option (List Value)) → ((v : Value) → F v ≡ Some (items_of v)) →
    collect vs F ≡ Some (append_all (map items_of vs))
collect-lists [] F h = refl
collect-lists (v ∷ vs) F h =
    ap (λ o. and_then o (λ xs. option_map (λ ys. xs ++ ys) (collect vs F))) (h v)
    ∙ ap (option_map (λ ys. items_of v ++ ys)) (collect-lists vs F h)
