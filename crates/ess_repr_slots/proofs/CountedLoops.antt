-- Lemmas on the loops over slots with numbers, and on what a sort of them gives.
use Rattle.std.proofs.Common.{◌≡◌, refl, sym, ap, ◌∙◌, ℕ, ◌+◌, ◌<◌, List, [], ◌∷◌, ◌++◌, map, length, take, get_or, ℤ}
use Rattle.std.proofs.lemmas.List.{take_more, map-append}
use Rattle.std.specs.List.Sorted.{IsSortedBy, IsStableBy}
use Rattle.ess_repr_rows_laws.specs.SlotOrder.{by_rows}
use Rattle.ess_repr_rows_laws.specs.RowLayers.{counted_rows}
use Rattle.ess_repr_rows_laws.proofs.RowOrder.{below, sorted-by-rows}
use Rattle.ess_repr_rows_laws.proofs.SlotLayers.{by-rows-map}
use Rattle.ess_repr_tables.proofs.SortedTables.{sorted-climbs}
use Rattle.ess_repr_slots.specs.declared.counted.CountedSlot.{CountedSlot}
use Rattle.ess_repr_slots.specs.CountedViews.{pure_counted}

-- The rows of a slot.
abbrev pub key : CountedSlot → List (List ℤ)
key s = counted_rows (pure_counted s)

-- What a stable sort by rows gives.
pub sorted-counted : (xs ys : List CountedSlot) → IsSortedBy (below key) ys → IsStableBy (below key) xs ys → map pure_counted ys ≡ by_rows counted_rows (map pure_counted xs)
sorted-counted xs ys up st = ap (map pure_counted) (sorted-by-rows key xs ys (sorted-climbs key ys up) st) ∙ by-rows-map pure_counted counted_rows xs

-- One number more.
pub times_more : (ss : List CountedSlot) (i : ℕ) (d : CountedSlot) → i < length ss →
    map (λ c. c.0) (map pure_counted (take (i + 1) ss)) ≡ map (λ c. c.0) (map pure_counted (take i ss)) ++ (get_or ss i d).times ∷ []
times_more ss i d h =
    ap (λ l. map (λ c. c.0) (map pure_counted l)) (take_more ss i d h) ∙ ap (map (λ c. c.0)) (map-append pure_counted (take i ss) (get_or ss i d ∷ []))
    ∙ map-append (λ c. c.0) (map pure_counted (take i ss)) (pure_counted (get_or ss i d) ∷ [])
