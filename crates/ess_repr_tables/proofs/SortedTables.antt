-- Lemmas on the order of tables, and on what a sort gives.
use Rattle.std.proofs.Common.{◌≡◌, refl, sym, ap, ◌∙◌, ℕ, zero, suc, ◌+◌, ◌<◌, ◌≤◌, false, List, [], ◌∷◌, map, length, drop, get_or, ℤ, arith}
use Rattle.std.specs.List.Sorted.{IsSortedBy, IsStableBy}
use Rattle.std.proofs.lemmas.List.Sorted.{ranks_by, sorted_far}
use Rattle.std.specs.declared.cmp.Ordering.{Ordering}
use Rattle.std.specs.declared.cmp.Ordering.TheVariants.{Less}
use Rattle.ess_semantics.specs.Cells.{order_rows}
use Rattle.ess_semantics.proofs.Orders.{rows_total}
use Rattle.ess_core.specs.declared.tables.Table.{Table}
use Rattle.ess_repr_laws.proofs.CanonicalPlaces.{AllOf}
use Rattle.ess_repr_rows_laws.specs.SlotOrder.{rows_in, by_rows}
use Rattle.ess_repr_rows_laws.proofs.RowOrder.{below, Climbs, sorted-by-rows}
use Rattle.ess_repr_rows_laws.proofs.SlotLayers.{by-rows-map}
use Rattle.ess_repr_tables.specs.SlotViews.{pure_tables}

-- The rows of a slot.
abbrev pub key : List Table → List (List ℤ)
key ts = rows_in (pure_tables ts)

-- Fewer tables that are the first of more are below them.
pub order_short : (xs ys : List Table) (k : ℕ) → length xs ≤ k → k ≤ length xs → length xs < length ys →
    order_rows (key xs) (key ys) ≡ order_rows (key (drop k xs)) (key (drop k ys)) → Less ≡ order_rows (key xs) (key ys)
order_short xs ys k h l m e = go xs ys k h l m ∙ sym e
  where
    go : (xs ys : List Table) (k : ℕ) → length xs ≤ k → k ≤ length xs → length xs < length ys → Less ≡ order_rows (key (drop k xs)) (key (drop k ys))
    go [] [] k h l m = absurd (omega (arith, m))
    go [] (y ∷ ys) zero h l m = refl
    go [] (y ∷ ys) (suc k) h l m = absurd (omega (arith, l))
    go (x ∷ xs) ys zero h l m = absurd (omega (arith, h))
    go (x ∷ xs) [] (suc k) h l m = absurd (omega (arith, m))
    go (x ∷ xs) (y ∷ ys) (suc k) h l m = go xs ys k (omega (arith, h)) (omega (arith, l)) (omega (arith, m))

module _ {A : Type 0} (f : A → List (List ℤ)) where
  by-index : (P : A → Type 0) (xs : List A) → ((k : ℕ) (d : A) → k < length xs → P (get_or xs k d)) → AllOf xs P
  by-index P [] h = tt
  by-index P (x ∷ xs) h = (h 0 x (omega arith), by-index P xs (λ k d l. h (suc k) d (omega (arith, l))))

  -- A sorted list climbs.
  pub sorted-climbs : (xs : List A) → IsSortedBy (below f) xs → Climbs f xs
  sorted-climbs [] up = tt
  sorted-climbs (x ∷ xs) up = (
    by-index (λ y. below f y x ≡ false) xs (λ j d l. sorted_far (below f) (ranks_by rows_total f) (x ∷ xs) up 0 (suc j) d (omega arith) (omega (arith, l))),
    sorted-climbs xs (λ k d a b. let at : suc (k + 1) ≡ suc k + 1 = omega arith in ap (λ j. below f (get_or (x ∷ xs) j d) (get_or xs k d)) at ∙ up (suc k) d (omega arith) (omega (arith, b))),
  )

-- What a stable sort by rows gives.
pub sorted-tables : (xs ys : List (List Table)) → IsSortedBy (below key) ys → IsStableBy (below key) xs ys → map pure_tables ys ≡ by_rows rows_in (map pure_tables xs)
sorted-tables xs ys up st = ap (map pure_tables) (sorted-by-rows key xs ys (sorted-climbs key ys up) st) ∙ by-rows-map pure_tables rows_in xs
