-- Slots with their tables, in the order of their rows.
use Rattle.std.specs.Prelude.{if◌then◌else◌, List, [], ◌∷◌, ◌++◌, map, length, replicate, ◌-◌, ℤ, Option, Some, None}
use Rattle.std.specs.declared.cmp.Ordering.{Ordering}
use Rattle.std.specs.declared.cmp.Ordering.TheVariants.{Greater}
use Rattle.ess_semantics.specs.Values.{Value}
use Rattle.ess_semantics.specs.Tables.{Tables}
use Rattle.ess_semantics.specs.Cells.{order_rows}
use Rattle.ess_semantics.specs.Layers.{Layer}
use Rattle.ess_semantics.specs.Representations.{places}
use Rattle.ess_semantics.specs.Canonical.{somes}

-- The rows of tables, in the order of their declarations.
abbrev pub rows_in : Tables → List (List ℤ)
rows_in ts = map (λ t. t.items) ts

-- The next item of a sorted list, by the order of two items.
abbrev pub put_by : {A : Type 0} → Ordering → A → A → List A → List A → List A
put_by Greater x y ys rest = y ∷ rest
put_by _ x y ys rest = x ∷ y ∷ ys

-- An item put into a list that is sorted by rows.
abbrev pub put_in : {A : Type 0} → (A → List (List ℤ)) → A → List A → List A
put_in f x [] = x ∷ []
put_in f x (y ∷ ys) = put_by (order_rows (f x) (f y)) x y ys (put_in f x ys)

-- The items in the order of the rows that f gives for each; those with the same rows keep their order.
abbrev pub by_rows : {A : Type 0} → (A → List (List ℤ)) → List A → List A
by_rows f [] = []
by_rows f (x ∷ xs) = put_in f x (by_rows f xs)

-- A value in a slot, with its tables.
abbrev pub Filled : Type 0
Filled = Value × Tables

-- Each slot in use with its tables, which stand in the order of the inner values.
abbrev pub filled : List (Option Value) → List Tables → List (Option Filled)
filled [] tss = []
filled (None ∷ vs) tss = None ∷ filled vs tss
filled (Some v ∷ vs) [] = None ∷ filled vs []
filled (Some v ∷ vs) (ts ∷ tss) = Some (v, ts) ∷ filled vs tss

-- The tables of each slot.
abbrev pub tables_in : List (Option Filled) → List (Option Tables)
tables_in [] = []
tables_in (None ∷ ss) = None ∷ tables_in ss
tables_in (Some s ∷ ss) = Some s.1 ∷ tables_in ss

-- The slots in their places: sorted ones by their rows, first, and as many as there are places; others as they stand.
abbrev pub in_places : Layer → List (Option Filled) → List (Option Filled)
in_places l ss =
    if l.is_sorted then map (λ s. Some s) (by_rows (λ s. rows_in s.1) (somes ss)) ++ replicate (length (places l) - length (somes ss)) None
    else ss
