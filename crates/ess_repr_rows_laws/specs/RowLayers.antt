-- The tables of one layer, kind by kind, as rows: made of the tables of its slots.
use Rattle.std.specs.Prelude.{ℕ, Bool, true, false, if◌then◌else◌, List, [], ◌∷◌, map, length, replicate, ℤ, pos, Option, Some, None, is_some, option_map}
use Rattle.ess_semantics.specs.Lists.{and_then, each_of}
use Rattle.ess_semantics.specs.Numbers.{one_to, not_below_0}
use Rattle.ess_semantics.specs.Tables.{Tables, truth_number, truth_of, one_cell, row_of}
use Rattle.ess_semantics.specs.Cells.{Axes}
use Rattle.ess_repr_rows_laws.specs.SlotOrder.{rows_in, by_rows}
use Rattle.ess_repr_rows_laws.specs.Stacking.{fitted, stacked}

-- All slots in use.
abbrev pub all_used : List Tables → List (Option Tables)
all_used tss = map (λ ts. Some ts) tss

-- Each item where the mark is true, in order.
abbrev pub spread : {A : Type 0} → List Bool → List A → List (Option A)
spread [] xs = []
spread (false ∷ bs) xs = None ∷ spread bs xs
spread (true ∷ bs) [] = None ∷ spread bs []
spread (true ∷ bs) (x ∷ xs) = Some x ∷ spread bs xs

-- n slots: the tables of those in use in the order of their rows.
abbrev pub slot_tables : ℕ → List Axes → List Tables → Tables
slot_tables n ass tss = stacked (one_to n ∷ []) ass (all_used (by_rows rows_in tss))

-- The same with the number of slots in use.
abbrev pub marked_tables : ℕ → List Axes → List Tables → Tables
marked_tables n ass tss = one_cell (pos (length tss)) ∷ slot_tables n ass tss

-- The same with a flag for each slot.
abbrev pub flagged_slot_tables : ℕ → List Axes → List Tables → Tables
flagged_slot_tables n ass tss = row_of (one_to n) (fitted n (replicate (length tss) (pos 1))) ∷ slot_tables n ass tss

-- The rows of a slot with a number.
abbrev pub counted_rows : ℤ × Tables → List (List ℤ)
counted_rows c = rows_in c.1

-- The same with a number for each slot, which goes along with its tables.
abbrev pub counted_tables : ℕ → List Axes → List (ℤ × Tables) → Tables
counted_tables n ass cs =
    row_of (one_to n) (fitted n (map (λ c. c.0) (by_rows counted_rows cs))) ∷
    stacked (one_to n ∷ []) ass (map (λ c. Some c.1) (by_rows counted_rows cs))

-- A flag for each place, and the tables of the places in use as they stand.
abbrev pub flagged_tables : Axes → List Axes → List (Option Tables) → Tables
flagged_tables bs ass ss = record { axes = bs; items = map (λ s. truth_number (is_some s)) ss } ∷ stacked bs ass ss

-- ---- up

-- The items whose mark is true, where each mark is a truth value.
abbrev pub picked : {A : Type 0} → List ℤ → List A → Option (List A)
picked [] xs = Some []
picked (n ∷ ns) [] = Some []
picked (n ∷ ns) (x ∷ xs) = and_then (truth_of n) (λ b. option_map (λ ys. if b then x ∷ ys else ys) (picked ns xs))

-- The numbers of times, where none is below 0.
abbrev pub times_of : List ℤ → Option (List ℕ)
times_of ns = each_of ns not_below_0
