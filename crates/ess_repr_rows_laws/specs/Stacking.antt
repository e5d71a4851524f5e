-- Tables whose first axes are a layer's: the items of the slots one behind the other, in the order of their places, then
-- zeros.
use Rattle.std.specs.Prelude.{ℕ, zero, suc, ◌-◌, List, [], ◌∷◌, ◌++◌, map, length, take, replicate, ℤ, pos, Option, Some, None}
use Rattle.ess_semantics.specs.Lists.{append_all}
use Rattle.ess_semantics.specs.Tables.{Table, Tables, volume}
use Rattle.ess_semantics.specs.Cells.{Axes}

-- So many zeros.
abbrev pub zeros : ℕ → List ℤ
zeros n = replicate n (pos 0)

-- Exactly n items: the first ones, and zeros where there are fewer.
abbrev pub fitted : ℕ → List ℤ → List ℤ
fitted n xs = take n xs ++ zeros (n - length xs)

-- The items of the table with k tables before it; none where there is no such table.
abbrev pub items_of_table : ℕ → Tables → List ℤ
items_of_table k [] = []
items_of_table zero (t ∷ ts) = t.items
items_of_table (suc k) (t ∷ ts) = items_of_table k ts

-- The items that a slot has in the table with k tables before it: v zeros where it is out of use.
abbrev pub slot_items : ℕ → ℕ → Option Tables → List ℤ
slot_items k v None = zeros v
slot_items k v (Some ts) = items_of_table k ts

-- The items of the slots, one slot behind the other.
abbrev pub items_in_turn : ℕ → ℕ → List (Option Tables) → List ℤ
items_in_turn k v ss = append_all (map (slot_items k v) ss)

-- The table over the layer's axes bs and the slots' axes.
abbrev pub stacked_table : Axes → ℕ → Axes → List (Option Tables) → Table
stacked_table bs k as' ss = record { axes = bs ++ as'; items = fitted (volume (bs ++ as')) (items_in_turn k (volume as') ss) }

-- The tables from the one with k tables before it on.
abbrev pub stacked_from : ℕ → Axes → List Axes → List (Option Tables) → Tables
stacked_from k bs [] ss = []
stacked_from k bs (as' ∷ ass) ss = stacked_table bs k as' ss ∷ stacked_from (suc k) bs ass ss

-- The tables of all slots under the layer's axes.
abbrev pub stacked : Axes → List Axes → List (Option Tables) → Tables
stacked bs ass ss = stacked_from 0 bs ass ss
