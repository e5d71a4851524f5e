-- The tables of a slot, cut out of those under the layer's axes, and the numbers of the slots in use.
use Rattle.std.specs.Prelude.{ℕ, zero, suc, ◌*◌, if◌then◌else◌, List, [], ◌∷◌, map, take, drop, ℤ, Option, Some, option_map}
use Rattle.ess_semantics.specs.Lists.{and_then, only_of}
use Rattle.ess_semantics.specs.Numbers.{not_below_0}
use Rattle.ess_semantics.specs.Tables.{Table, Tables, volume, truth_of}
use Rattle.ess_semantics.specs.Cells.{Axes}
use Rattle.ess_semantics.specs.Layers.{Use, everywhere, all_slots, up_to_marker, where_flagged, where_counted, within_slots, if_positive}

-- The part of a table behind the first b axes, at the place with k places before it: one of the equal parts of its items.
abbrev pub part_at : ℕ → ℕ → Table → Table
part_at b k t =
    let as' : Axes = drop b t.axes in
    record { axes = as'; items = take (volume as') (drop (k * volume as') t.items) }

-- The tables of the slot with k slots before it.
abbrev pub parts_at : ℕ → Tables → ℕ → Tables
parts_at b ts k = map (part_at b k) ts

-- n numbers, from k on.
abbrev pub numbers_from : ℕ → ℕ → List ℕ
numbers_from k zero = []
numbers_from k (suc n) = k ∷ numbers_from (suc k) n

-- The numbers of the cells that are true, counted from k, where each is a truth value.
abbrev pub flagged_from : ℕ → List ℤ → Option (List ℕ)
flagged_from k [] = Some []
flagged_from k (n ∷ ns) = and_then (truth_of n) (λ b. option_map (λ ks. if b then k ∷ ks else ks) (flagged_from (suc k) ns))

-- The numbers of the cells above 0, counted from k, where none is below 0.
abbrev pub counted_from : ℕ → List ℤ → Option (List ℕ)
counted_from k [] = Some []
counted_from k (n ∷ ns) = and_then (not_below_0 n) (λ m. option_map (if_positive m k) (counted_from (suc k) ns))

-- The items of the first table.
abbrev pub first_items : Tables → List ℤ
first_items [] = []
first_items (t ∷ ts) = t.items

-- The numbers of the slots in use, of n slots, by the layer's own tables; nothing where these stand for nothing.
abbrev pub used_numbers : Use → ℕ → Tables → Option (List ℕ)
used_numbers everywhere n ts = Some (numbers_from 0 n)
used_numbers (all_slots m) n ts = Some (numbers_from 0 n)
used_numbers up_to_marker n ts = and_then (only_of (first_items ts)) (λ m. option_map (numbers_from 0) (within_slots m n))
used_numbers where_flagged n ts = flagged_from 0 (first_items ts)
used_numbers where_counted n ts = counted_from 0 (first_items ts)
