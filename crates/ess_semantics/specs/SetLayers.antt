-- The representations of sets: which members occur, or slots for the members.
use Rattle.std.specs.Prelude.{ℕ, Bool, true, ◌&&◌, ◌||◌, not, if◌then◌else◌, List, [], ◌∷◌, ◌++◌, map, filter, length, replicate, ◌-◌, ℤ, pos, ◌+ℤ◌, Option, Some, None, int_lt, option_map}
use Rattle.std.specs.List.{list_any, list_all}
use Rattle.ess_semantics.specs.Lists.{and_then, each_of, append_all, is_some_and}
use Rattle.ess_semantics.specs.Values.{a_set, Value, node, of_list, items_of}
use Rattle.ess_semantics.specs.Order.{same_int}
use Rattle.ess_semantics.specs.Collections.{holds, set_of}
use Rattle.ess_semantics.specs.Numbers.{natural, one_to}
use Rattle.ess_semantics.specs.Domains.{Attribute, Domain, booleans, integers, named, member_list}
use Rattle.ess_semantics.specs.Attributes.{set_attributes_hold}
use Rattle.ess_semantics.specs.Sizes.{slots_of_set}
use Rattle.ess_semantics.specs.Tables.{Table, Tables, code, atom_value, truth_number, one_cell, row_of}
use Rattle.ess_semantics.specs.Cells.{Grid, only_grid, first_grid}
use Rattle.ess_semantics.specs.Layers.{Layer, Use, all_slots, up_to_marker, where_flagged, Slot, codes_of, as_numbers, up_to, fixed_table, widened_table, plain_layer, some_each, own_cell, own_row, count_true, chosen, only_child, how_many, flags_table}

-- A truth value for each member of the inner domain.
abbrev pub occurrence_layer : List Attribute → Domain → Layer
occurrence_layer ks d =
    record (plain_layer (λ c vss. only_grid c (λ f. option_map (λ xs. node a_set (of_list xs)) (chosen (member_list d) (λ x. f (code x ∷ [])))))) {
      own = fixed_table (codes_of d ∷ []) booleans ∷ [];
      own_tables = λ v ss. row_of (codes_of d) (map (λ x. truth_number (holds (items_of v) x)) (member_list d)) ∷ [];
      is_canonical = λ c vss. set_attributes_hold ks (count_true (own_row (codes_of d ∷ []) c));
    }

-- n slots for the members of a set, in which different members stand.
abbrev pub slots_layer : ℕ → Domain → Use → Layer
slots_layer n d use_of_slots = record (plain_layer (λ c vss. Some (set_of (only_child vss)))) {
  children = d ∷ [];
  axes = one_to n ∷ [];
  in_use = use_of_slots;
  is_sorted = true;
  is_distinct = true;
  contents = λ v. some_each (items_of v) ∷ [];
}

-- All slots in use.
abbrev pub explicit_layer : List Attribute → Domain → Layer
explicit_layer ks d =
    let n : ℕ = slots_of_set ks d in
    record (slots_layer n d (all_slots n)) { is_canonical = λ c vss. set_attributes_hold ks n }

-- The number of slots in use.
abbrev pub marker_table : Value → List (Option Slot) → Tables
marker_table v ss = one_cell (pos (how_many ss)) ∷ []

-- The first slots in use, as many as the marker says.
abbrev pub marker_layer : List Attribute → Domain → Layer
marker_layer ks d =
    let n : ℕ = slots_of_set ks d in
    record (slots_layer n d up_to_marker) {
      own = fixed_table [] (up_to n) ∷ [];
      own_tables = marker_table;
      is_canonical = λ c vss. is_some_and (own_cell c []) (λ m. set_attributes_hold ks (natural m));
    }

-- Those slots in use whose flag is true.
abbrev pub flags_layer : List Attribute → Domain → Layer
flags_layer ks d =
    let n : ℕ = slots_of_set ks d in
    record (slots_layer n d where_flagged) {
      own = fixed_table (one_to n ∷ []) booleans ∷ [];
      own_tables = λ v ss. flags_table (one_to n ∷ []) ss ∷ [];
      is_canonical = λ c vss. set_attributes_hold ks (count_true (own_row (one_to n ∷ []) c));
    }

-- ---- the dummy

-- One above the last member.
abbrev pub dummy_of : Domain → Option ℤ
dummy_of (integers (s ∷ [])) = option_map (λ b. b +ℤ pos 1) s.high
dummy_of (named t n) = Some (pos n +ℤ pos 1)
dummy_of _ = None

-- A domain of numbers with one more member.
abbrev pub with_number : Option ℤ → Domain → Domain
with_number (Some m) (integers ss) = integers (ss ++ (record { low = Some m; high = Some m } ∷ []))
with_number _ d = d

-- The member in a slot, or none where it holds the dummy m.
abbrev pub but_dummy : Domain → ℤ → ℤ → Option (List Value)
but_dummy d m n = if same_int m n then Some [] else option_map (λ v. v ∷ []) (atom_value d n)

-- Numbers but the dummy stand first, and no two of them are equal.
abbrev pub dummies_last : ℤ → List ℤ → Bool
dummies_last m [] = true
dummies_last m (n ∷ ns) =
    if same_int m n then list_all (same_int m) ns
    else not (list_any (same_int n) ns) && dummies_last m ns

-- Whether a slot is there and holds another number than the dummy m.
abbrev pub holds_member : ℤ → Grid → ℤ → Bool
holds_member m f k = is_some_and (f (k ∷ [])) (λ n. not (same_int m n))

-- Whether the number in a slot is below that in another one.
abbrev pub slot_below : Grid → ℤ → ℤ → Bool
slot_below f j k = is_some_and (f (j ∷ [])) (λ a. is_some_and (f (k ∷ [])) (λ b. int_lt a b))

-- Each slot that holds a member stands above the slot before it. The dummy is above all members.
abbrev pub dummies_rise : ℕ → ℤ → Grid → Bool
dummies_rise n m f = list_all (λ k. not (holds_member m f (k +ℤ pos 1)) || slot_below f k (k +ℤ pos 1)) (one_to n)

-- How many slots hold a member.
abbrev pub members_held : ℕ → ℤ → Grid → ℕ
members_held n m f = length (filter (holds_member m f) (one_to n))

-- The set of the members in n slots, where m is the dummy.
abbrev pub set_in_slots : ℕ → Domain → ℤ → Grid → Option Value
set_in_slots n d m f = option_map (λ ls. set_of (append_all ls)) (each_of (one_to n) (λ k. and_then (f (k ∷ [])) (but_dummy d m)))

-- n slots with the members, and the dummy m behind them.
abbrev pub members_and_dummies : ℕ → ℤ → Value → Table
members_and_dummies n m v = row_of (one_to n) (map code (items_of v) ++ replicate (n - length (items_of v)) m)

-- Each slot is there, and the dummies are last.
abbrev pub ends_in_dummies : ℕ → ℤ → Grid → Bool
ends_in_dummies n m f = is_some_and (each_of (one_to n) (λ k. f (k ∷ []))) (dummies_last m)

-- Slots for the members, where the dummy stands for no member.
abbrev pub dummy_layer : List Attribute → Domain → Layer
dummy_layer ks d =
    let n : ℕ = slots_of_set ks d in
    record (plain_layer (λ c vss. only_grid c (λ f. and_then (dummy_of d) (λ m. set_in_slots n d m f)))) {
      own = widened_table (one_to n ∷ []) (with_number (dummy_of d) (as_numbers d)) ∷ [];
      own_tables = λ v ss. elim (dummy_of d) [ None ↦ [] | Some m ↦ members_and_dummies n m v ∷ [] ];
      is_canonical = λ c vss. is_some_and (dummy_of d) (λ m. dummies_rise n m (first_grid c) && set_attributes_hold ks (members_held n m (first_grid c)));
      is_tidy = λ c. is_some_and (dummy_of d) (λ m. ends_in_dummies n m (first_grid c));
    }
