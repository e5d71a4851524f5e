-- The representations of multisets: how often each member occurs, or slots for the members.
use Rattle.std.specs.Prelude.{ℕ, true, ◌&&◌, ◌||◌, Bool, List, [], ◌∷◌, map, ℤ, pos, Option, Some, None, int_le, option_map}
use Rattle.std.specs.List.{list_all}
use Rattle.ess_semantics.specs.declared.words.Key.{Key}
use Rattle.ess_semantics.specs.Lists.{and_then, each_of, is_some_and}
use Rattle.ess_semantics.specs.Values.{a_mset, Value, node, of_list, items_of}
use Rattle.ess_semantics.specs.Order.{same_int}
use Rattle.ess_semantics.specs.Collections.{count, sorted_once, mset_of}
use Rattle.ess_semantics.specs.Numbers.{natural, one_to, not_below_0}
use Rattle.ess_semantics.specs.Domains.{Attribute, Domain, member_list}
use Rattle.ess_semantics.specs.Attributes.{each_number_holds, occurs_holds, set_attributes_hold}
use Rattle.ess_semantics.specs.Sizes.{slots_of_mset, occurrences}
use Rattle.ess_semantics.specs.Tables.{code, row_of}
use Rattle.ess_semantics.specs.Cells.{only_grid}
use Rattle.ess_semantics.specs.Layers.{Layer, up_to_marker, where_counted, Slot, codes_of, up_to, fixed_table, plain_layer, some_each, own_cell, own_row, total, repeated, each_repeated, only_child}
use Rattle.ess_semantics.specs.SetLayers.{marker_table}

-- How often x occurs in v.
abbrev pub occurs : Value → Value → ℤ
occurs v x = pos (count (items_of v) x)

-- A member that occurs m times does so as often as the attribute says, where it occurs at all.
abbrev pub times_hold : Key → ℤ → ℤ → Bool
times_hold Key.MinOccur n m = same_int m (pos 0) || int_le n m
times_hold Key.MaxOccur n m = same_int m (pos 0) || int_le m n
times_hold _ n m = true

-- What the attributes ask of the numbers of times.
abbrev pub counts_hold : List Attribute → List ℤ → Bool
counts_hold ks ns = set_attributes_hold ks (total ns) && each_number_holds ks (λ k n. list_all (times_hold k n) ns)

-- A number for each member of the inner domain.
abbrev pub mset_occurrence_layer : List Attribute → Domain → Layer
mset_occurrence_layer ks d =
    record (plain_layer (λ c vss. only_grid c (λ f.
    option_map (λ ns. node a_mset (of_list (each_repeated ns (member_list d)))) (each_of (member_list d) (λ x. and_then (f (code x ∷ [])) not_below_0))))) {
      own = fixed_table (codes_of d ∷ []) (up_to (occurrences ks)) ∷ [];
      own_tables = λ v ss. row_of (codes_of d) (map (occurs v) (member_list d)) ∷ [];
      is_canonical = λ c vss. counts_hold ks (own_row (codes_of d ∷ []) c);
    }

-- Slots for the members, repeats included. Equal members may stand in any two slots.
abbrev pub repetition_layer : List Attribute → Domain → Layer
repetition_layer ks d =
    let n : ℕ = slots_of_mset ks d in
    record (plain_layer (λ c vss. Some (mset_of (only_child vss)))) {
      own = fixed_table [] (up_to n) ∷ [];
      children = d ∷ [];
      axes = one_to n ∷ [];
      in_use = up_to_marker;
      is_sorted = true;
      contents = λ v. some_each (items_of v) ∷ [];
      own_tables = marker_table;
      is_canonical = λ c vss.
          is_some_and (own_cell c []) (λ m. set_attributes_hold ks (natural m)) && each_number_holds ks (λ k z. occurs_holds k z (only_child vss));
    }

-- How often the value of a slot occurs; 0 for a slot out of use.
abbrev pub slot_count : Value → Option Slot → ℤ
slot_count v None = pos 0
slot_count v (Some s) = occurs v s.0

-- Slots for the different members, each with how often it occurs.
abbrev pub mset_flags_layer : List Attribute → Domain → Layer
mset_flags_layer ks d =
    let n : ℕ = slots_of_mset ks d in
    record (plain_layer (λ c vss.
    option_map (λ ns. mset_of (repeated ns (only_child vss))) (each_of (one_to n) (λ k. and_then (own_cell c (k ∷ [])) not_below_0)))) {
      own = fixed_table (one_to n ∷ []) (up_to (occurrences ks)) ∷ [];
      children = d ∷ [];
      axes = one_to n ∷ [];
      in_use = where_counted;
      is_sorted = true;
      is_distinct = true;
      contents = λ v. some_each (sorted_once (items_of v)) ∷ [];
      own_tables = λ v ss. row_of (one_to n) (map (slot_count v) ss) ∷ [];
      is_canonical = λ c vss. counts_hold ks (own_row (one_to n ∷ []) c);
    }
