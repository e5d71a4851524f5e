-- Sums over members, sizes of sets that are made of two, numbers of slots, and numbers in cells, by examples. The sets and their tables are
-- those of the other examples.
use Rattle.std.proofs.Common.{◌≡◌, refl, ap, ℕ, Bool, true, false, List, [], ◌∷◌, pos, Option, Some, None, codes, arith}
use Rattle.ess_semantics.specs.declared.words.Op1.{Op1}
use Rattle.ess_semantics.specs.declared.words.Op2.{Op2}
use Rattle.ess_semantics.specs.declared.words.Fun.{Fun}
use Rattle.ess_semantics.specs.Values.{number as value_of}
use Rattle.ess_semantics.specs.Trees.{name_pat, Ex, number_ex, name_ex, comp_ex, cell_ex, no_exs, more_exs, no_gens, over, from, cond, ex1, ex2, fun1}
use Rattle.ess_semantics.specs.Tables.{row_of, one_cell}
use Rattle.ess_semantics.specs.Meaning.{Env, empty_env, meaning}
use Rattle.ess_rules_laws.specs.SizeRules.{size_term}
use Rattle.ess_rules_laws.specs.SlotListings.{slots_dom}
use Rattle.ess_rules_laws.specs.SourceRules.{list_of}
use Rattle.ess_rules_laws.specs.ListedSources.{source_parts}
use Rattle.ess_bare_laws.specs.ess_kind_rules_laws.ViewListings.{view_listing}
use Rattle.ess_refine_laws.specs.LeavingConditions.{condition_leaves}
use Rattle.ess_bare_laws.specs.ess_flat_laws.Flat.{product}
use Rattle.ess_bare_laws.specs.Lean.{of_sum}
use Rattle.ess_seen_laws.specs.Seen.{Bound, over_a_range, over_slots, Counted, so_many, from_to, subsets, none_below, at_slot, no_place, drawn, Seen, number, named, counted, figure, flag, two, chosen, folded, of_items, size, last_item, one_index, no_index, at_end, through_slots, among, where_holds}
use Rattle.ess_seen_laws.specs.Filled.{IsSlot, InSlots, HasCell}
use Rattle.ess_seen_laws.proofs.Held.{slots-more}
use Rattle.ess_seen_laws.proofs.ViewParts.{counted-parts}
use Rattle.ess_seen_laws.proofs.ExamplesSeen.{x_name, i_name, s_view, s_slot, of_both, tables, seen_view, seen_slot, seen_union}

-- A numeral.
abbrev n : ℕ → Ex
n k = number_ex (pos k)

-- ---- sums over members

-- `sum([|x| | x <- s])`.
abbrev sizes : Ex
sizes = fun1 false Fun.Sum (comp_ex (ex1 false Op1.Bar (name_ex x_name)) (from (name_pat x_name) s_view no_gens))

seen_sizes : Seen tables [] sizes false
seen_sizes = folded of_sum (among seen_view at_end) (size (drawn refl))

-- The flag of slot i.
abbrev flag_at : Ex
flag_at = cell_ex true (codes "f") (more_exs (name_ex i_name) no_exs)

-- What a rule makes of it by the slots: `sum([sum([|s[i]| | i : int(1..3), f[i]])])`.
abbrev sizes_in_slots : Ex
sizes_in_slots = fun1 false Fun.Sum (list_of (more_exs (fun1 false Fun.Sum (comp_ex (ex1 false Op1.Bar s_slot)
    (over (name_pat i_name) (slots_dom (n 3)) (cond flag_at no_gens)))) no_exs))

opened : elim (view_listing i_name x_name [] s_view) [ None ↦ None | Some a ↦ source_parts (a ∷ []) sizes ] ≡ Some sizes_in_slots
opened = refl

seen_opened : Seen tables [] sizes_in_slots false
seen_opened = of_items of_sum (last_item (folded of_sum
    (through_slots so_many (where_holds (flag refl (one_index (named refl refl) no_index)) at_end)) (size seen_slot)))

-- A condition leaves a sum, `sum([n[i] | i : int(1..3), f[i]])`: each number of what is left has a value, since n has three slots.
abbrev item_at : Ex
item_at = cell_ex false (codes "n") (more_exs (name_ex i_name) no_exs)

abbrev used_items : Ex
used_items = fun1 false Fun.Sum (comp_ex item_at (over (name_pat i_name) (slots_dom (n 3)) (cond flag_at no_gens)))

-- `sum([toInt(f[i]) * sum([n[i] | ]) | i : int(1..3)])`.
abbrev chosen_items : Ex
chosen_items = fun1 false Fun.Sum (comp_ex (ex2 false Op2.Times (fun1 false Fun.ToInt flag_at)
    (fun1 false Fun.Sum (comp_ex item_at no_gens))) (over (name_pat i_name) (slots_dom (n 3)) no_gens))

condition_left : condition_leaves used_items ≡ Some chosen_items
condition_left = refl

seen_used : Seen tables [] used_items false
seen_used = folded of_sum (through_slots so_many (where_holds (flag refl (one_index (named refl refl) no_index)) at_end))
    (figure refl (at_slot refl no_place))

seen_chosen : Seen tables [] chosen_items false
seen_chosen = folded of_sum (through_slots so_many at_end) (two product (chosen (flag refl (one_index (named refl refl) no_index)))
    (folded of_sum at_end (figure refl (at_slot refl no_place))))

-- A number of a cell is asked at slots that its axis has, neither at a range nor at more slots.
range-isnt-slots : (k : ℕ) → Some (over_a_range false) ≡ Some (over_slots k) → ⊥
range-isnt-slots k q = cc

no_range : Seen tables ((i_name, over_a_range false) ∷ []) item_at false → ⊥
no_range (figure h (at_slot {k = k} q p)) = range-isnt-slots k q
no_range (counted c) = counted-parts [] c

-- How many places the first axis of a table has, and over how many slots a name is bound.
abbrev first : List ℕ → ℕ
first [] = 0
first (k ∷ ks) = k

abbrev places_of : Option (Bool × List ℕ) → ℕ
places_of None = 0
places_of (Some c) = first c.1

abbrev slots_of : Option Bound → ℕ
slots_of (Some (over_slots k)) = k
slots_of o = 0

three-arent-four : (k : ℕ) → 3 ≡ k → 4 ≡ k → ⊥
three-arent-four k h q = omega arith

no_more_slots : Seen tables ((i_name, over_slots 4) ∷ []) item_at false → ⊥
no_more_slots (figure h (at_slot {k = k} q p)) = three-arent-four k (ap places_of h) (ap slots_of q)
no_more_slots (counted c) = counted-parts [] c

-- ---- sizes

-- `|s union t|`, and what a rule makes of it: `sum([1 | x <- s union t])`.
abbrev of_all_members : Ex
of_all_members = fun1 false Fun.Sum (comp_ex (n 1) (from (name_pat x_name) of_both no_gens))

size_of_both : size_term [] x_name (ex1 false Op1.Bar of_both) ≡ Some of_all_members
size_of_both = refl

seen_size : Seen tables [] (ex1 false Op1.Bar of_both) false
seen_size = size seen_union

seen_counted : Seen tables [] of_all_members false
seen_counted = folded of_sum (among seen_union at_end) number

-- ---- numbers of slots

-- `1 - 2 + 5` is 4, `2 ** (1 - 2 + 5)` is 16, and so is `max([2 ** (1 - 2 + 5), 0])`.
abbrev from_2_to_5 : Ex
from_2_to_5 = ex2 false Op2.Plus (ex2 false Op2.Minus (n 1) (n 2)) (n 5)

abbrev of_subsets : Ex
of_subsets = ex2 false Op2.Pow (n 2) from_2_to_5

abbrev of_exponent : Ex
of_exponent = fun1 false Fun.Max (list_of (more_exs of_subsets (more_exs (n 0) no_exs)))

is_4 : Counted from_2_to_5 4
is_4 = from_to refl

is_16 : Counted of_subsets 16
is_16 = subsets is_4

is_16_still : Counted of_exponent 16
is_16_still = none_below is_16

means_4 : meaning from_2_to_5 empty_env ≡ Some (value_of (pos 4))
means_4 = refl

means_16 : meaning of_subsets empty_env ≡ Some (value_of (pos 16))
means_16 = refl

means_16_still : meaning of_exponent empty_env ≡ Some (value_of (pos 16))
means_16_still = refl

-- ---- tables that are filled

-- Where i is 2, and n holds 7, 8 and 9.
abbrev at_slot_2 : Env
at_slot_2 = record empty_env {
  vals = (i_name, value_of (pos 2)) ∷ [];
  cells = (codes "n", row_of (pos 1 ∷ pos 2 ∷ pos 3 ∷ []) (pos 7 ∷ pos 8 ∷ pos 9 ∷ [])) ∷ (codes "m", one_cell (pos 3)) ∷ [];
}

is_8 : meaning item_at at_slot_2 ≡ Some (value_of (pos 8))
is_8 = refl

slot_2 : IsSlot 3 (Some (value_of (pos 2)))
slot_2 = record { slot = 2; first = omega arith; last = omega arith; is = refl }

in_slots : InSlots ((i_name, over_slots 3) ∷ []) at_slot_2
in_slots = slots-more [] i_name (over_slots 3) (value_of (pos 2)) (record at_slot_2 { vals = [] }) (λ a b q. cc) slot_2

has_8 : HasCell at_slot_2 (codes "n") (pos 2 ∷ [])
has_8 = record { table = row_of (pos 1 ∷ pos 2 ∷ pos 3 ∷ []) (pos 7 ∷ pos 8 ∷ pos 9 ∷ []); found = refl; cell = pos 8; there = refl }

has_3 : HasCell at_slot_2 (codes "m") []
has_3 = record { table = one_cell (pos 3); found = refl; cell = pos 3; there = refl }
