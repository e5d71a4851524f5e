-- Refined trees over views by examples. The table f holds truth values and has one axis.
use Rattle.std.proofs.Common.{◌≡◌, refl, ℕ, Bool, true, false, if◌then◌else◌, List, [], ◌∷◌, pos, Option, Some, None, codes}
use Rattle.ess_semantics.specs.declared.words.Op1.{Op1}
use Rattle.ess_semantics.specs.declared.words.Op2.{Op2}
use Rattle.ess_semantics.specs.declared.words.Fun.{Fun}
use Rattle.ess_semantics.specs.Values.{Text}
use Rattle.ess_semantics.specs.Order.{same_text}
use Rattle.ess_semantics.specs.Trees.{both_ends, name_pat, Ex, number_ex, name_ex, comp_ex, cell_ex, no_exs, more_exs, no_gens, over, cond, int_dom, ex1, ex2, fun1}
use Rattle.ess_semantics.specs.Refined.{is_refined}
use Rattle.ess_rules_laws.specs.SourceRules.{list_of}
use Rattle.ess_seen_laws.specs.ess_bare_laws.Lean.{of_sum, Ended}
use Rattle.ess_seen_laws.specs.Seen.{scalars, sets_of, from_a_set, counted_axes, Seen, number, named, drawn, combined, lessened, compared, alike, folded, of_items, last_item, item_before, size, flag, one_index, no_index, through, where_holds, at_end, numbers}
use Rattle.ess_seen_ended_laws.proofs.Ended.{seen-ends}

abbrev i_name : Text
i_name = codes "i"

abbrev tables : Text → Option (Bool × List ℕ)
tables a = if same_text (codes "f") a then Some (true, 3 ∷ []) else None

-- `sum([1 | i : int(1..3), f[i]])`, as the size of a set with flags is counted.
abbrev slots_in_use : Ex
slots_in_use = fun1 false Fun.Sum (comp_ex (number_ex (pos 1))
    (over (name_pat i_name) (int_dom (both_ends ∷ []) (more_exs (number_ex (pos 1)) (more_exs (number_ex (pos 3)) no_exs)))
    (cond (cell_ex true (codes "f") (more_exs (name_ex i_name) no_exs)) no_gens)))

seen_count : Seen tables [] slots_in_use false
seen_count = folded of_sum (through (numbers number number) (where_holds (flag refl (one_index (named refl refl) no_index)) at_end)) number

-- It is refined, and so is a sum of it alone: rules may end in either.
count_refined : is_refined slots_in_use ≡ true
count_refined = refl

alone_refined : is_refined (fun1 false Fun.Sum (list_of (more_exs slots_in_use no_exs))) ≡ true
alone_refined = refl

alone_ended : Ended (counted_axes tables) [] (fun1 false Fun.Sum (list_of (more_exs slots_in_use no_exs))) false
alone_ended = seen-ends tables (fun1 false Fun.Sum (list_of (more_exs slots_in_use no_exs))) false
    (of_items of_sum (last_item seen_count)) alone_refined

-- The size of a set that a name stands for is refined too: so no set may be bound around the tree.
size_refined : is_refined (ex1 false Op1.Bar (name_ex i_name)) ≡ true
size_refined = refl

size_seen : Seen tables ((i_name, from_a_set (sets_of (scalars false))) ∷ []) (ex1 false Op1.Bar (name_ex i_name)) false
size_seen = size (drawn refl)

-- So is a list of two items, as the parts of a union are folded.
abbrev both_counts : Ex
both_counts = fun1 false Fun.Sum (list_of (more_exs slots_in_use (more_exs slots_in_use no_exs)))

both_ended : Ended (counted_axes tables) [] both_counts false
both_ended = seen-ends tables both_counts false (of_items of_sum (item_before seen_count (last_item seen_count))) refl

-- `i - i = i` of a name i that stands for a set is refined as one of numbers is, and `i union i` isn't.
abbrev less : Ex
less = ex2 false Op2.Minus (name_ex i_name) (name_ex i_name)

less_refined : is_refined (ex2 true Op2.Eq less (name_ex i_name)) ≡ true
less_refined = refl

less_seen : Seen tables ((i_name, from_a_set (sets_of (scalars false))) ∷ []) (ex2 true Op2.Eq less (name_ex i_name)) true
less_seen = compared alike (combined lessened (drawn refl) (drawn refl)) (drawn refl)

united_unrefined : is_refined (ex2 false Op2.Union (name_ex i_name) (name_ex i_name)) ≡ false
united_unrefined = refl
