-- Worked examples: generators, operands and types by their parts, and what is picked in order.
use Rattle.std.proofs.Common.{◌≡◌, refl, true, false, [], ◌∷◌, pos, Some, None, is_some}
use Rattle.ess_semantics.specs.Values.{a_matrix}
use Rattle.ess_semantics.specs.Trees.{by_value, index, name_pat, tuple_pat, no_pats, Ex, Exs, number_ex, name_ex, node_ex, comp_ex, cell_ex, no_exs, more_exs, no_gens, over, from, cond, bool_dom}
use Rattle.ess_semantics.specs.Types.{int_ty, bool_ty, compound2}
use Rattle.ess_core.specs.TreeViews.{over_item, from_item, cond_item}
use Rattle.ess_rules_laws.specs.SourceRules.{list_of}
use Rattle.ess_refine_laws.specs.AllRules.{Supply}
use Rattle.ess_kind_rules_laws.specs.TermLookups.{looked_up}
use Rattle.ess_ordered_laws.specs.NumberedItems.{numbered_item}
use Rattle.ess_rules_ordered.specs.AloneForms.{alone_over}
use Rattle.ess_rules_ordered.specs.IndexForms.{open_at, item_of_matrix}
use Rattle.ess_rules_ordered.specs.PickedForms.{is_told, item_or_other, are_decided_items}
use Rattle.ess_rules_ordered.specs.Supplies.{supply_with}

-- `x : bool` is a name over a domain, alone; with a condition behind it, over a value, or by a pattern it isn't.
one_name : alone_over (over (name_pat (120 ∷ [])) bool_dom no_gens) ≡ Some (120 ∷ [], bool_dom)
one_name = refl

with_a_condition : alone_over (over (name_pat (120 ∷ [])) bool_dom (cond (name_ex (120 ∷ [])) no_gens)) ≡ None
with_a_condition = refl

over_a_value : alone_over (from (name_pat (120 ∷ [])) (name_ex (109 ∷ [])) no_gens) ≡ None
over_a_value = refl

by_a_pattern : alone_over (over (tuple_pat no_pats) bool_dom no_gens) ≡ None
by_a_pattern = refl

-- Of m and a cell an item is picked by the cell; of m and a number it isn't, nor where there are three operands.
by_a_cell : open_at (more_exs (name_ex (109 ∷ [])) (more_exs (cell_ex false (99 ∷ []) no_exs) no_exs)) ≡ true
by_a_cell = refl

by_a_number : open_at (more_exs (name_ex (109 ∷ [])) (more_exs (number_ex (pos 1)) no_exs)) ≡ false
by_a_number = refl

of_three : open_at (more_exs (name_ex (109 ∷ [])) (more_exs (cell_ex false (99 ∷ []) no_exs) (more_exs (number_ex (pos 1)) no_exs)))
    ≡ false
of_three = refl

-- Items of a matrix of truth values are such; numbers have no items.
truths : item_of_matrix (Some (compound2 a_matrix int_ty bool_ty)) ≡ Some bool_ty
truths = refl

no_matrix : item_of_matrix (Some int_ty) ≡ None
no_matrix = refl

-- Over a domain, alone, items are told; under a condition that reads a cell they aren't, nor by two alternatives.
told_over_bool : is_told (record { gens = over (name_pat (120 ∷ [])) bool_dom no_gens; item = number_ex (pos 1) } ∷ []) ≡ true
told_over_bool = refl

by_a_table : is_told (record { gens = cond (cell_ex true (99 ∷ []) no_exs) no_gens; item = number_ex (pos 1) } ∷ []) ≡ false
by_a_table = refl

by_two : is_told (record { gens = no_gens; item = number_ex (pos 1) } ∷ record { gens = no_gens; item = number_ex (pos 2) } ∷ []) ≡ false
by_two = refl

-- Over a domain and under a condition on a name no table decides; over what isn't a comprehension one may.
no_table : are_decided_items (over_item (name_pat (120 ∷ [])) bool_dom ∷ cond_item (name_ex (120 ∷ [])) ∷ []) ≡ true
no_table = refl

over_a_term : are_decided_items (from_item (name_pat (120 ∷ [])) (name_ex (109 ∷ [])) ∷ []) ≡ false
over_a_term = refl

-- `[x | x : bool][1]` is looked up as an item by its number; `[7, 9][1]` as any other term, by two alternatives; and `[7][1]`, which has one
-- alone, is told in order.
abbrev names : Supply
names = supply_with (97 ∷ []) (98 ∷ []) (99 ∷ []) ((100 ∷ []) ∷ [])

abbrev first_of : Ex → Ex
first_of t = node_ex false (index (by_value ∷ [])) (more_exs t (more_exs (number_ex (pos 1)) no_exs))

abbrev numbers : Exs → Ex
numbers es = list_of (more_exs (number_ex (pos 7)) es)

by_its_number : item_or_other names [] (first_of (comp_ex (name_ex (120 ∷ [])) (over (name_pat (120 ∷ [])) bool_dom no_gens)))
    ≡ Some (numbered_item (99 ∷ []) (120 ∷ []) bool_dom (name_ex (120 ∷ [])) (number_ex (pos 1)) ∷ [])
by_its_number = refl

of_two_numbers : (item_or_other names [] (first_of (numbers (more_exs (number_ex (pos 9)) no_exs)))
    ≡ looked_up [] (99 ∷ []) ((100 ∷ []) ∷ []) (first_of (numbers (more_exs (number_ex (pos 9)) no_exs))))
    × (is_some (item_or_other names [] (first_of (numbers (more_exs (number_ex (pos 9)) no_exs)))) ≡ true)
of_two_numbers = (refl, refl)

of_one_number : item_or_other names [] (first_of (numbers no_exs)) ≡ None
of_one_number = refl
