-- How many items a list has at most, by an operator and its operands, a literal, a comprehension, the domain of a view, and one generator.
use Rattle.std.specs.Prelude.{Bool, true, false, if◌then◌else◌, List, [], ◌∷◌, pos, Option, Some, None, option_map}
use Rattle.ess_semantics.specs.declared.words.Fun.{Fun}
use Rattle.ess_semantics.specs.Lists.{and_then}
use Rattle.ess_semantics.specs.Values.{Text}
use Rattle.ess_semantics.specs.Constants.{operand_count}
use Rattle.ess_semantics.specs.Trees.{Op, index, application, word, tuple_literal, matrix_literal, function_literal, record_literal, Ex, Exs, number_ex, no_exs, more_exs, Gens, no_gens, over, Dom}
use Rattle.ess_core.specs.TreeViews.{Item, over_item, from_item, cond_item}
use Rattle.ess_guard_laws.specs.IndexDomains.{first_index}
use Rattle.ess_ordered_laws.specs.NumberedItems.{is_from_one}
use Rattle.ess_numbered_laws.specs.MostItems.{Pick, an_item, a_result, a_component, a_field, pick_of, dom_along, list_axis, sum_at, members_counted, all_summed, behind_condition, so_often, most, most_behind, most_of_each, most_at, most_of_field}

-- Of what the steps pick out of the first operand.
abbrev pub most_of_first : Text → List Pick → Exs → Option Ex
most_of_first z ps no_exs = None
most_of_first z ps (more_exs t is) = most z ps t

-- The sum of the numbers of each of these.
abbrev pub most_summed : Text → List Pick → Exs → Option Ex
most_summed z ps es = option_map all_summed (most_of_each z ps es)

-- Of the items of a list, and of the second components of pairs.
abbrev pub most_of_list : Text → List Pick → Exs → Option Ex
most_of_list z [] es = Some (number_ex (pos (operand_count es)))
most_of_list z (an_item ∷ ps) es = most_summed z ps es
most_of_list z ps es = None

-- Of the items of a matrix over an index domain: no number where it isn't numbered from 1.
abbrev pub most_of_matrix : Text → List Pick → Exs → Dom → Option Ex
most_of_matrix z [] es d = if is_from_one d then Some (number_ex (pos (operand_count es))) else None
most_of_matrix z (p ∷ ps) es d = most_of_list z (p ∷ ps) es

abbrev pub most_of_pairs : Text → List Pick → Exs → Option Ex
most_of_pairs z ps es = most_summed z (a_component 2 ∷ ps) es

-- Of a literal.
abbrev pub most_of_literal : Text → List Pick → Op → Exs → Option Ex
most_of_literal z ps matrix_literal es = most_of_list z ps es
most_of_literal z (a_component k ∷ ps) tuple_literal es = most_at k z ps es
most_of_literal z (a_field a ∷ ps) (record_literal fs) es = most_of_field a fs z ps es
most_of_literal z (a_result ∷ ps) function_literal es = most_of_pairs z ps es
most_of_literal z ps o es = None

-- Of an operator that isn't an index, an application or `image`: a literal, where it isn't Boolean.
abbrev pub most_unmarked : Text → List Pick → Bool → Op → Exs → Option Ex
most_unmarked z ps true o es = None
most_unmarked z ps false o es = most_of_literal z ps o es

-- Of any operator.
abbrev pub most_of_op : Text → List Pick → Bool → Op → Exs → Option Ex
most_of_op z ps b (index (q ∷ [])) es = most_of_first z (pick_of q ∷ ps) es
most_of_op z ps b application es = most_of_first z (a_result ∷ ps) es
most_of_op z ps b (word Fun.Image) es = most_of_first z (a_result ∷ ps) es
most_of_op z ps b o es = most_unmarked z ps b o es

-- Of a comprehension.
abbrev pub most_of_comp : Text → List Pick → Ex → Gens → Option Ex
most_of_comp z [] e gs = most_behind z gs (number_ex (pos 1))
most_of_comp z (an_item ∷ ps) e gs = and_then (most z ps e) (most_behind z gs)
most_of_comp z ps e gs = None

-- Of a view of this domain.
abbrev pub most_told : Text → List Pick → Dom → Option Ex
most_told z ps d = option_map (members_counted z) (list_axis (first_index (dom_along ps (Some d))))

-- A number at each value that one generator brings, or under one condition.
abbrev pub most_before : Text → Item → Ex → Option Ex
most_before z (over_item p d) n = Some (sum_at n (over p d no_gens))
most_before z (from_item p t) n = and_then (most z [] t) (λ k. so_often p k n)
most_before z (cond_item c) n = behind_condition c n
