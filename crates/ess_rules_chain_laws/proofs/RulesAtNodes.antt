-- Rules fire at no numeral and at no name; and each rule is of one group that is shown to keep marks.
use Rattle.std.proofs.Common.{◌≡◌, refl, true, ◌||◌, ℤ, Option, Some, None}
use Rattle.ess_semantics.specs.Values.{Text}
use Rattle.ess_semantics.specs.Names.{Names}
use Rattle.ess_semantics.specs.Trees.{Ex, number_ex, truth_ex, name_ex, node_ex, matrix_ex, comp_ex, cell_ex, seen_ex}
use Rattle.ess_semantics.specs.Types.{Ty}
use Rattle.ess_semantics.specs.Typing.{static, other}
use Rattle.ess_refine_laws.specs.AllRules.{Rule, over_nothing, over_one, over_one_binding, over_a_term, over_a_literal, over_a_made_set, over_a_source, of_one_source, over_a_comprehension, over_tuples, over_a_tuple, over_a_record, over_a_condition, component_of_a_tuple, field_of_a_record, not_equal, turned, strictly, equal_tuples, equal_records, equal_sets, equal_multisets, equal_functions, equal_partitions, with_nothing, equal_matrices_at, included_sets, included_multisets, in_two, in_one_made_of_another, in_a_literal, in_what_a_function_has, in_its_pairs, in_a_term, size_of_one_made_of_another, size, frequency_in_one_made_of_another, frequency_in_a_literal, frequency, together, least_of_a_literal, different_items, list_of_a_term, lists_on_both_sides, all_different, results, choice, condition, condition_behind, least_under_a_condition, least_of_alternatives, Supply, rewrite}
use Rattle.ess_refine_types_laws.specs.MarksOfContainers.{keeps_marks}
use Rattle.ess_rules_types_laws.specs.TypesOfSources.{puts_terms}
use Rattle.ess_rules_marks_laws.specs.MarksOfRules.{is_marking}
use Rattle.ess_put_marks_laws.specs.MarksOfOthers.{has_parts}
use Rattle.ess_put_marks_laws.specs.MarksOfConditions.{is_of_conditions}

-- Each rule is of a group.
pub covered : (r : Rule) → is_marking r || (keeps_marks r || (puts_terms r || (has_parts r || is_of_conditions r))) ≡ true
covered over_nothing = refl
covered over_one = refl
covered over_one_binding = refl
covered over_a_term = refl
covered over_a_literal = refl
covered over_a_made_set = refl
covered over_a_source = refl
covered of_one_source = refl
covered over_a_comprehension = refl
covered over_tuples = refl
covered over_a_tuple = refl
covered over_a_record = refl
covered over_a_condition = refl
covered component_of_a_tuple = refl
covered field_of_a_record = refl
covered not_equal = refl
covered turned = refl
covered strictly = refl
covered equal_tuples = refl
covered equal_records = refl
covered equal_sets = refl
covered equal_multisets = refl
covered equal_functions = refl
covered equal_partitions = refl
covered with_nothing = refl
covered equal_matrices_at = refl
covered included_sets = refl
covered included_multisets = refl
covered in_two = refl
covered in_one_made_of_another = refl
covered in_a_literal = refl
covered in_what_a_function_has = refl
covered in_its_pairs = refl
covered in_a_term = refl
covered size_of_one_made_of_another = refl
covered size = refl
covered frequency_in_one_made_of_another = refl
covered frequency_in_a_literal = refl
covered frequency = refl
covered together = refl
covered least_of_a_literal = refl
covered different_items = refl
covered list_of_a_term = refl
covered lists_on_both_sides = refl
covered all_different = refl
covered results = refl
covered choice = refl
covered condition = refl
covered condition_behind = refl
covered least_under_a_condition = refl
covered least_of_alternatives = refl

module _ (s : Supply) (g : Names Ty) where
  of-number : (r : Rule) (n : ℤ) → rewrite s g r (number_ex n) ≡ None
  of-number over_nothing n = refl
  of-number over_one n = refl
  of-number over_one_binding n = refl
  of-number over_a_term n = refl
  of-number over_a_literal n = refl
  of-number over_a_made_set n = refl
  of-number over_a_source n = refl
  of-number of_one_source n = refl
  of-number over_a_comprehension n = refl
  of-number over_tuples n = refl
  of-number over_a_tuple n = refl
  of-number over_a_record n = refl
  of-number over_a_condition n = refl
  of-number component_of_a_tuple n = refl
  of-number field_of_a_record n = refl
  of-number not_equal n = refl
  of-number turned n = refl
  of-number strictly n = refl
  of-number equal_tuples n = refl
  of-number equal_records n = refl
  of-number equal_sets n = refl
  of-number equal_multisets n = refl
  of-number equal_functions n = refl
  of-number equal_partitions n = refl
  of-number with_nothing n = refl
  of-number equal_matrices_at n = refl
  of-number included_sets n = refl
  of-number included_multisets n = refl
  of-number in_two n = refl
  of-number in_one_made_of_another n = refl
  of-number in_a_literal n = refl
  of-number in_what_a_function_has n = refl
  of-number in_its_pairs n = refl
  of-number in_a_term n = refl
  of-number size_of_one_made_of_another n = refl
  of-number size n = refl
  of-number frequency_in_one_made_of_another n = refl
  of-number frequency_in_a_literal n = refl
  of-number frequency n = refl
  of-number together n = refl
  of-number least_of_a_literal n = refl
  of-number different_items n = refl
  of-number list_of_a_term n = refl
  of-number lists_on_both_sides n = refl
  of-number all_different n = refl
  of-number results n = refl
  of-number choice n = refl
  of-number condition n = refl
  of-number condition_behind n = refl
  of-number least_under_a_condition n = refl
  of-number least_of_alternatives n = refl

  of-name : (r : Rule) (a : Text) → rewrite s g r (name_ex a) ≡ None
  of-name over_nothing a = refl
  of-name over_one a = refl
  of-name over_one_binding a = refl
  of-name over_a_term a = refl
  of-name over_a_literal a = refl
  of-name over_a_made_set a = refl
  of-name over_a_source a = refl
  of-name of_one_source a = refl
  of-name over_a_comprehension a = refl
  of-name over_tuples a = refl
  of-name over_a_tuple a = refl
  of-name over_a_record a = refl
  of-name over_a_condition a = refl
  of-name component_of_a_tuple a = refl
  of-name field_of_a_record a = refl
  of-name not_equal a = refl
  of-name turned a = refl
  of-name strictly a = refl
  of-name equal_tuples a = refl
  of-name equal_records a = refl
  of-name equal_sets a = refl
  of-name equal_multisets a = refl
  of-name equal_functions a = refl
  of-name equal_partitions a = refl
  of-name with_nothing a = refl
  of-name equal_matrices_at a = refl
  of-name included_sets a = refl
  of-name included_multisets a = refl
  of-name in_two a = refl
  of-name in_one_made_of_another a = refl
  of-name in_a_literal a = refl
  of-name in_what_a_function_has a = refl
  of-name in_its_pairs a = refl
  of-name in_a_term a = refl
  of-name size_of_one_made_of_another a = refl
  of-name size a = refl
  of-name frequency_in_one_made_of_another a = refl
  of-name frequency_in_a_literal a = refl
  of-name frequency a = refl
  of-name together a = refl
  of-name least_of_a_literal a = refl
  of-name different_items a = refl
  of-name list_of_a_term a = refl
  of-name lists_on_both_sides a = refl
  of-name all_different a = refl
  of-name results a = refl
  of-name choice a = refl
  of-name condition a = refl
  of-name condition_behind a = refl
  of-name least_under_a_condition a = refl
  of-name least_of_alternatives a = refl

  never : {A : Type 0} (o : Option Ex) (f : Ex) → o ≡ None → o ≡ Some f → A
  never None f p q = cc
  never (Some e) f p q = cc

  pub rule-says-nothing : (r : Rule) (e f : Ex) → rewrite s g r e ≡ Some f → static e ≡ other
  rule-says-nothing r (number_ex n) f q = never (rewrite s g r (number_ex n)) f (of-number r n) q
  rule-says-nothing r (name_ex a) f q = never (rewrite s g r (name_ex a)) f (of-name r a) q
  rule-says-nothing r (truth_ex b) f q = refl
  rule-says-nothing r (node_ex b op es) f q = refl
  rule-says-nothing r (matrix_ex es d) f q = refl
  rule-says-nothing r (comp_ex e gs) f q = refl
  rule-says-nothing r (cell_ex b n es) f q = refl
  rule-says-nothing r (seen_ex z d ns es) f q = refl
