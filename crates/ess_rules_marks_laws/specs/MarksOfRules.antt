-- Rules that put no terms for names, and keep marks: each node that they make has a type, and says that it is Boolean where its type is.
use Rattle.std.specs.Prelude.{◌≡◌, Bool, true, false, Some}
use Rattle.ess_semantics.specs.Names.{Names}
use Rattle.ess_semantics.specs.Trees.{Ex}
use Rattle.ess_semantics.specs.Types.{Ty}
use Rattle.ess_semantics.specs.Typing.{type_of}
use Rattle.ess_refine_laws.specs.AllRules.{Rule, over_nothing, over_one, over_one_binding, over_a_term, over_a_made_set, over_a_condition, component_of_a_tuple, field_of_a_record, not_equal, turned, strictly, equal_multisets, equal_functions, equal_partitions, with_nothing, included_multisets, in_a_literal, in_what_a_function_has, size_of_one_made_of_another, size, frequency_in_one_made_of_another, frequency_in_a_literal, frequency, together, least_of_a_literal, different_items, list_of_a_term, lists_on_both_sides, all_different, results, choice, Supply, rewrite}
use Rattle.ess_refine_laws.specs.MarksStay.{HasMarks}
use Rattle.ess_refine_types_laws.specs.MarksOfContainers.{IsNewTo}

-- Rules that are shown to keep marks here.
abbrev pub is_marking : Rule → Bool
is_marking over_nothing = true
is_marking over_one = true
is_marking over_one_binding = true
is_marking over_a_term = true
is_marking over_a_made_set = true
is_marking over_a_condition = true
is_marking component_of_a_tuple = true
is_marking field_of_a_record = true
is_marking not_equal = true
is_marking turned = true
is_marking strictly = true
is_marking equal_multisets = true
is_marking equal_functions = true
is_marking equal_partitions = true
is_marking with_nothing = true
is_marking included_multisets = true
is_marking in_a_literal = true
is_marking in_what_a_function_has = true
is_marking size_of_one_made_of_another = true
is_marking size = true
is_marking frequency_in_one_made_of_another = true
is_marking frequency_in_a_literal = true
is_marking frequency = true
is_marking together = true
is_marking least_of_a_literal = true
is_marking different_items = true
is_marking list_of_a_term = true
is_marking lists_on_both_sides = true
is_marking all_different = true
is_marking results = true
is_marking choice = true
is_marking r = false

-- So each of them keeps marks where it fires and the name that it binds is new, and where what it makes has a type, as it has where the
-- type stays.
abbrev pub MarkingRulesKeepMarks : Type 0
MarkingRulesKeepMarks = (s : Supply) (g : Names Ty) (r : Rule) (e f : Ex) → rewrite s g r e ≡ Some f → is_marking r ≡ true →
    IsNewTo s.one e →
    (t : Ty) → type_of f g ≡ Some t → HasMarks e g → HasMarks f g
