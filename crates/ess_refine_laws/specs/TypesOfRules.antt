-- Rules of folds, generators, literals and sizes that keep types at the root. Those of membership, inclusion, equality and of lists bind
-- names; what they keep is said where types are shown not to depend on a new name.
use Rattle.std.specs.Prelude.{◌≡◌, Bool, true, false, Some, IsTrue, is_some}
use Rattle.ess_semantics.specs.Lists.{and_then}
use Rattle.ess_semantics.specs.Names.{Names}
use Rattle.ess_semantics.specs.Trees.{matrix_literal, Ex, node_ex, comp_ex, ex1, fun1, no_exs, more_exs, no_gens}
use Rattle.ess_semantics.specs.Types.{Ty}
use Rattle.ess_semantics.specs.OperatorTypes.{member_ty}
use Rattle.ess_semantics.specs.Typing.{type_of}
use Rattle.ess_rules_laws.specs.Progress.{is_told}
use Rattle.ess_refine_laws.specs.TypesStay.{KeepsType}
use Rattle.ess_refine_laws.specs.AllRules.{Rule, over_nothing, over_one, over_one_binding, over_a_term, over_a_made_set, over_a_condition, over_tuples, component_of_a_tuple, not_equal, turned, strictly, with_nothing, size, size_of_one_made_of_another, frequency_in_one_made_of_another, least_of_a_literal, list_of_a_term, results, choice, Supply, rewrite}

-- Rules that are shown to keep types.
abbrev pub keeps_type : Rule → Bool
keeps_type over_nothing = true
keeps_type over_one = true
keeps_type over_one_binding = true
keeps_type over_a_term = true
keeps_type over_a_made_set = true
keeps_type over_a_condition = true
keeps_type over_tuples = true
keeps_type component_of_a_tuple = true
keeps_type not_equal = true
keeps_type turned = true
keeps_type strictly = true
keeps_type with_nothing = true
keeps_type size = true
keeps_type size_of_one_made_of_another = true
keeps_type frequency_in_one_made_of_another = true
keeps_type least_of_a_literal = true
keeps_type list_of_a_term = true
keeps_type results = true
keeps_type choice = true
keeps_type r = false

-- What they count on: an item that is folded alone isn't of the type of an empty literal's members, and what is counted has members.
abbrev pub TypeTold : Names Ty → Rule → Ex → Type 0
TypeTold g over_one (fun1 m f (node_ex false matrix_literal (more_exs a no_exs))) = is_told (type_of a g) ≡ true
TypeTold g over_one_binding (fun1 m f (comp_ex e no_gens)) = is_told (type_of e g) ≡ true
TypeTold g size (ex1 m o s) = IsTrue (is_some (and_then (type_of s g) member_ty))
TypeTold g r e = Unit {0}

-- So each of them keeps the type where it fires.
abbrev pub RulesKeepTypes : Type 0
RulesKeepTypes = (s : Supply) (g : Names Ty) (r : Rule) (e f : Ex) → rewrite s g r e ≡ Some f → keeps_type r ≡ true → TypeTold g r e →
    KeepsType g e f
