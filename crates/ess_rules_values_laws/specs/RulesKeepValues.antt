-- Rules that keep at their root that each part of the tree has a value wherever its context holds, but for numbers in natural places.
use Rattle.std.specs.Prelude.{◌≡◌, Bool, true, false, Some}
use Rattle.ess_semantics.specs.Names.{Names}
use Rattle.ess_semantics.specs.Trees.{Ex, node_ex}
use Rattle.ess_semantics.specs.Types.{Ty}
use Rattle.ess_semantics.specs.Meaning.{Env, meaning}
use Rattle.ess_rules_laws.specs.Rules.{Unused}
use Rattle.ess_refine_laws.specs.AllRules.{Rule, over_nothing, over_one, over_one_binding, over_a_term, over_a_condition, component_of_a_tuple, field_of_a_record, not_equal, turned, strictly, equal_sets, equal_partitions, with_nothing, included_sets, in_two, in_one_made_of_another, in_a_literal, in_a_term, different_items, list_of_a_term, lists_on_both_sides, choice, Supply, rewrite}
use Rattle.ess_values_along_laws.specs.Valued.{Valued}
use Rattle.ess_values_along_laws.specs.ValuesAlong.{none_may_lack}

-- Rules of which it is shown.
abbrev pub is_shown : Rule → Bool
is_shown over_nothing = true
is_shown over_one = true
is_shown over_one_binding = true
is_shown over_a_term = true
is_shown over_a_condition = true
is_shown component_of_a_tuple = true
is_shown field_of_a_record = true
is_shown not_equal = true
is_shown turned = true
is_shown strictly = true
is_shown equal_sets = true
is_shown equal_partitions = true
is_shown with_nothing = true
is_shown included_sets = true
is_shown in_two = true
is_shown in_one_made_of_another = true
is_shown in_a_literal = true
is_shown in_a_term = true
is_shown different_items = true
is_shown list_of_a_term = true
is_shown lists_on_both_sides = true
is_shown choice = true
is_shown r = false

-- The operands of compared containers are, by their form, neither numbers nor cells.
abbrev pub ComparesContainers : Rule → Ex → Type 0
ComparesContainers equal_sets (node_ex b op es) = none_may_lack es ≡ true
ComparesContainers equal_partitions (node_ex b op es) = none_may_lack es ≡ true
ComparesContainers with_nothing (node_ex b op es) = none_may_lack es ≡ true
ComparesContainers r e = Unit {0}

-- Such a rule keeps it where the name that it binds is new and it keeps the meaning.
abbrev pub RulesKeepValues : Type 0
RulesKeepValues = (s : Supply) (g : Names Ty) (r : Rule) (e f : Ex) → rewrite s g r e ≡ Some f → is_shown r ≡ true → Unused s.one e →
    ComparesContainers r e → (env : Env) → meaning e env ≡ meaning f env → (w : Bool) → Valued w e env → Valued w f env
