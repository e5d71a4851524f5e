-- Rules that spell no new numbers but 0, 1 and 2.
use Rattle.std.specs.Prelude.{◌≡◌, Bool, true, false, Some}
use Rattle.ess_semantics.specs.Names.{Names}
use Rattle.ess_semantics.specs.Trees.{Ex}
use Rattle.ess_semantics.specs.Types.{Ty}
use Rattle.ess_refine_laws.specs.AllRules.{Rule, over_nothing, over_one_binding, over_a_made_set, over_a_condition, not_equal, turned, strictly, included_sets, included_multisets, equal_sets, equal_functions, in_two, in_one_made_of_another, in_a_term, size, frequency, together, Supply, rewrite}
use Rattle.ess_refine_laws.specs.ConstantsStay.{SpellsNoMore}

-- Rules that put whole operands into places where as much is counted as before.
abbrev pub keeps_operands : Rule → Bool
keeps_operands over_nothing = true
keeps_operands over_one_binding = true
keeps_operands over_a_made_set = true
keeps_operands over_a_condition = true
keeps_operands not_equal = true
keeps_operands turned = true
keeps_operands strictly = true
keeps_operands included_sets = true
keeps_operands included_multisets = true
keeps_operands equal_sets = true
keeps_operands equal_functions = true
keeps_operands in_two = true
keeps_operands in_one_made_of_another = true
keeps_operands in_a_term = true
keeps_operands size = true
keeps_operands frequency = true
keeps_operands together = true
keeps_operands r = false

-- Such a rule spells no more where it fires.
abbrev pub RulesSpare : Type 0
RulesSpare = (s : Supply) (g : Names Ty) (r : Rule) → keeps_operands r ≡ true → (m : Bool) (e f : Ex) → rewrite s g r e ≡ Some f →
    SpellsNoMore m e f
