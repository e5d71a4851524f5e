-- What a rule of counted sources makes depends on four parts of a supply alone.
use Rattle.std.proofs.Common.{◌≡◌, refl}
use Rattle.ess_semantics.specs.Names.{Names}
use Rattle.ess_semantics.specs.Trees.{Ex}
use Rattle.ess_semantics.specs.Types.{Ty}
use Rattle.ess_refine_laws.specs.AllRules.{Supply}
use Rattle.ess_rules_ordered.specs.Supplies.{supply_with}
use Rattle.ess_numbered_laws.specs.NumberRules.{NumberRule, equality_of_lists, sign_between_lists, item_of_a_list, side_of_a_pair, lists_of_what_is_picked, number_rewrite}

-- So it makes the same with whatever else stands in it.
pub numbers-take_four : (s : Supply) (g : Names Ty) (r : NumberRule) (e : Ex)
    → number_rewrite (supply_with s.one s.other s.third s.parts) g r e ≡ number_rewrite s g r e
numbers-take_four s g equality_of_lists e = refl
numbers-take_four s g sign_between_lists e = refl
numbers-take_four s g item_of_a_list e = refl
numbers-take_four s g side_of_a_pair e = refl
numbers-take_four s g lists_of_what_is_picked e = refl
