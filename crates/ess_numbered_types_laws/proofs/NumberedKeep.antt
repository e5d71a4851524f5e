-- Rules of comprehensions over sources whose items are counted keep types and marks.
use Rattle.std.proofs.Common.{◌≡◌, subst, Some}
use Rattle.ess_semantics.specs.Names.{Names}
use Rattle.ess_semantics.specs.Trees.{Ex}
use Rattle.ess_semantics.specs.Types.{Ty}
use Rattle.ess_refine_laws.specs.AllRules.{Supply}
use Rattle.ess_numbered_laws.specs.NumberRules.{NumberRule, equality_of_lists, sign_between_lists, item_of_a_list, side_of_a_pair, lists_of_what_is_picked, number_rewrite}
use Rattle.ess_open_types_laws.proofs.TypesBehind.{KeepsBoth, BothKept}
use Rattle.ess_numbered_types_laws.specs.NumberedTyped.{NumberTyped, NumberMarked, NumberRulesKeepTypes, NumberRulesKeepMarks}
use Rattle.ess_numbered_types_laws.proofs.SourcesNumbered.{an-item}
use Rattle.ess_numbered_types_laws.proofs.PairsNumbered.{a-side}
use Rattle.ess_numbered_types_laws.proofs.ListedKeep.{lists-in-place}
use Rattle.ess_numbered_types_laws.proofs.EqualTyped.{equality}
use Rattle.ess_numbered_types_laws.proofs.OrderTyped.{sign}

each-keeps : (s : Supply) (g : Names Ty) (r : NumberRule) (e : Ex) → NumberTyped s g r e →
    BothKept g (NumberMarked s g r e) e (number_rewrite s g r e)
each-keeps s g equality_of_lists e h = equality s g e h
each-keeps s g sign_between_lists e h = sign s g e h
each-keeps s g item_of_a_list e h = an-item s g e h
each-keeps s g side_of_a_pair e h = a-side s g e h
each-keeps s g lists_of_what_is_picked e h = lists-in-place s g e h

answered : (s : Supply) (g : Names Ty) (r : NumberRule) (e f : Ex) → number_rewrite s g r e ≡ Some f → NumberTyped s g r e →
    KeepsBoth g (NumberMarked s g r e) e f
answered s g r e f q h = subst (λ z. BothKept g (NumberMarked s g r e) e z) q (each-keeps s g r e h)

-- Types stay.
pub number-rules-keep-types : NumberRulesKeepTypes
number-rules-keep-types s g r e f q h = (answered s g r e f q h).0

-- And marks.
pub number-rules-keep-marks : NumberRulesKeepMarks
number-rules-keep-marks s g r e f q h w t p m = (answered s g r e f q h).1 w t p m
