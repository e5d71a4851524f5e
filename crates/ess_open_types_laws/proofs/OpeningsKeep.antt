-- Rules of openings keep types and marks.
use Rattle.std.proofs.Common.{◌≡◌, subst, Option, Some}
use Rattle.ess_semantics.specs.Names.{Names}
use Rattle.ess_semantics.specs.Trees.{Ex}
use Rattle.ess_semantics.specs.Types.{Ty}
use Rattle.ess_refine_laws.specs.AllRules.{Supply}
use Rattle.ess_open_rules_laws.specs.OpenRules.{OpenRule, step_by_step, applied_relation, of_a_pick, a_pick_alone, without_repeats, without_its_indices, over_one_source, over_what_is_picked, least_over_several, set_over_several, different_by_counts, in_order_of_its_source, fold_of_folds, set_of_a_term, open_rewrite}
use Rattle.ess_open_types_laws.specs.OpeningsTyped.{OpeningsTyped, OpeningsMarked, OpeningsKeepTypes, OpeningsKeepMarks}
use Rattle.ess_open_types_laws.proofs.TypesBehind.{KeepsBoth, BothKept}
use Rattle.ess_open_types_laws.proofs.StepsTyped.{steps, relation}
use Rattle.ess_open_types_laws.proofs.FoldsTyped.{term-set, loosely, folds}
use Rattle.ess_open_types_laws.proofs.PlainListsTyped.{plainly}
use Rattle.ess_open_types_laws.proofs.PicksTyped.{over-pick, pick-alone}
use Rattle.ess_open_types_laws.proofs.OpenedTyped.{over-one, over-picked, counted, set-over}
use Rattle.ess_open_types_laws.proofs.LeastTyped.{least-over}
use Rattle.ess_open_types_laws.proofs.InOrderTyped.{behind-in-order}

each-keeps : (s : Supply) (g : Names Ty) (r : OpenRule) (e : Ex) → OpeningsTyped s g r e →
    BothKept g (OpeningsMarked s g r e) e (open_rewrite s g r e)
each-keeps s g step_by_step e h = steps g (OpeningsMarked s g step_by_step e) e
each-keeps s g applied_relation e h = relation g (OpeningsMarked s g applied_relation e) e h
each-keeps s g of_a_pick e h = over-pick s g e h.0 h.1 h.2
each-keeps s g a_pick_alone e h = pick-alone s g e h.0 h.1
each-keeps s g without_repeats e h = loosely g (OpeningsMarked s g without_repeats e) e
each-keeps s g without_its_indices e h = plainly g (OpeningsMarked s g without_its_indices e) s e h
each-keeps s g over_one_source e h = over-one s g e h
each-keeps s g over_what_is_picked e h = over-picked s g e h
each-keeps s g set_over_several e h = set-over g s e h
each-keeps s g different_by_counts e h = counted s g (OpeningsMarked s g different_by_counts e) e h
each-keeps s g fold_of_folds e h = folds g (OpeningsMarked s g fold_of_folds e) e
each-keeps s g set_of_a_term e h = term-set g (OpeningsMarked s g set_of_a_term e) s e
each-keeps s g least_over_several e h = least-over g s e h
each-keeps s g in_order_of_its_source e h = behind-in-order s g e h

answered : (s : Supply) (g : Names Ty) (r : OpenRule) (e f : Ex) → open_rewrite s g r e ≡ Some f →
    OpeningsTyped s g r e → KeepsBoth g (OpeningsMarked s g r e) e f
answered s g r e f q h = subst (λ z. BothKept g (OpeningsMarked s g r e) e z) q (each-keeps s g r e h)

-- Types stay.
pub openings-keep-types : OpeningsKeepTypes
openings-keep-types s g r e f q h = (answered s g r e f q h).0

-- And marks.
pub openings-keep-marks : OpeningsKeepMarks
openings-keep-marks s g r e f q h w t p m = (answered s g r e f q h).1 w t p m
