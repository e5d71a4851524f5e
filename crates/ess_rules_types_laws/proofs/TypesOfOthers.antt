-- Each of the further rules keeps types.
use Rattle.std.proofs.Common.{◌≡◌, true, false}
use Rattle.ess_semantics.specs.Names.{Names}
use Rattle.ess_semantics.specs.Trees.{Ex, comp_ex, fun1}
use Rattle.ess_semantics.specs.Types.{Ty}
use Rattle.ess_refine_laws.specs.LeavingConditions.{condition_leaves}
use Rattle.ess_refine_laws.specs.MovingConditions.{condition_later}
use Rattle.ess_refine_laws.specs.ExtremeRules.{extreme_condition}
use Rattle.ess_refine_laws.specs.AllRules.{Rule, over_a_tuple, over_a_record, field_of_a_record, equal_tuples, equal_records, equal_matrices_at, condition, condition_behind, least_under_a_condition, Supply, opposite_copied, rewrite}
use Rattle.ess_refine_types_laws.proofs.TypeParts.{TypeKept}
use Rattle.ess_rules_types_laws.specs.TypesOfOthers.{is_other, OthersFit, OtherRulesKeepTypes}
use Rattle.ess_rules_types_laws.proofs.TypesOfTerms.{answered}
use Rattle.ess_rules_types_laws.proofs.TypesOfComponents.{by-components, by-fields, of-literal}
use Rattle.ess_rules_types_laws.proofs.TypesOfNames.{over-tuple, over-record}
use Rattle.ess_rules_types_laws.proofs.TypesOfMatrices.{matrices}
use Rattle.ess_rules_types_laws.proofs.TypesOfConditions.{leaves, later, least-under}

module _ (s : Supply) (g : Names Ty) where
  leaving : (e : Ex) → OthersFit s g condition e → TypeKept g e (condition_leaves e)
  leaving (fun1 m f (comp_ex e gs)) h = leaves g e m f gs h
  leaving _ h = tt

  moving : (e : Ex) → OthersFit s g condition_behind e → TypeKept g e (condition_later e)
  moving (fun1 false f (comp_ex e gs)) h = later g e f gs h
  moving _ h = tt

  leasting : (e : Ex) → OthersFit s g least_under_a_condition e → TypeKept g e (extreme_condition (opposite_copied s e) e)
  leasting (fun1 false f (comp_ex e gs)) h = least-under g (opposite_copied s (fun1 false f (comp_ex e gs))) e f gs h.0 h.1
  leasting _ h = tt

  each-typed : (r : Rule) (e : Ex) → is_other r ≡ true → OthersFit s g r e → TypeKept g e (rewrite s g r e)
  each-typed over_a_tuple e k h = over-tuple g s.parts e
  each-typed over_a_record e k h = over-record g s.parts e
  each-typed field_of_a_record e k h = of-literal g e
  each-typed equal_tuples e k h = by-components g s.one e
  each-typed equal_records e k h = by-fields g s.one e
  each-typed equal_matrices_at e k h = matrices g s e h
  each-typed condition e k h = leaving e h
  each-typed condition_behind e k h = moving e h
  each-typed least_under_a_condition e k h = leasting e h
  each-typed _ e k h = cc

-- Types stay.
pub other-rules-keep-types : OtherRulesKeepTypes
other-rules-keep-types s g r e f q k h = answered s g e f (rewrite s g r e) q (each-typed s g r e k h)
