-- Each of the further rules keeps marks.
use Rattle.std.proofs.Common.{◌≡◌, subst, true}
use Rattle.ess_semantics.specs.Names.{Names}
use Rattle.ess_semantics.specs.Trees.{Ex}
use Rattle.ess_semantics.specs.Types.{Ty}
use Rattle.ess_refine_laws.specs.AllRules.{Rule, over_tuples, over_a_tuple, over_a_record, equal_tuples, equal_records, equal_matrices_at, Supply, rewrite}
use Rattle.ess_rules_marks_laws.proofs.Grows.{MarksGrow, grown}
use Rattle.ess_put_marks_laws.specs.MarksOfOthers.{has_parts, PartsMarked, PartRulesKeepMarks}
use Rattle.ess_put_marks_laws.proofs.MarksOfNames.{splits, over-tuple, over-record}
use Rattle.ess_put_marks_laws.proofs.MarksOfComponents.{by-components, by-fields, matrices}

module _ (s : Supply) (g : Names Ty) where
  each-grows : (r : Rule) (e : Ex) → has_parts r ≡ true → PartsMarked s g r e → MarksGrow g e (rewrite s g r e)
  each-grows over_tuples e k h = splits g s e h
  each-grows over_a_tuple e k h = over-tuple g s.parts e
  each-grows over_a_record e k h = over-record g s.parts e
  each-grows equal_tuples e k h = by-components g s.one e
  each-grows equal_records e k h = by-fields g s.one e
  each-grows equal_matrices_at e k h = matrices g s e h
  each-grows _ e k h = cc

-- Marks stay.
pub part-rules-keep-marks : PartRulesKeepMarks
part-rules-keep-marks s g r e f q k h t i m = grown g f (subst (λ z. MarksGrow g e z) q (each-grows s g r e k h) m) t i
