-- Rules of kinds that offer no listing keep marks.
use Rattle.std.proofs.Common.{◌≡◌, subst, true}
use Rattle.ess_semantics.specs.Names.{Names}
use Rattle.ess_semantics.specs.Trees.{Ex}
use Rattle.ess_semantics.specs.Types.{Ty}
use Rattle.ess_kind_rules_laws.specs.KindRules.{KindRule, component_of_a_view, truth_in_a_matrix, asked_of_its_child, member_of_a_multiset, argument_with_a_flag, member_of_a_part, size_of_a_multiset, size_of_a_function, size_of_the_parts, frequency_by_cells, lie_together, party_by_number, truth_at_an_argument, truth_behind_a_flag, kind_rewrite}
use Rattle.ess_refine_laws.specs.AllRules.{Supply}
use Rattle.ess_refine_types_laws.proofs.TypeParts.{no}
use Rattle.ess_rules_marks_laws.proofs.Grows.{MarksGrow, grown}
use Rattle.ess_kinds_typed_laws.proofs.CountsKeepMarks.{in-multiset-marks, size-of-multiset-marks, party-marks, in-parts-marks, number-of-parts-marks, together-marks, size-of-function-marks, frequency-marks}
use Rattle.ess_kinds_typed_laws.proofs.KindsKeepTypes.{kind-rules-keep-types}
use Rattle.ess_kinds_typed_laws.proofs.PartsKeepMarks.{component-marks, truth-item-marks, flagged-marks, truth-result-marks, behind-flag-marks, asked-marks}
use Rattle.ess_kinds_typed_laws.specs.KindsTyped.{KindsTyped, has_no_listing, KindRulesKeepMarks}

module _ (g : Names Ty) where
  each-marks : (s : Supply) (r : KindRule) (e : Ex) → has_no_listing r ≡ true → KindsTyped s g r e → MarksGrow g e (kind_rewrite s g r e)
  each-marks s component_of_a_view e i h = component-marks g e
  each-marks s truth_in_a_matrix e i h = truth-item-marks g e
  each-marks s asked_of_its_child e i h = asked-marks g s e h
  each-marks s member_of_a_multiset e i h = in-multiset-marks g s e h
  each-marks s argument_with_a_flag e i h = flagged-marks g e
  each-marks s member_of_a_part e i h = in-parts-marks g s e h
  each-marks s size_of_a_multiset e i h = size-of-multiset-marks g s e h
  each-marks s size_of_a_function e i h = size-of-function-marks g s e h
  each-marks s size_of_the_parts e i h = number-of-parts-marks g e
  each-marks s frequency_by_cells e i h = frequency-marks g s e h
  each-marks s lie_together e i h = together-marks g s e h
  each-marks s party_by_number e i h = party-marks g s e h
  each-marks s truth_at_an_argument e i h = truth-result-marks g e
  each-marks s truth_behind_a_flag e i h = behind-flag-marks g s.one e
  each-marks s _ e i h = no i

-- Marks stay.
pub kind-rules-keep-marks : KindRulesKeepMarks
kind-rules-keep-marks s g r e f q i h t p m =
    grown g f (subst (λ z. MarksGrow g e z) q (each-marks g s r e i h) m) t (kind-rules-keep-types s g r e f q i h t p)
