-- Each of these rules keeps marks.
use Rattle.std.proofs.Common.{◌≡◌, subst, Bool, true, false, if◌then◌else◌, Option, Some, None}
use Rattle.ess_semantics.specs.Names.{Names}
use Rattle.ess_semantics.specs.Trees.{Ex}
use Rattle.ess_semantics.specs.Types.{Ty}
use Rattle.ess_semantics.specs.Typing.{type_of}
use Rattle.ess_rules_laws.specs.InclusionRules.{unequal}
use Rattle.ess_rules_laws.specs.LiteralRules.{different_listed}
use Rattle.ess_rules_laws.specs.ListRules.{different_term}
use Rattle.ess_refine_laws.specs.MarksStay.{HasMarks}
use Rattle.ess_refine_laws.specs.AllRules.{Rule, over_nothing, over_one, over_one_binding, over_a_term, over_a_made_set, over_a_condition, component_of_a_tuple, field_of_a_record, not_equal, turned, strictly, equal_multisets, equal_functions, equal_partitions, with_nothing, included_multisets, in_a_literal, in_what_a_function_has, size_of_one_made_of_another, size, frequency_in_one_made_of_another, frequency_in_a_literal, frequency, together, least_of_a_literal, different_items, list_of_a_term, lists_on_both_sides, all_different, results, choice, Supply, compares_compound, tells_scalars_apart, rewrite}
use Rattle.ess_refine_types_laws.specs.MarksOfContainers.{IsNewTo}
use Rattle.ess_rules_marks_laws.specs.MarksOfRules.{is_marking, MarkingRulesKeepMarks}
use Rattle.ess_rules_marks_laws.proofs.Grows.{grown, MarksGrow}
use Rattle.ess_rules_marks_laws.proofs.MarksOfFolds.{nothing, one-item, bare, term, loosely, alone, component, field, least-listed, list-of-term, both-lists, shorter}
use Rattle.ess_rules_marks_laws.proofs.MarksOfMembers.{apart, turns, strict, often, same-often, same-pairs, same-parts, empty, sized, size-made, frequency-made, frequencies, one-part, different, of-function, listed, frequency-listed, different-listed}
use Rattle.ess_rules_marks_laws.proofs.MarksOfMembers as members

module _ (s : Supply) (g : Names Ty) where
  unless : (c : Bool) (e : Ex) (r : Option Ex) → MarksGrow g e r → MarksGrow g e (if c then None else r)
  unless true e r h = tt
  unless false e r h = h

  under : (c : Bool) (e : Ex) (r : Option Ex) → MarksGrow g e r → MarksGrow g e (if c then r else None)
  under true e r h = h
  under false e r h = tt

  each-grows : (r : Rule) (e : Ex) → is_marking r ≡ true → IsNewTo s.one e → MarksGrow g e (rewrite s g r e)
  each-grows over_nothing e k n = nothing g e
  each-grows over_one e k n = one-item g e
  each-grows over_one_binding e k n = bare g e
  each-grows over_a_term e k n = term g s.one e
  each-grows over_a_made_set e k n = loosely g e
  each-grows over_a_condition e k n = alone g e
  each-grows component_of_a_tuple e k n = component g e
  each-grows field_of_a_record e k n = field g e
  each-grows not_equal e k n = under (compares_compound g e) e (unequal e) (apart g e)
  each-grows turned e k n = turns g e
  each-grows strictly e k n = strict g s.one e
  each-grows equal_multisets e k n = same-often g s.one e n
  each-grows equal_functions e k n = same-pairs g s.one e n
  each-grows equal_partitions e k n = same-parts g s.one e n
  each-grows with_nothing e k n = empty g s.one e
  each-grows included_multisets e k n = often g s.one e n
  each-grows in_a_literal e k n = listed g e
  each-grows in_what_a_function_has e k n = of-function g s.one e n
  each-grows size_of_one_made_of_another e k n = size-made g s.one e
  each-grows size e k n = sized g s.one e
  each-grows frequency_in_one_made_of_another e k n = frequency-made g s.one e
  each-grows frequency_in_a_literal e k n = frequency-listed g e
  each-grows frequency e k n = frequencies g s.one e n
  each-grows together e k n = one-part g s.one e n
  each-grows least_of_a_literal e k n = least-listed g e
  each-grows different_items e k n = unless (tells_scalars_apart g e) e (different_listed e) (different-listed g e)
  each-grows list_of_a_term e k n = list-of-term g s.one e
  each-grows lists_on_both_sides e k n = both-lists g s.one e
  each-grows all_different e k n = unless (tells_scalars_apart g e) e (different_term s.one e) (different g s.one e n)
  each-grows results e k n = members.results g s.one e
  each-grows choice e k n = shorter g e
  each-grows _ e k n = cc

  pub marked : (e f : Ex) (o : Option Ex) → o ≡ Some f → MarksGrow g e o → (t : Ty) → type_of f g ≡ Some t → HasMarks e g → HasMarks f g
  marked e f o q h t i m = grown g f (subst (λ z. MarksGrow g e z) q h m) t i

-- Marks stay.
pub marking-rules-keep-marks : MarkingRulesKeepMarks
marking-rules-keep-marks s g r e f q k n t i m = marked s g e f (rewrite s g r e) q (each-grows s g r e k n) t i m
