-- Rules of kinds that offer no listing keep types.
use Rattle.std.proofs.Common.{◌≡◌, subst, true}
use Rattle.ess_semantics.specs.Names.{Names}
use Rattle.ess_semantics.specs.Trees.{Ex}
use Rattle.ess_semantics.specs.Types.{Ty}
use Rattle.ess_kind_rules_laws.specs.KindRules.{KindRule, component_of_a_view, truth_in_a_matrix, asked_of_its_child, member_of_a_multiset, argument_with_a_flag, member_of_a_part, size_of_a_multiset, size_of_a_function, size_of_the_parts, frequency_by_cells, lie_together, party_by_number, truth_at_an_argument, truth_behind_a_flag, kind_rewrite}
use Rattle.ess_refine_laws.specs.AllRules.{Supply}
use Rattle.ess_refine_types_laws.proofs.TypeParts.{TypeKept, no}
use Rattle.ess_kinds_typed_laws.proofs.CountsKeepTypes.{frequency-type, size-of-function-type, number-of-parts-type, in-multiset-type, together-type, size-of-multiset-type, in-parts-type, party-type}
use Rattle.ess_kinds_typed_laws.proofs.PartsKeepTypes.{behind-flag-type, component-type, truth-item-type, asked-type, flagged-type, truth-result-type}
use Rattle.ess_kinds_typed_laws.specs.KindsTyped.{KindsTyped, has_no_listing, KindRulesKeepTypes}

module _ (g : Names Ty) where
  each-type : (s : Supply) (r : KindRule) (e : Ex) → has_no_listing r ≡ true → KindsTyped s g r e → TypeKept g e (kind_rewrite s g r e)
  each-type s component_of_a_view e i h = component-type g e
  each-type s truth_in_a_matrix e i h = truth-item-type g e
  each-type s asked_of_its_child e i h = asked-type g s e h
  each-type s member_of_a_multiset e i h = in-multiset-type g s e h
  each-type s argument_with_a_flag e i h = flagged-type g e
  each-type s member_of_a_part e i h = in-parts-type g s e h
  each-type s size_of_a_multiset e i h = size-of-multiset-type g s e h
  each-type s size_of_a_function e i h = size-of-function-type g s e h
  each-type s size_of_the_parts e i h = number-of-parts-type g s e h
  each-type s frequency_by_cells e i h = frequency-type g s e h
  each-type s lie_together e i h = together-type g s e h
  each-type s party_by_number e i h = party-type g s e h
  each-type s truth_at_an_argument e i h = truth-result-type g e
  each-type s truth_behind_a_flag e i h = behind-flag-type g s.one e h
  each-type s _ e i h = no i

-- Types stay.
pub kind-rules-keep-types : KindRulesKeepTypes
kind-rules-keep-types s g r e f q i h = subst (λ z. TypeKept g e z) q (each-type g s r e i h)
