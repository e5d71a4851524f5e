-- Each rule that puts terms for a name keeps types.
use Rattle.std.proofs.Common.{◌≡◌, subst, true, Option, Some}
use Rattle.ess_semantics.specs.Names.{Names}
use Rattle.ess_semantics.specs.Trees.{Ex}
use Rattle.ess_semantics.specs.Types.{Ty}
use Rattle.ess_refine_laws.specs.TypesStay.{KeepsType}
use Rattle.ess_refine_laws.specs.AllRules.{Rule, over_a_literal, over_a_source, of_one_source, over_a_comprehension, least_of_alternatives, Supply, rewrite}
use Rattle.ess_refine_types_laws.proofs.TypeParts.{TypeKept}
use Rattle.ess_rules_types_laws.specs.TypesOfSources.{puts_terms, TermsFit, SourceRulesKeepTypes}
use Rattle.ess_rules_types_laws.proofs.TypesOfSources.{spliced, literal, source, one-source}
use Rattle.ess_rules_types_laws.proofs.TypesOfLeast.{least}

module _ (s : Supply) (g : Names Ty) where
  each-typed : (r : Rule) (e : Ex) → puts_terms r ≡ true → TermsFit s g r e → TypeKept g e (rewrite s g r e)
  each-typed over_a_comprehension e k h = spliced g s e h
  each-typed over_a_literal e k h = literal g s e h
  each-typed over_a_source e k h = source g s e h
  each-typed of_one_source e k h = one-source g s e h
  each-typed least_of_alternatives e k h = least g s e h
  each-typed _ e k h = cc

  pub answered : (e f : Ex) (o : Option Ex) → o ≡ Some f → TypeKept g e o → KeepsType g e f
  answered e f o q h = subst (λ z. TypeKept g e z) q h

-- Types stay.
pub source-rules-keep-types : SourceRulesKeepTypes
source-rules-keep-types s g r e f q k h = answered s g e f (rewrite s g r e) q (each-typed s g r e k h)
