-- A model that is built with some options is built with others that have the same plans and the same header.
use Rattle.std.proofs.Common.{◌≡◌, ◌∙◌, subst, List}
use Rattle.ess_semantics.specs.Names.{keys}
use Rattle.ess_semantics.specs.Trees.{Stm}
use Rattle.ess_semantics.specs.Prepared.{prepared}
use Rattle.ess_semantics.specs.Plans.{Options, finds_side, value_names, plans, names_of_plans}
use Rattle.ess_semantics.specs.ModelTrees.{Header, Model, header_of}
use Rattle.conjure_model_laws.specs.Shown.{shows_nothing, shows_from}
use Rattle.conjure_modelling.specs.ess_models.Parts.{scope_of_tables, AreDeclared, AreRules}
use Rattle.conjure_modelling.specs.ess_models.Built.{IsBuilt}

-- So it is.
pub built-alike : (S : List Stm) (o p : Options) (H : Header) (E : Model) → plans S o ≡ plans S p → header_of S o ≡ header_of S p →
    IsBuilt S o H E → IsBuilt S p H E
built-alike S o p H E e h w = record {
  header = w.header ∙ h;
  declared = subst (λ Ps. AreDeclared (keys (names_of_plans Ps)) (shows_from Ps (prepared S) shows_nothing) Ps E.givens E.finds) e
      w.declared;
  rules = subst (λ Ps. AreRules (keys (names_of_plans Ps)) (shows_from Ps (prepared S) shows_nothing) Ps (value_names finds_side S)
      (prepared S) (scope_of_tables E.givens E.finds) E.goal E.rules) e w.rules;
}
