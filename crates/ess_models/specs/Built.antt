-- What a model is made of, as the code writes it: its header, its declarations by the plans, its objective, and its rules in order.
use Rattle.std.specs.Prelude.{◌≡◌, List}
use Rattle.ess_semantics.specs.Trees.{Stm}
use Rattle.ess_semantics.specs.Prepared.{prepared}
use Rattle.ess_semantics.specs.Plans.{Options, finds_side, value_names, plans}
use Rattle.ess_semantics.specs.ModelTrees.{Header, Model, header_of}
use Rattle.conjure_model_laws.specs.Shown.{shows_of}
use Rattle.conjure_model_laws.specs.IsBuiltFrom.{taken_names}
use Rattle.ess_models.specs.declared.parts.Part.{Part}
use Rattle.ess_models.specs.Parts.{scope_of_tables, AreDeclared, AreRules, PartLacks}

-- The model with this header is built from the specification with these options.
pub record IsBuilt (S : List Stm) (o : Options) (H : Header) (E : Model) : Type 0 where
  pub header : H ≡ header_of S o
  pub declared : AreDeclared (taken_names S o) (shows_of S o) (plans S o) E.givens E.finds
  pub rules : AreRules (taken_names S o) (shows_of S o) (plans S o) (value_names finds_side S) (prepared S)
      (scope_of_tables E.givens E.finds) E.goal E.rules

-- No model is built, since something of this part can't be written.
abbrev pub NoneIsBuilt : List Stm → Options → Part → Type 0
NoneIsBuilt S o = PartLacks (taken_names S o) (shows_of S o) (plans S o) (value_names finds_side S) (prepared S)
