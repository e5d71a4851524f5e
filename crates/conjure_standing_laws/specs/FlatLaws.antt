-- The headline for specifications of scalars with a flat and total objective and constraints, of the model that the program writes; stated at
-- a function that does nothing, so that its proof is checked with the code.
use Rattle.std.specs.Prelude.{◌≡◌, true, List, None}
use Rattle.ess_semantics.specs.Trees.{Stm}
use Rattle.ess_semantics.specs.Judgements.{fault}
use Rattle.ess_semantics.specs.Plans.{Options}
use Rattle.ess_semantics.specs.ModelTrees.{Header, Model, header_of}
use Rattle.ess_semantics.specs.Models.{Models, IsExact}
use Rattle.conjure_modelling.specs.ess_models.Built.{IsBuilt}
use Rattle.ess_flat_models_laws.specs.FlatSpecifications.{is_flat_specification}
use Rattle.ess_flat_models_laws.specs.FlatModels.{flat_model}

-- Of a well typed specification of the class one model alone is built: that of single cells, whose bounds, objective and rules are those of
-- the specification with cells in the place of names, objective and rules simplified, behind `true` for the objective. So each model that
-- is built of such a specification stands for it, and each solution has exactly one satisfying assignment. Nothing else is assumed.
pub record BuiltModelsAreRight : Type 0 where
  pub one : (S : List Stm) (o : Options) (H : Header) (E : Model) → fault S ≡ None → is_flat_specification S o ≡ true → IsBuilt S o H E →
      (H ≡ header_of S o) × (E ≡ flat_model S o)
  pub right : (S : List Stm) (o : Options) (H : Header) (E : Model) → fault S ≡ None → is_flat_specification S o ≡ true →
      IsBuilt S o H E → Models S o H E × IsExact S o E
