-- The headline for specifications of scalars and sets, of the models that the program writes; stated at a function that does nothing, so
-- that its proof is checked with the code.
use Rattle.std.specs.Prelude.{◌≡◌, true, List, None}
use Rattle.ess_semantics.specs.Trees.{Stm}
use Rattle.ess_semantics.specs.Judgements.{fault}
use Rattle.ess_semantics.specs.Plans.{Options}
use Rattle.ess_semantics.specs.ModelTrees.{Header, Model, header_of}
use Rattle.ess_semantics.specs.Models.{Models, IsExact}
use Rattle.conjure_modelling.specs.ess_models.Built.{IsBuilt}
use Rattle.ess_mixed_models_laws.specs.MixedSpecifications.{is_mixed_specification}
use Rattle.ess_mixed_models_laws.specs.MixedModels.{IsMixedModel}

-- Whatever is built of a well typed specification of scalars and sets is a model of it: it has the declarations of its plans and a rule of
-- each constraint. So it stands for the specification, and each solution has exactly one satisfying assignment. Nothing else is assumed.
pub record BuiltMixedModelsAreRight : Type 0 where
  pub models : (S : List Stm) (o : Options) (H : Header) (E : Model) → fault S ≡ None → is_mixed_specification S o ≡ true →
      IsBuilt S o H E → (H ≡ header_of S o) × IsMixedModel S o E
  pub right : (S : List Stm) (o : Options) (H : Header) (E : Model) → fault S ≡ None → is_mixed_specification S o ≡ true →
      IsBuilt S o H E → Models S o H E × IsExact S o E
