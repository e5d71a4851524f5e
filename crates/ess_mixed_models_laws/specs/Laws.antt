-- The laws of specifications of scalars and sets, each stated at a function that does nothing.
use Rattle.std.specs.Prelude.{◌≡◌, true, List, None}
use Rattle.ess_semantics.specs.Trees.{Stm}
use Rattle.ess_semantics.specs.Judgements.{fault, is_well_typed}
use Rattle.ess_semantics.specs.Plans.{Options}
use Rattle.ess_semantics.specs.ModelTrees.{Model, header_of}
use Rattle.ess_semantics.specs.Models.{Models, IsExact}
use Rattle.conjure_laws.specs.SetsOfAtoms.{Line, spec}
use Rattle.conjure_laws.specs.ModelsOfSets.{no_options}
use Rattle.ess_flat_models_laws.specs.FlatSpecifications.{is_flat_specification}
use Rattle.ess_mixed_models_laws.specs.MixedSpecifications.{is_mixed_specification}
use Rattle.ess_mixed_models_laws.specs.MixedModels.{IsMixedModel}

-- Of each well typed specification of scalars and sets whose constraints are flat and total over the scalars, such over scalars, ranges and
-- sets of any nesting, or memberships, each model with the declarations of its plans and a rule of each constraint stands for it, and each
-- solution has exactly one satisfying assignment. Nothing else is assumed.
abbrev pub MixedModelsAreRight : Type 0
MixedModelsAreRight =
    (S : List Stm) (o : Options) (E : Model) → fault S ≡ None → is_mixed_specification S o ≡ true → IsMixedModel S o E →
    Models S o (header_of S o) E × IsExact S o E

-- Specifications of scalars alone are of the class, and so are well typed ones of sets of atoms alone.
pub record ClassesAreMixed : Type 0 where
  pub scalars : (S : List Stm) (o : Options) → is_flat_specification S o ≡ true → is_mixed_specification S o ≡ true
  pub sets : (T : List Line) → is_well_typed (spec T) ≡ true → is_mixed_specification (spec T) no_options ≡ true
