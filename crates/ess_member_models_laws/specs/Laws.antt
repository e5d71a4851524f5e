-- The law of models of memberships, stated at a function that does nothing.
use Rattle.std.specs.Prelude.{◌≡◌, true, List}
use Rattle.ess_semantics.specs.Judgements.{is_well_typed}
use Rattle.ess_semantics.specs.ModelTrees.{Model, header_of}
use Rattle.ess_semantics.specs.Models.{Models, IsExact}
use Rattle.conjure_laws.specs.SetsOfAtoms.{Line, spec}
use Rattle.conjure_laws.specs.ModelsOfSets.{no_options}
use Rattle.ess_member_models_laws.specs.MemberModels.{IsMemberModel}

-- Of each well typed specification of sets of atoms, each model with their declarations and a rule that is written for each membership
-- stands for the specification, and each solution has exactly one satisfying assignment. Nothing else is assumed.
abbrev pub MemberModelsAreRight : Type 0
MemberModelsAreRight =
    (T : List Line) (E : Model) → is_well_typed (spec T) ≡ true → IsMemberModel T E →
    Models (spec T) no_options (header_of (spec T) no_options) E × IsExact (spec T) no_options E
