-- The law of specifications of scalars, stated at a function that does nothing.
use Rattle.std.specs.Prelude.{◌≡◌, true, List, None}
use Rattle.ess_semantics.specs.Trees.{Stm}
use Rattle.ess_semantics.specs.Judgements.{fault}
use Rattle.ess_semantics.specs.Plans.{Options}
use Rattle.ess_semantics.specs.ModelTrees.{header_of}
use Rattle.ess_semantics.specs.Models.{Models, IsExact}
use Rattle.ess_flat_models_laws.specs.FlatSpecifications.{is_flat_specification}
use Rattle.ess_flat_models_laws.specs.FlatModels.{flat_model}

-- Of each well typed specification whose givens and finds are truth values or numbers with bounds that numbers and earlier givens make,
-- kept as atoms, and whose constraints and objective are flat and total, all with lettings put in, the model stands for it, and each
-- solution has exactly one satisfying assignment. Nothing else is assumed.
abbrev pub FlatSpecificationsHaveModels : Type 0
FlatSpecificationsHaveModels =
    (S : List Stm) (o : Options) → fault S ≡ None → is_flat_specification S o ≡ true →
    Models S o (header_of S o) (flat_model S o) × IsExact S o (flat_model S o)
