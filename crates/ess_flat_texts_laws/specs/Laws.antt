-- The law of texts of models of scalars, stated at a function that does nothing.
use Rattle.std.specs.Prelude.{◌≡◌, true, List}
use Rattle.ess_semantics.specs.Trees.{Stm}
use Rattle.ess_semantics.specs.Plans.{Options}
use Rattle.ess_grammar.specs.Readable.{ReadableStms}
use Rattle.ess_grammar.specs.Models.{is_readable_model}
use Rattle.ess_flat_models_laws.specs.FlatSpecifications.{is_flat_specification}
use Rattle.ess_flat_models_laws.specs.FlatModels.{flat_model}

-- The model of a specification of the class whose statements some text has is one that some text has: names of tables are name tokens and
-- differ, no number is below 0 or above 2^63 - 1, each cell is declared with its mark, and each operator is one of models.
abbrev pub FlatModelsAreReadable : Type 0
FlatModelsAreReadable =
    (S : List Stm) (o : Options) → ReadableStms S → is_flat_specification S o ≡ true → is_readable_model (flat_model S o) ≡ true
