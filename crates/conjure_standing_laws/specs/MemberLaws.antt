-- The headline for specifications of sets of atoms, of the models that the program writes; stated at a function that does nothing, so that
-- its proof is checked with the code.
use Rattle.std.specs.Prelude.{◌≡◌, true, List}
use Rattle.ess_semantics.specs.Judgements.{is_well_typed}
use Rattle.ess_semantics.specs.ModelTrees.{Header, Model}
use Rattle.ess_semantics.specs.Models.{Models, IsExact}
use Rattle.conjure_laws.specs.SetsOfAtoms.{Line, spec}
use Rattle.conjure_laws.specs.ModelsOfSets.{no_options}
use Rattle.conjure_modelling.specs.ess_models.Built.{IsBuilt}

-- Of each well typed specification whose finds are sets of numbers, of truth values or of values of a named type, without attributes and
-- kept as the members that occur, and whose constraints say that a literal is in a find: whatever is built of it stands for it, and each
-- solution has exactly one satisfying assignment. Nothing else is assumed.
abbrev pub BuiltModelsOfSetsAreRight : Type 0
BuiltModelsOfSetsAreRight =
    (T : List Line) (H : Header) (E : Model) → is_well_typed (spec T) ≡ true → IsBuilt (spec T) no_options H E →
    Models (spec T) no_options H E × IsExact (spec T) no_options E
