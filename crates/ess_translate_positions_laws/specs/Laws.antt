-- Laws of forms, each stated at a function that does nothing, so that its proof is checked with the code.
use Rattle.std.specs.Prelude.{◌≡◌, true, Some, List, ℤ}
use Rattle.ess_semantics.specs.Values.{Value}
use Rattle.ess_semantics.specs.Trees.{Repr}
use Rattle.ess_semantics.specs.Domains.{Domain}
use Rattle.ess_semantics.specs.Tables.{Tables}
use Rattle.ess_semantics.specs.Representations.{value_of_tables}
use Rattle.ess_repr_laws.specs.Rooms.{Covered}
use Rattle.ess_translate_positions_laws.specs.Forms.{has_form}

-- What tables stand for has the form of the domain, whatever the tables are.
abbrev pub StoodForHasForm : Type 0
StoodForHasForm = (r : Repr) (d : Domain) → Covered r d → (ts : Tables) (is : List ℤ) (v : Value) → value_of_tables r d ts is ≡ Some v →
    has_form d v ≡ true
