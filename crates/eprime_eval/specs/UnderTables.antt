-- Declarations with tables, as they are held.
use Rattle.std.specs.Prelude.{◌≡◌, List}
use Rattle.ess_semantics.specs.Names.{Names}
use Rattle.ess_semantics.specs.Tables as pure
use Rattle.eprime_eval_kinds.specs.declared.declared.Shape.{Shape}
use Rattle.eprime_eval_kinds.specs.Shapes.{names_of}
use Rattle.eprime_eval.specs.declared.under.Under.{Under}
use Rattle.eprime_eval.specs.KnownTables.{cells_of, IsKnown}

-- The declarations have these shapes, and the tables are these.
pub record IsUnder (u : Under) (ss : List Shape) (c : Names pure.Table) : Type 0 where
  pub known : IsKnown u.known
  pub shapes : u.shapes ≡ ss
  pub names : u.known.names ≡ names_of ss
  pub cells : cells_of u.known ≡ c
