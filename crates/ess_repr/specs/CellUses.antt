-- Whether cells can be out of use, as a truth value.
use Rattle.std.specs.Prelude.{Bool, true, false}
use Rattle.ess_repr.specs.declared.cells.CellUse.{CellUse}
use Rattle.ess_repr.specs.declared.cells.CellUse.TheVariants.{AlwaysInUse, CanBeOut}

-- Whether cells can be out of use.
abbrev pub can_be_out : CellUse → Bool
can_be_out AlwaysInUse = false
can_be_out CanBeOut = true
