-- What stands in a statement.
use Rattle.std.specs.Prelude.{Option, Some, None}
use Rattle.ess_semantics.specs.Trees.{Ex, Stm, such_that}

-- Its constraint.
abbrev pub constraint_in : Stm → Option Ex
constraint_in (such_that e) = Some e
constraint_in s = None
