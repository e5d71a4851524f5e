-- When an operator's node stays as it is.
use Rattle.std.specs.Prelude.{Bool, ◌&&◌, not, Option, is_some}
use Rattle.ess_semantics.specs.Trees.{Exs}
use Rattle.ess_semantics.specs.Types.{Ty}
use Rattle.ess_semantics.specs.ModelMeaning.{some_nothing}

-- Whether the operands fit, so that the node has a type, and each has something.
abbrev pub stands : Exs → Option Ty → Bool
stands es o = is_some o && not (some_nothing es)
