-- The tables for the numbers of values of types, plan by plan.
use Rattle.std.specs.Prelude.{Option, None}
use Rattle.ess_semantics.specs.Lists.{when}
use Rattle.ess_semantics.specs.Values.{Text}
use Rattle.ess_semantics.specs.Order.{same_text}
use Rattle.ess_semantics.specs.Plans.{Plan, size_plan, value_plan}

-- The name of a plan's table for the number of values of this type.
abbrev pub size_cell : Plan → Text → Option Text
size_cell (size_plan u n) t = when (same_text u t) n
size_cell (value_plan f x r d ns) t = None
