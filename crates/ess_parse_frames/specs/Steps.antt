-- Steps of indices, as the parser makes them.
use Rattle.std.specs.Prelude.{[], ◌∷◌}
use Rattle.ess_semantics.specs.Trees.{Step, by_value}
use Rattle.ess_core.specs.TreeViews.{With, pure_ex}
use Rattle.ess_core.specs.declared.expressions.Ex.{Ex}

-- A step of an index by this value.
abbrev pub step_by : Ex → With Step
step_by e = (by_value, pure_ex e ∷ [])
