-- Generators with what is asked before them, as code keeps them.
use Rattle.std.specs.Prelude.{map}
use Rattle.ess_core_nodes.specs.NodeViews.{pure_node, pure_gen}
use Rattle.ess_guard.specs.Steps.{Step}
use Rattle.ess_guard.specs.declared.assembling.Asked.{Asked}

-- A generator or condition with what is asked before it.
abbrev pub pure_step : Asked → Step
pure_step s = (pure_gen s.item, map pure_node s.asked)
