use Rattle.std.proofs.Common.{◌≡◌, []}
use Rattle.ess_core_nodes.specs.NodeViews.{pure_node}
use Rattle.ess_node_types.specs.TypedNames.{pure_names}
use Rattle.ess_refine.specs.Passes.{Passes}
use Rattle.ess_refine.proofs.refining.passed.Given as goal

abbrev pub invariant-loop-pass : goal.invariant-loop-pass
invariant-loop-pass l =
    Passes l.initial.turns [] (pure_node l.initial.node) (pure_node l.node) l.turns × (pure_names l.names ≡ [])
