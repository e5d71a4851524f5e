use Rattle.std.proofs.Common.{◌≡◌, ◌++◌, map, drop}
use Rattle.ess_semantics.specs.Choice.{reprs_of}
use Rattle.ess_core.specs.TreeViews.{pure_repr}
use Rattle.ess_eval_domains.specs.ClosedViews.{pure_closed}
use Rattle.ess_repr_layers_laws.specs.LayerParts.{axes_below}
use Rattle.ess_repr_closed.proofs.representations.+axes.Given as goal

abbrev pub invariant-with_children-loop-index : goal.invariant-with_children-loop-index
invariant-with_children-loop-index l =
    l.all ++ axes_below (reprs_of (map pure_repr (drop l.index l.reprs))) (map pure_closed (drop l.index l.parts)) l.front
    ≡ l.fn.own ++ axes_below (reprs_of (map pure_repr l.reprs)) (map pure_closed l.parts) l.front
