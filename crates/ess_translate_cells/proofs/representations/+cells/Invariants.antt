use Rattle.std.proofs.Common.{◌≡◌, ◌++◌, map, drop}
use Rattle.ess_semantics.specs.Choice.{reprs_of}
use Rattle.ess_core.specs.TreeViews.{pure_repr}
use Rattle.ess_eval_domains.specs.ClosedViews.{pure_closed}
use Rattle.eprime_eval.specs.ClosedDomains.{pure_closed as pure_cells}
use Rattle.ess_translate_members_laws.specs.LayerCells.{cells_of_children}
use Rattle.ess_translate_cells.proofs.representations.+cells.Given as goal

abbrev pub invariant-with_children-loop-index : goal.invariant-with_children-loop-index
invariant-with_children-loop-index l =
    map pure_cells l.all ++ cells_of_children l.out (reprs_of (map pure_repr (drop l.index l.reprs))) (map pure_closed
    (drop l.index l.parts))
    ≡ map pure_cells l.fn.own ++ cells_of_children l.out (reprs_of (map pure_repr l.reprs)) (map pure_closed l.parts)
