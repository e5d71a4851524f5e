use Rattle.std.proofs.Common.{◌≡◌, map, take}
use Rattle.ess_core_nodes.specs.NodeViews.{pure_dom}
use Rattle.ess_repr_declare_laws.specs.DeclaredTrees.{below_layer}
use Rattle.ess_declared_trees.specs.TableViews.{pure_declared}
use Rattle.ess_declared_trees.proofs.tables.tables_below.Given as goal

abbrev pub invariant-loop-table : goal.invariant-loop-table
invariant-loop-table l =
    map pure_declared l.all ≡ map (below_layer l.name (map pure_dom l.axes)) (map pure_declared (take l.table-index l.tables))
