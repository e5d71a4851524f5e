use Rattle.std.proofs.Common.{◌≡◌, ◌++◌, map, take}
use Rattle.ess_core.specs.TreeViews.{pure_dom}
use Rattle.ess_core.specs.TableViews.{pure_decl}
use Rattle.ess_repr_declare_laws.specs.DeclaredTrees.{below_layer}
use Rattle.ess_repr.proofs.declaring.add_below.Given as goal

abbrev pub invariant-loop-table : goal.invariant-loop-table
invariant-loop-table l =
    map pure_decl l.tables
    ≡ map pure_decl l.initial.tables ++ map (below_layer l.name (map pure_dom l.axes)) (map pure_decl (take l.table-index l.own))
