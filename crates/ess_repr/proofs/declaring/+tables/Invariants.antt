use Rattle.std.proofs.Common.{◌≡◌, ◌-◌, ◌++◌, map, drop, length}
use Rattle.ess_core.specs.TreeViews.{pure_dom}
use Rattle.ess_core.specs.TableViews.{pure_decl}
use Rattle.ess_repr_declare_laws.specs.DeclaredTrees.{below_layer}
use Rattle.ess_repr.specs.CellUses.{can_be_out}
use Rattle.ess_repr.proofs.DeclaredLayers.{children_from}
use Rattle.ess_repr.proofs.declaring.+tables.Given as goal

abbrev pub invariant-add_children-loop-i : goal.invariant-add_children-loop-i
invariant-add_children-loop-i l =
    map pure_decl l.tables
    ++ map (below_layer l.name (map pure_dom l.axes)) (children_from (can_be_out l.out) (drop l.i l.children) (drop l.i l.names) (drop l.i l.doms))
    ≡ map pure_decl l.initial.tables
    ++ map (below_layer l.name (map pure_dom l.axes)) (children_from (can_be_out l.out) l.children l.names l.doms)

abbrev pub decreases-add_children-loop-i : goal.decreases-add_children-loop-i
decreases-add_children-loop-i l = length l.children - l.i
