use Rattle.std.proofs.Common.{◌≡◌, map, take}
use Rattle.ess_core_nodes.specs.NodeViews.{pure_dom}
use Rattle.ess_repr_laws.specs.StructureParts.{on_axes}
use Rattle.ess_structure_terms.specs.ShapeViews.{pure_shapes}
use Rattle.ess_structure_layers.proofs.tables.on_axes.Given as goal

abbrev pub invariant-loop-table : goal.invariant-loop-table
invariant-loop-table l = pure_shapes l.all ≡ map (on_axes (map pure_dom l.axes)) (pure_shapes (take l.table-index l.tables))
