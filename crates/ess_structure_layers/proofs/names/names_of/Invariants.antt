use Rattle.std.proofs.Common.{◌≡◌, ◌++◌, drop}
use Rattle.ess_repr_laws.specs.ViewParts.{shape_names}
use Rattle.ess_structure_terms.specs.ShapeViews.{pure_shapes}
use Rattle.ess_structure_layers.proofs.names.names_of.Given as goal

abbrev pub invariant-loop-table : goal.invariant-loop-table
invariant-loop-table l = l.names ++ shape_names (pure_shapes (drop l.table-index l.tables)) ≡ shape_names (pure_shapes l.tables)
