-- The tables of views as the definitions have them.
use Rattle.std.specs.Prelude.{List, map}
use Rattle.ess_repr_laws.specs.StructureParts as pure
use Rattle.ess_core_nodes.specs.NodeViews.{pure_dom}
use Rattle.ess_structure_terms.specs.declared.shapes.Shape.{Shape}

-- A table.
abbrev pub pure_shape : Shape → pure.Shape
pure_shape s = record { name = s.name; truth = s.truth; axes = map pure_dom s.axes }

-- Several tables.
abbrev pub pure_shapes : List Shape → List pure.Shape
pure_shapes ss = map pure_shape ss
