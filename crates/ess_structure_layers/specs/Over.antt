-- The tables and the structure of a layer with one child, by what stands below it.
use Rattle.std.specs.Prelude.{ℕ, false, List, [], ◌++◌, map, drop, Option, Some, None}
use Rattle.ess_semantics.specs.declared.words.ReprKind.{ReprKind}
use Rattle.ess_semantics.specs.Representations.{own_width}
use Rattle.ess_semantics.specs.Values.{Text}
use Rattle.ess_semantics.specs.Trees.{Repr, Ex, Exs, truth_ex, Dom}
use Rattle.ess_repr_laws.specs.StructureParts.{Shape, on_axes, level_behind, row_index}
use Rattle.ess_repr_laws.specs.Structure.{shapes, structure}
use Rattle.ess_repr_declare_laws.specs.SizeTerms.{size_terms}
use Rattle.conjure_model_laws.specs.ToldApart.{reserved}
use Rattle.ess_structure_domains.specs.Inner.{Inner}
use Rattle.ess_structure_layers.specs.Layers.{own_shapes, layer_structure}

-- The tables of a layer of this kind, by what stands below it.
abbrev pub shapes_over : Option Inner → ReprKind → Repr → List Text → List Shape
shapes_over None k r ns = []
shapes_over (Some i) k r ns = own_shapes k ns i.axes ++ map (on_axes i.axes) (shapes reserved size_terms r i.dom (drop (own_width k) ns))

-- The structure of a layer of this kind, by what stands below it.
abbrev pub structure_over : Option Inner → ReprKind → Repr → Dom → List Text → ℕ → Exs → Ex
structure_over None k r d ns l is = truth_ex false
structure_over (Some i) k r d ns l is =
    layer_structure k r d ns l is i.axes (shapes reserved size_terms r i.dom (drop (own_width k) ns))
    (structure reserved size_terms r i.dom (drop (own_width k) ns) (level_behind l i.axes) (row_index reserved l i.axes is))
