-- The cells of a representation's tables as numbers, layer by layer.
use Rattle.std.specs.Prelude.{Bool, ◌||◌, List, [], ◌∷◌, ◌++◌, map, None, Some}
use Rattle.ess_semantics.specs.declared.words.ReprKind.{ReprKind}
use Rattle.ess_semantics.specs.Trees.{Repr, Reprs, more_reprs}
use Rattle.ess_semantics.specs.Domains.{Domain}
use Rattle.ess_semantics.specs.Cells.{Axes}
use Rattle.ess_semantics.specs.Representations.{layer}
use Rattle.ess_semantics.specs.Declarations.{Declaration, declared_own, leaves_out, declarations_below}
use Rattle.ess_repr_layers_laws.specs.LayerParts.{use_of}
use Rattle.ess_translate_members_laws.specs.CellForms.{cell_form}

-- Whether the cells of the children of a kind can be out of use.
abbrev pub frees : ReprKind → Bool
frees k = leaves_out (use_of k)

-- The cells of the tables that the layer of a kind has of its own, where they can be out of use or not.
abbrev pub own_cells : Bool → ReprKind → Domain → List Domain
own_cells out k d = elim (layer k d) [ None ↦ [] | Some l ↦ map (λ t. cell_form (declared_own out t).cell) l.own ]

-- The cells of all tables of a representation.
abbrev pub cells_of : Bool → Repr → Domain → List Domain
cells_of out r d = map (λ t. cell_form t.cell) (declarations_below out r d)

-- The cells of the tables of children.
abbrev pub cells_of_children : Bool → Reprs → List Domain → List Domain
cells_of_children out (more_reprs r rs) (d ∷ ds) = cells_of out r d ++ cells_of_children out rs ds
cells_of_children out _ ds = []

-- Tables over these axes, with these cells.
abbrev pub tables_of : List Axes → List Domain → List Declaration
tables_of (as' ∷ ass) (c ∷ cs) = record { axes = as'; cell = c } ∷ tables_of ass cs
tables_of _ cs = []
