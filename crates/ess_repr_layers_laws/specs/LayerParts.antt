-- What the layer of a kind over a domain has: children, axes, and tables of its own. A kind that is none for the domain has nothing.
use Rattle.std.specs.Prelude.{List, [], ◌∷◌, ◌++◌, map, None, Some}
use Rattle.ess_semantics.specs.declared.words.ReprKind.{ReprKind}
use Rattle.ess_semantics.specs.Trees.{Reprs, more_reprs}
use Rattle.ess_semantics.specs.Domains.{Domain}
use Rattle.ess_semantics.specs.Cells.{Axes}
use Rattle.ess_semantics.specs.Layers.{Use, everywhere, up_to_marker, where_flagged, where_counted}
use Rattle.ess_semantics.specs.Representations.{layer}
use Rattle.ess_semantics.specs.Declarations.{axes_of}

-- The domain of each child.
abbrev pub children_of : ReprKind → Domain → List Domain
children_of k d = elim (layer k d) [ None ↦ [] | Some l ↦ l.children ]

-- The axes that stand before those of the children's tables.
abbrev pub front_axes : ReprKind → Domain → Axes
front_axes k d = elim (layer k d) [ None ↦ [] | Some l ↦ l.axes ]

-- The axes of each table of its own.
abbrev pub own_axes_of : ReprKind → Domain → List Axes
own_axes_of k d = elim (layer k d) [ None ↦ [] | Some l ↦ map (λ t. t.axes) l.own ]

-- The axes of the children's tables, behind others.
abbrev pub axes_below : Reprs → List Domain → Axes → List Axes
axes_below (more_reprs r rs) (d ∷ ds) bs = map (λ as'. bs ++ as') (axes_of r d) ++ axes_below rs ds bs
axes_below _ _ bs = []

-- Which places are in use, by the kind alone.
abbrev pub use_of : ReprKind → Use
use_of ReprKind.ExplicitVarSizeWithMarker = up_to_marker
use_of ReprKind.MSetExplicitWithRepetition = up_to_marker
use_of ReprKind.ExplicitVarSizeWithFlags = where_flagged
use_of ReprKind.Function1DPartial = where_flagged
use_of ReprKind.FunctionNDPartial = where_flagged
use_of ReprKind.MSetExplicitWithFlags = where_counted
use_of _ = everywhere
