-- The axes of a representation's tables, by what its layer has.
use Rattle.std.proofs.Common.{◌≡◌, refl, ap, ◌∙◌, false, ◌||◌, List, [], ◌∷◌, ◌++◌, map, Option, Some, None}
use Rattle.ess_semantics.specs.declared.words.ReprKind.{ReprKind}
use Rattle.ess_semantics.specs.Trees.{Reprs, repr, no_reprs, more_reprs}
use Rattle.ess_semantics.specs.Domains.{Domain}
use Rattle.ess_semantics.specs.Cells.{Axes}
use Rattle.ess_semantics.specs.Layers.{Layer}
use Rattle.ess_semantics.specs.Representations.{layer}
use Rattle.ess_semantics.specs.Declarations.{declared_own, declarations_of_children, leaves_out, axes_of}
use Rattle.ess_repr_laws.proofs.RowsOfCells.{own_axes, axes_in, axes_of_children}
use Rattle.ess_repr_rows_laws.proofs.LayerDownRows.{axes-at}
use Rattle.ess_repr_layers_laws.specs.LayerParts.{children_of, front_axes, own_axes_of, axes_below}

-- Both definitions of the axes below say the same.
pub axes_below-same : (rs : Reprs) (ds : List Domain) (bs : Axes) → axes_of_children rs ds bs ≡ axes_below rs ds bs
axes_below-same no_reprs ds bs = refl
axes_below-same (more_reprs r rs) [] bs = refl
axes_below-same (more_reprs r rs) (d ∷ ds) bs = ap (λ l. map (λ as'. bs ++ as') (axes_of r d) ++ l) (axes_below-same rs ds bs)

none-below : (rs : Reprs) (bs : Axes) → [] ≡ axes_below rs [] bs
none-below no_reprs bs = refl
none-below (more_reprs r rs) bs = refl

-- The axes are those of the layer's own tables, then those of its children's.
pub axes_of-layer : (k : ReprKind) (rs : Reprs) (d : Domain) →
    axes_of (repr k rs) d ≡ own_axes_of k d ++ axes_below rs (children_of k d) (front_axes k d)
axes_of-layer k rs d = go (layer k d) refl
  where
    go : (o : Option Layer) → layer k d ≡ o →
        axes_of (repr k rs) d ≡
        elim o [ None ↦ [] | Some l ↦ own_axes l.own ] ++ axes_below rs (elim o [ None ↦ [] | Some l ↦ l.children ])
        (elim o [ None ↦ [] | Some l ↦ l.axes ])
    go None e =
        ap (λ o. axes_in (elim o [ None ↦ [] | Some l ↦ map (declared_own false) l.own ++ declarations_of_children (false || leaves_out l.in_use) rs l.children l.axes ])) e
        ∙ none-below rs []
    go (Some l) e = axes-at k rs d l e ∙ ap (λ xs. own_axes l.own ++ xs) (axes_below-same rs l.children l.axes)
