-- Tables over the axes that a representation declares: the layer's own ones, and its child's.
use Rattle.std.proofs.Common.{◌≡◌, refl, sym, ap, ◌∙◌, true, ◌&&◌, List, [], ◌∷◌, ◌++◌, map, length, Some, append-nil}
use Rattle.std.specs.List.{list_all}
use Rattle.std.proofs.lemmas.Bool.{eqb-true}
use Rattle.ess_semantics.specs.declared.words.ReprKind.{ReprKind}
use Rattle.ess_semantics.specs.Values.{Value}
use Rattle.ess_semantics.specs.Trees.{Repr, repr, no_reprs, more_reprs}
use Rattle.ess_semantics.specs.Domains.{Domain}
use Rattle.ess_semantics.specs.Tables.{Table, Tables, volume, is_filled, same_axes}
use Rattle.ess_semantics.specs.Cells.{Axes}
use Rattle.ess_semantics.specs.Layers.{Layer, some_each}
use Rattle.ess_semantics.specs.Representations.{layer}
use Rattle.ess_semantics.specs.Declarations.{axes_of}
use Rattle.ess_semantics.specs.Canonical.{somes}
use Rattle.ess_semantics.specs.Tidy.{over_axes}
use Rattle.ess_semantics.proofs.Tests.{and-left, and-right}
use Rattle.ess_repr_laws.proofs.RowsOfCells.{own_axes, axes_of_children}
use Rattle.ess_repr_laws.proofs.CanonicalPlaces.{AllOf, all-of-list}
use Rattle.ess_repr_rows_laws.proofs.Stacked.{axes-equal}
use Rattle.ess_repr_rows_laws.proofs.OwnCells.{TableOver}
use Rattle.ess_repr_rows_laws.proofs.LayerDownRows.{axes-at}

table-over : (as' : Axes) (t : Table) → is_filled t && same_axes t.axes as' ≡ true → TableOver as' t
table-over as' t h =
    let a = axes-equal t.axes as' (and-right (is_filled t) (same_axes t.axes as') h) in
    record { over = a; filled = eqb-true (length t.items) (volume t.axes) (and-left (is_filled t) (same_axes t.axes as') h) ∙ ap volume a }

-- The first table is over the first axes, and the others over the others.
pub first-over : (as' : Axes) (ass : List Axes) (t : Table) (ts : Tables) → over_axes [] (as' ∷ ass) (t ∷ ts) ≡ true → TableOver as' t
first-over as' ass t ts h = table-over as' t (and-left (is_filled t && same_axes t.axes as') (over_axes [] ass ts) h)

pub rest-over : (as' : Axes) (ass : List Axes) (t : Table) (ts : Tables) → over_axes [] (as' ∷ ass) (t ∷ ts) ≡ true → over_axes [] ass ts ≡ true
rest-over as' ass t ts h = and-right (is_filled t && same_axes t.axes as') (over_axes [] ass ts) h

-- The axes of a layer with one child.
pub child-axes : (k : ReprKind) (r : Repr) (d e : Domain) (l : Layer) → layer k d ≡ Some l → l.children ≡ e ∷ [] →
    axes_of (repr k (more_reprs r no_reprs)) d ≡ own_axes l.own ++ map (λ as'. l.axes ++ as') (axes_of r e)
child-axes k r d e l at only =
    axes-at k (more_reprs r no_reprs) d l at ∙ ap (λ es. own_axes l.own ++ axes_of_children (more_reprs r no_reprs) es l.axes) only
    ∙ ap (λ xs. own_axes l.own ++ xs) (append-nil (map (λ as'. l.axes ++ as') (axes_of r e)))

-- Tables over them.
pub over-child : (k : ReprKind) (r : Repr) (d e : Domain) (l : Layer) → layer k d ≡ Some l → l.children ≡ e ∷ [] → (ts : Tables) →
    over_axes [] (axes_of (repr k (more_reprs r no_reprs)) d) ts ≡ true → over_axes [] (own_axes l.own ++ map (λ as'. l.axes ++ as') (axes_of r e)) ts ≡ true
over-child k r d e l at only ts h = ap (λ ass. over_axes [] ass ts) (sym (child-axes k r d e l at only)) ∙ h

-- Each of the lists is over the axes.
pub each-over : (xs ass : List Axes) (tss : List Tables) → xs ≡ ass → list_all (over_axes [] ass) tss ≡ true → AllOf tss (λ ts. over_axes [] xs ts ≡ true)
each-over xs ass tss e h = all-of-list tss (over_axes [] xs) (ap (λ a. list_all (over_axes [] a) tss) e ∙ h)

-- The values at places that all have one.
pub somes-each : (xs : List Value) → somes (some_each xs) ≡ xs
somes-each [] = refl
somes-each (x ∷ xs) = ap (λ l. x ∷ l) (somes-each xs)

-- The same in a list of its own.
pub somes-only : (xs : List Value) → somes (some_each xs) ++ [] ≡ xs
somes-only xs = append-nil (somes (some_each xs)) ∙ somes-each xs
