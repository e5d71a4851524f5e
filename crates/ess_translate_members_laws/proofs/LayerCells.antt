-- The cells of a representation's tables are those of its layer's own tables, then those of its children's.
use Rattle.std.proofs.Common.{◌≡◌, refl, sym, ap, ◌∙◌, Bool, false, ◌||◌, List, [], ◌∷◌, ◌++◌, map, Option, Some, None}
use Rattle.std.proofs.lemmas.List.{map-append}
use Rattle.ess_semantics.specs.declared.words.ReprKind.{ReprKind}
use Rattle.ess_semantics.specs.Trees.{Repr, Reprs, repr, no_reprs, more_reprs}
use Rattle.ess_semantics.specs.Domains.{Domain, booleans, integers, named, tuples, records, matrices, sets, msets, functions, relations, partitions}
use Rattle.ess_semantics.specs.Cells.{Axes}
use Rattle.ess_semantics.specs.Layers.{Layer, OwnTable}
use Rattle.ess_semantics.specs.Representations.{layer}
use Rattle.ess_semantics.specs.Declarations.{Declaration, declared_own, under, leaves_out, declarations_below, declarations_of_children, declarations, axes_of}
use Rattle.ess_repr_layers_laws.specs.LayerParts.{children_of, use_of}
use Rattle.ess_translate_members_laws.specs.CellForms.{cell_form, plain}
use Rattle.ess_translate_members_laws.specs.LayerCells.{frees, own_cells, cells_of, cells_of_children, tables_of}

-- ---- the kind says what is out of use

-- The layer's use is that of its kind, as far as cells can be out of use.
abbrev Uses : ReprKind → Option Layer → Type 0
Uses k None = Unit {0}
Uses k (Some l) = leaves_out l.in_use ≡ frees k

kind-uses : (k : ReprKind) (d : Domain) → Uses k (layer k d)
kind-uses ReprKind.Atom booleans = refl
kind-uses ReprKind.Atom (integers ss) = refl
kind-uses ReprKind.Atom (named t n) = refl
kind-uses ReprKind.Tuple (tuples ds) = refl
kind-uses ReprKind.Rec (records fs ds) = refl
kind-uses ReprKind.Matrix (matrices is d) = refl
kind-uses ReprKind.Occurrence (sets ks d) = refl
kind-uses ReprKind.Explicit (sets ks d) = refl
kind-uses ReprKind.ExplicitVarSizeWithMarker (sets ks d) = refl
kind-uses ReprKind.ExplicitVarSizeWithFlags (sets ks d) = refl
kind-uses ReprKind.ExplicitVarSizeWithDummy (sets ks d) = refl
kind-uses ReprKind.MSetOccurrence (msets ks d) = refl
kind-uses ReprKind.MSetExplicitWithRepetition (msets ks d) = refl
kind-uses ReprKind.MSetExplicitWithFlags (msets ks d) = refl
kind-uses ReprKind.Function1D (functions ks d c) = refl
kind-uses ReprKind.Function1DPartial (functions ks d c) = refl
kind-uses ReprKind.FunctionND (functions ks (tuples ds) c) = refl
kind-uses ReprKind.FunctionNDPartial (functions ks (tuples ds) c) = refl
kind-uses ReprKind.FunctionAsRelation (functions ks d c) = refl
kind-uses ReprKind.RelationAsMatrix (relations ks ds) = refl
kind-uses ReprKind.RelationAsSet (relations ks ds) = refl
kind-uses ReprKind.PartitionOccurrence (partitions ks d) = refl
kind-uses ReprKind.PartitionAsSet (partitions ks d) = refl
kind-uses _ d = tt

-- ---- all layers

abbrev cells_in : List Declaration → List Domain
cells_in ts = map (λ t. cell_form t.cell) ts

own-in : (out : Bool) (ts : List OwnTable) → cells_in (map (declared_own out) ts) ≡ map (λ t. cell_form (declared_own out t).cell) ts
own-in out [] = refl
own-in out (t ∷ ts) = ap (λ l. cell_form (declared_own out t).cell ∷ l) (own-in out ts)

under-in : (as' : Axes) (ds : List Declaration) → cells_in (under as' ds) ≡ cells_in ds
under-in as' [] = refl
under-in as' (d ∷ ds) = ap (λ l. cell_form d.cell ∷ l) (under-in as' ds)

children-in : (out : Bool) (rs : Reprs) (ds : List Domain) (as' : Axes) →
    cells_in (declarations_of_children out rs ds as') ≡ cells_of_children out rs ds
children-in out no_reprs ds as' = refl
children-in out (more_reprs r rs) [] as' = refl
children-in out (more_reprs r rs) (d ∷ ds) as' =
    map-append (λ t. cell_form t.cell) (under as' (declarations_below out r d)) (declarations_of_children out rs ds as')
    ∙ ap (λ l. l ++ cells_in (declarations_of_children out rs ds as')) (under-in as' (declarations_below out r d))
    ∙ ap (λ l. cells_of out r d ++ l) (children-in out rs ds as')

none-below : (out : Bool) (rs : Reprs) → [] ≡ cells_of_children out rs []
none-below out no_reprs = refl
none-below out (more_reprs r rs) = refl

-- The cells are those of the layer's own tables, then those of its children's.
pub cells_of-layer : (out : Bool) (k : ReprKind) (rs : Reprs) (d : Domain) →
    cells_of out (repr k rs) d ≡ own_cells out k d ++ cells_of_children (out || frees k) rs (children_of k d)
cells_of-layer out k rs d = go (layer k d) (kind-uses k d)
  where
    go : (o : Option Layer) → Uses k o →
        cells_in (elim o [
          | None ↦ []
          | Some l ↦ map (declared_own out) l.own ++ declarations_of_children
              (out || leaves_out l.in_use) rs l.children l.axes
        ])
        ≡ elim o [ None ↦ [] | Some l ↦ map (λ t. cell_form (declared_own out t).cell) l.own ]
        ++ cells_of_children (out || frees k) rs (elim o [ None ↦ [] | Some l ↦ l.children ])
    go None u = none-below (out || frees k) rs
    go (Some l) u =
        map-append (λ t. cell_form t.cell) (map (declared_own out) l.own) (declarations_of_children
        (out || leaves_out l.in_use) rs l.children l.axes)
        ∙ ap (λ x. x ++ cells_in (declarations_of_children (out || leaves_out l.in_use) rs l.children l.axes)) (own-in out l.own)
        ∙ ap (λ x. map (λ t. cell_form (declared_own out t).cell) l.own ++ x) (children-in
        (out || leaves_out l.in_use) rs l.children l.axes)
        ∙ ap (λ b. map (λ t. cell_form (declared_own out t).cell) l.own ++ cells_of_children (out || b) rs l.children) u

plain-tables : (ds : List Declaration) → tables_of (map (λ t. t.axes) ds) (cells_in ds) ≡ map plain ds
plain-tables [] = refl
plain-tables (d ∷ ds) = ap (λ l. plain d ∷ l) (plain-tables ds)

-- Axes and cells are the declared tables, with cells as numbers.
pub tables_of-all : (r : Repr) (d : Domain) → tables_of (axes_of r d) (cells_of false r d) ≡ map plain (declarations r d)
tables_of-all r d = plain-tables (declarations r d)
