-- The arguments of a function among axes, and which tables are a layer's own.
use Rattle.std.proofs.Common.{◌≡◌, ap, ◌∙◌, subst, true, ◌&&◌, List, [], ◌∷◌, ◌++◌, map, append-nil, length, Some}
use Rattle.std.proofs.lemmas.Bool.{eqb-true}
use Rattle.ess_semantics.specs.declared.words.ReprKind.{ReprKind}
use Rattle.ess_semantics.specs.Trees.{Repr, Reprs, repr, no_reprs, more_reprs}
use Rattle.ess_semantics.specs.Domains.{Attribute, Domain, Domains, functions, sets, relations, tuples, no_domains, more_domains}
use Rattle.ess_semantics.specs.Domains.{domain_list}
use Rattle.ess_semantics.specs.Tables.{Table, Tables, volume, code, is_filled, same_axes}
use Rattle.ess_semantics.specs.Cells.{Axes}
use Rattle.ess_semantics.specs.Layers.{Layer, codes_of}
use Rattle.ess_semantics.specs.Representations.{layer}
use Rattle.ess_semantics.specs.Declarations.{axes_of}
use Rattle.ess_semantics.specs.Tidy.{over_axes}
use Rattle.ess_semantics.specs.Atoms.{IsAtom, AreAtoms}
use Rattle.ess_semantics.proofs.Tests.{and-left, and-right}
use Rattle.ess_semantics.proofs.MemberLists.{atom-listed}
use Rattle.ess_repr_laws.specs.Rooms.{Covered}
use Rattle.ess_repr_laws.proofs.RowsOfCells.{own_axes, axes_of_children}
use Rattle.ess_repr_laws.proofs.TablesAndCells.{AxesDiffer}
use Rattle.ess_repr_laws.proofs.AxesOfTables.{axes-differ}
use Rattle.ess_repr_laws.proofs.TupleMembers.{AllListed, place_of}
use Rattle.ess_repr_laws.proofs.Arguments.{Arguments, atom-arguments, tuple-arguments}
use Rattle.ess_repr_rows_laws.proofs.Stacked.{axes-equal}
use Rattle.ess_repr_rows_laws.proofs.OwnCells.{TableOver}
use Rattle.ess_repr_rows_laws.proofs.LayerDownRows.{axes-at}

-- ---- arguments

-- Over one axis for an atom.
pub atom-places : (d : Domain) → IsAtom d → Arguments d (codes_of d ∷ []) (λ x. code x ∷ [])
atom-places d a = atom-arguments d (atom-listed d a)

-- The members of this axis differ.
pub atom-differ : (d : Domain) → IsAtom d → AxesDiffer (codes_of d ∷ [])
atom-differ d a = (axes-differ (repr ReprKind.Occurrence no_reprs) (sets [] d) a).0

all-listed : (ds : Domains) → AreAtoms ds → AllListed ds
all-listed no_domains a = tt
all-listed (more_domains d ds) a = (atom-listed d a.0, all-listed ds a.1)

-- Over one axis for each component of a tuple.
pub tuple-places : (ds : Domains) → AreAtoms ds → Arguments (tuples ds) (map codes_of (domain_list ds)) place_of
tuple-places ds a = tuple-arguments ds (all-listed ds a)

-- The members of each of these axes differ.
pub tuple-differ : (ds : Domains) → AreAtoms ds → AxesDiffer (map codes_of (domain_list ds))
tuple-differ ds a = (axes-differ (repr ReprKind.RelationAsMatrix no_reprs) (relations [] ds) a).0

-- ---- tables over the declared axes

module _ (k : ReprKind) (r : Repr) (d e : Domain) (l : Layer) (at : layer k d ≡ Some l) (only : l.children ≡ e ∷ []) where
  -- The declared axes: the layer's own, then those of the child's tables under the layer's axes.
  pub declared-axes : axes_of (repr k (more_reprs r no_reprs)) d ≡ own_axes l.own ++ map (λ as'. l.axes ++ as') (axes_of r e)
  declared-axes =
      axes-at k (more_reprs r no_reprs) d l at ∙ ap (λ es. own_axes l.own ++ axes_of_children (more_reprs r no_reprs) es l.axes) only
      ∙ ap (λ xs. own_axes l.own ++ xs) (append-nil (map (λ as'. l.axes ++ as') (axes_of r e)))

  -- Tables over these axes.
  pub over-declared : (ts : Tables) → over_axes [] (axes_of (repr k (more_reprs r no_reprs)) d) ts ≡ true →
      over_axes [] (own_axes l.own ++ map (λ as'. l.axes ++ as') (axes_of r e)) ts ≡ true
  over-declared ts h = subst (λ ass. over_axes [] ass ts ≡ true) declared-axes h

module _ (as' : Axes) (ass : List Axes) (t : Table) (ts : Tables) (h : over_axes [] (as' ∷ ass) (t ∷ ts) ≡ true) where
  first : is_filled t && same_axes t.axes as' ≡ true
  first = and-left (is_filled t && same_axes t.axes as') (over_axes [] ass ts) h

  -- The first table is over the first axes.
  pub first-over : TableOver as' t
  first-over =
      let a = axes-equal t.axes as' (and-right (is_filled t) (same_axes t.axes as') first) in
      let n = eqb-true (length t.items) (volume t.axes) (and-left (is_filled t) (same_axes t.axes as') first) in
      record { over = a; filled = n ∙ ap volume a }

  -- The others are over the others.
  pub others-over : over_axes [] ass ts ≡ true
  others-over = and-right (is_filled t && same_axes t.axes as') (over_axes [] ass ts) h

-- ---- one child

-- A function is kept by a kind with a child.
pub no-child : (k : ReprKind) (ks : List Attribute) (d c : Domain) → Covered (repr k no_reprs) (functions ks d c) → ⊥
no-child ReprKind.Atom ks d c h = h
no-child _ ks d c h = h

-- And with no second one.
pub second-child : (k : ReprKind) (r s : Repr) (rs : Reprs) (ks : List Attribute) (d c : Domain) →
    Covered (repr k (more_reprs r (more_reprs s rs))) (functions ks d c) → ⊥
second-child ReprKind.Atom r s rs ks d c h = h
second-child _ r s rs ks d c h = h
