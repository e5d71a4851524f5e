-- Kinds with one child: what their layer has.
use Rattle.std.proofs.Common.{◌≡◌, refl, ap, ◌∙◌, ℕ, true, false, ◌&&◌, List, [], ◌∷◌, map, length, Option, Some}
use Rattle.std.proofs.lemmas.Bool.{eqb-true}
use Rattle.ess_semantics.specs.declared.words.ReprKind.{ReprKind}
use Rattle.ess_semantics.specs.Values.{Value}
use Rattle.ess_semantics.specs.Trees.{Repr, repr, no_reprs, more_reprs}
use Rattle.ess_semantics.specs.Domains.{Domain, Domains, tuples, domain_list, matrices, sets, msets, functions, relations, partitions}
use Rattle.ess_semantics.specs.Sizes.{slots_of_set, slots_of_mset, child_relation, child_set, child_parts}
use Rattle.ess_semantics.specs.Atoms.{IsAtom, AreAtoms}
use Rattle.ess_semantics.specs.Numbers.{one_to}
use Rattle.ess_semantics.specs.Tables.{Table, Tables, volume, same_axes, is_filled}
use Rattle.ess_semantics.specs.Cells.{Axes}
use Rattle.ess_semantics.specs.Layers.{Layer, up_to_marker, where_flagged, where_counted, codes_of}
use Rattle.ess_semantics.specs.ScalarLayers.{matrix_layer}
use Rattle.ess_semantics.specs.SetLayers.{explicit_layer, marker_layer, flags_layer}
use Rattle.ess_semantics.specs.MultisetLayers.{repetition_layer, mset_flags_layer}
use Rattle.ess_semantics.specs.FunctionLayers.{function_1d_layer, function_1d_partial_layer, function_nd_layer, function_nd_partial_layer, function_as_relation_layer}
use Rattle.ess_semantics.specs.RelationLayers.{relation_as_set_layer}
use Rattle.ess_semantics.specs.PartitionLayers.{partition_as_set_layer}
use Rattle.ess_semantics.specs.Representations.{layer, own_width}
use Rattle.ess_semantics.specs.Tidy.{over_axes}
use Rattle.ess_semantics.proofs.Tests.{and-left, and-right}
use Rattle.ess_repr_laws.specs.CanonicalTables.{is_compound}
use Rattle.ess_repr_laws.specs.Rooms.{Covered}
use Rattle.ess_repr_laws.proofs.RowsOfCells.{own_axes}
use Rattle.ess_repr_laws.proofs.TablesAndCells.{AxesDiffer}
use Rattle.ess_repr_laws.proofs.AxesOfTables.{run-differs, axes-differ}
use Rattle.ess_repr_rows_laws.specs.Cutting.{used_numbers}
use Rattle.ess_repr_rows_laws.proofs.Stacked.{axes-equal}
use Rattle.ess_repr_rows_laws.proofs.UsedSlots.{UseOver}
use Rattle.ess_repr_layers_laws.specs.LayerParts.{use_of}

-- A layer with one child: its own tables say which places are in use, and its axes have no member twice.
pub record OneChild (k : ReprKind) (r : Repr) (d : Domain) : Type 0 where
  pub child : Domain
  pub the : Layer
  pub at : layer k d ≡ Some the
  pub only : the.children ≡ child ∷ []
  pub covered : Covered r child
  pub differ : AxesDiffer the.axes
  pub wide : length (own_axes the.own) ≡ own_width k
  pub used : (ts : Tables) → over_axes [] (own_axes the.own) ts ≡ true → UseOver the.in_use the.axes ts
  pub same : (n : ℕ) (ts : Tables) → used_numbers the.in_use n ts ≡ used_numbers (use_of k) n ts
  pub content : (v : Value) → (vs : List (Option Value)) × (the.contents v ≡ vs ∷ [])

-- ---- own tables

-- one table over these axes
one-over : (bs : Axes) (t : Table) (ts : Tables) → over_axes [] (bs ∷ []) (t ∷ ts) ≡ true → (t.axes ≡ bs) × (length t.items ≡ volume bs)
one-over bs t ts h =
    let one = and-left (is_filled t && same_axes t.axes bs) (over_axes [] [] ts) h in
    let a = axes-equal t.axes bs (and-right (is_filled t) (same_axes t.axes bs) one) in
    (a, eqb-true (length t.items) (volume t.axes) (and-left (is_filled t) (same_axes t.axes bs) one) ∙ ap volume a)

flags-over : (bs : Axes) (ts : Tables) → over_axes [] (bs ∷ []) ts ≡ true → UseOver where_flagged bs ts
flags-over bs [] h = cc
flags-over bs (t ∷ ts) h = one-over bs t ts h

counts-over : (bs : Axes) (ts : Tables) → over_axes [] (bs ∷ []) ts ≡ true → UseOver where_counted bs ts
counts-over bs [] h = cc
counts-over bs (t ∷ ts) h = one-over bs t ts h

marker-over : (bs : Axes) (ts : Tables) → over_axes [] ([] ∷ []) ts ≡ true → UseOver up_to_marker bs ts
marker-over bs [] h = cc
marker-over bs (t ∷ ts) h = (one-over [] t ts h).0

-- ---- axes

atom-axis : (d : Domain) → IsAtom d → AxesDiffer (codes_of d ∷ [])
atom-axis d a = (axes-differ (repr ReprKind.Occurrence no_reprs) (sets [] d) a).0

atom-axes : (ds : Domains) → AreAtoms ds → AxesDiffer (map codes_of (domain_list ds))
atom-axes ds a = (axes-differ (repr ReprKind.RelationAsMatrix no_reprs) (relations [] ds) a).0

slots : (n : ℕ) → AxesDiffer (one_to n ∷ [])
slots n = (run-differs 1 n, tt)

-- ---- each kind

pub one-child : (k : ReprKind) (r : Repr) (d : Domain) → is_compound k ≡ false → Covered (repr k (more_reprs r no_reprs)) d → OneChild k r d
one-child ReprKind.Tuple r d n h = cc
one-child ReprKind.Rec r d n h = cc
one-child ReprKind.Matrix r (matrices is d) n h = record {
  child = d;
  the = matrix_layer is d;
  at = refl;
  only = refl;
  covered = h.2;
  differ = atom-axes is h.0;
  wide = refl;
  used = λ ts o. tt;
  same = λ m ts. refl;
  content = λ v. (_, refl);
}
one-child ReprKind.Explicit r (sets ks d) n h = record {
  child = d;
  the = explicit_layer ks d;
  at = refl;
  only = refl;
  covered = h;
  differ = slots (slots_of_set ks d);
  wide = refl;
  used = λ ts o. tt;
  same = λ m ts. refl;
  content = λ v. (_, refl);
}
one-child ReprKind.ExplicitVarSizeWithMarker r (sets ks d) n h = record {
  child = d;
  the = marker_layer ks d;
  at = refl;
  only = refl;
  covered = h;
  differ = slots (slots_of_set ks d);
  wide = refl;
  used = marker-over (one_to (slots_of_set ks d) ∷ []);
  same = λ m ts. refl;
  content = λ v. (_, refl);
}
one-child ReprKind.ExplicitVarSizeWithFlags r (sets ks d) n h = record {
  child = d;
  the = flags_layer ks d;
  at = refl;
  only = refl;
  covered = h;
  differ = slots (slots_of_set ks d);
  wide = refl;
  used = flags-over (one_to (slots_of_set ks d) ∷ []);
  same = λ m ts. refl;
  content = λ v. (_, refl);
}
one-child ReprKind.MSetExplicitWithRepetition r (msets ks d) n h = record {
  child = d;
  the = repetition_layer ks d;
  at = refl;
  only = refl;
  covered = h;
  differ = slots (slots_of_mset ks d);
  wide = refl;
  used = marker-over (one_to (slots_of_mset ks d) ∷ []);
  same = λ m ts. refl;
  content = λ v. (_, refl);
}
one-child ReprKind.MSetExplicitWithFlags r (msets ks d) n h = record {
  child = d;
  the = mset_flags_layer ks d;
  at = refl;
  only = refl;
  covered = h;
  differ = slots (slots_of_mset ks d);
  wide = refl;
  used = counts-over (one_to (slots_of_mset ks d) ∷ []);
  same = λ m ts. refl;
  content = λ v. (_, refl);
}
one-child ReprKind.Function1D r (functions ks d c) n h = record {
  child = c;
  the = function_1d_layer ks d c;
  at = refl;
  only = refl;
  covered = h.1;
  differ = atom-axis d h.0;
  wide = refl;
  used = λ ts o. tt;
  same = λ m ts. refl;
  content = λ v. (_, refl);
}
one-child ReprKind.Function1DPartial r (functions ks d c) n h = record {
  child = c;
  the = function_1d_partial_layer ks d c;
  at = refl;
  only = refl;
  covered = h.1;
  differ = atom-axis d h.0;
  wide = refl;
  used = flags-over (codes_of d ∷ []);
  same = λ m ts. refl;
  content = λ v. (_, refl);
}
one-child ReprKind.FunctionND r (functions ks (tuples ds) c) n h = record {
  child = c;
  the = function_nd_layer ks ds c;
  at = refl;
  only = refl;
  covered = h.1;
  differ = atom-axes ds h.0;
  wide = refl;
  used = λ ts o. tt;
  same = λ m ts. refl;
  content = λ v. (_, refl);
}
one-child ReprKind.FunctionNDPartial r (functions ks (tuples ds) c) n h = record {
  child = c;
  the = function_nd_partial_layer ks ds c;
  at = refl;
  only = refl;
  covered = h.1;
  differ = atom-axes ds h.0;
  wide = refl;
  used = flags-over (map codes_of (domain_list ds));
  same = λ m ts. refl;
  content = λ v. (_, refl);
}
one-child ReprKind.FunctionAsRelation r (functions ks d c) n h = record {
  child = child_relation ks d c;
  the = function_as_relation_layer ks d c;
  at = refl;
  only = refl;
  covered = h;
  differ = tt;
  wide = refl;
  used = λ ts o. tt;
  same = λ m ts. refl;
  content = λ v. (_, refl);
}
one-child ReprKind.RelationAsSet r (relations ks ds) n h = record {
  child = child_set ks ds;
  the = relation_as_set_layer ks ds;
  at = refl;
  only = refl;
  covered = h;
  differ = tt;
  wide = refl;
  used = λ ts o. tt;
  same = λ m ts. refl;
  content = λ v. (_, refl);
}
one-child ReprKind.PartitionAsSet r (partitions ks d) n h = record {
  child = child_parts ks d;
  the = partition_as_set_layer ks d;
  at = refl;
  only = refl;
  covered = h;
  differ = tt;
  wide = refl;
  used = λ ts o. tt;
  same = λ m ts. refl;
  content = λ v. (_, refl);
}
one-child _ r d n h = absurd h
