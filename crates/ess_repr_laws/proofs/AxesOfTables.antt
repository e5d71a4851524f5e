-- The axes of a representation's tables have no member twice.
use Rattle.std.proofs.Common.{◌≡◌, refl, sym, ap, ◌∙◌, subst, ℕ, zero, suc, ◌<◌, Bool, true, false, ◌&&◌, ◌||◌, List, [], ◌∷◌, ◌++◌, map, pos, nat_le, arith, le_refl}
use Rattle.std.specs.List.{list_all}
use Rattle.ess_semantics.specs.Values.{Text, Value, number, truth, item, node}
use Rattle.ess_semantics.specs.Order.{same, same_int, same_text, order_text}
use Rattle.ess_semantics.specs.Collections.{holds}
use Rattle.ess_semantics.specs.Numbers.{run_from, one_to}
use Rattle.ess_semantics.specs.Domains.{Domain, Domains, booleans, integers, named, tuples, records, matrices, sets, msets, functions, relations, partitions, no_domains, more_domains, domain_list, member_list}
use Rattle.ess_semantics.specs.Membership.{member}
use Rattle.ess_semantics.specs.Tables.{Tables, code}
use Rattle.ess_semantics.specs.Sizes.{slots_of_set, slots_of_mset, child_relation, child_set, child_parts}
use Rattle.ess_semantics.specs.Trees.{Repr, Reprs, repr, no_reprs, more_reprs}
use Rattle.ess_semantics.specs.declared.words.ReprKind.{ReprKind}
use Rattle.ess_semantics.specs.Cells.{Axes, cells_of}
use Rattle.ess_semantics.specs.Layers.{Layer, codes_of}
use Rattle.ess_semantics.specs.ScalarLayers.{tuple_layer, record_layer, matrix_layer}
use Rattle.ess_semantics.specs.SetLayers.{explicit_layer, marker_layer, flags_layer}
use Rattle.ess_semantics.specs.MultisetLayers.{repetition_layer, mset_flags_layer}
use Rattle.ess_semantics.specs.FunctionLayers.{function_1d_layer, function_1d_partial_layer, function_nd_layer, function_nd_partial_layer, function_as_relation_layer}
use Rattle.ess_semantics.specs.RelationLayers.{relation_as_set_layer}
use Rattle.ess_semantics.specs.PartitionLayers.{partition_as_set_layer}
use Rattle.ess_semantics.specs.Representations.{value_of_cells}
use Rattle.ess_semantics.specs.Declarations.{declared_own, declarations_of_children, leaves_out, axes_of}
use Rattle.ess_semantics.specs.CanonicalTest.{canonical}
use Rattle.ess_semantics.specs.Tidy.{over_axes}
use Rattle.ess_repr_laws.specs.Rooms.{Covered, AllCovered}
use Rattle.ess_semantics.specs.Atoms.{IsAtom, AreAtoms}
use Rattle.ess_semantics.proofs.Tests.{and-left, and-right, or-left-no, or-right-no}
use Rattle.ess_semantics.proofs.Orders.{same-itself, same_int-equal, equal-of, text_exact}
use Rattle.ess_semantics.proofs.Sorting.{sorted-of, Distinct}
use Rattle.ess_repr_laws.proofs.RowsOfCells.{EachOf, own_axes, axes_in, axes_of_children, axes-of-layer}
use Rattle.ess_semantics.proofs.Repeats.{sorted-distinct}
use Rattle.ess_semantics.proofs.MemberLists.{atom-listed}
use Rattle.ess_repr_laws.proofs.TablesAndCells.{NumbersDiffer, AxesDiffer, AllAxesDiffer, one-tables}
use Rattle.ess_repr_laws.proofs.CanonicalForms.{right}

-- ---- numbers of slots

differ : (a b : ℕ) → a < b → same_int (pos a) (pos b) ≡ false
differ a b h = go (same_int (pos a) (pos b)) refl
  where
    go : (c : Bool) → same_int (pos a) (pos b) ≡ c → same_int (pos a) (pos b) ≡ false
    go false e = e
    go true e = let q : pos a ≡ pos b = same_int-equal (pos a) (pos b) e in let r : a ≡ b = cc in absurd (omega arith)

run-later : (k a n : ℕ) → k < a → EachOf (run_from a n) (λ j. same_int (pos k) j ≡ false)
run-later k a zero h = tt
run-later k a (suc n) h = (differ k a h, run-later k (suc a) n (omega arith))

-- The numbers of a run differ.
pub run-differs : (a n : ℕ) → NumbersDiffer (run_from a n)
run-differs a zero = tt
run-differs a (suc n) = (run-later a (suc a) n (le_refl (suc a)), run-differs (suc a) n)

-- ---- members of atoms

-- Members of an atom with one number are one.
pub one-code : (d : Domain) → IsAtom d → (x y : Value) → member d x ≡ true → member d y ≡ true → code x ≡ code y → x ≡ y
one-code booleans a (truth true) (truth true) p q e = refl
one-code booleans a (truth false) (truth false) p q e = refl
one-code booleans a (truth true) (truth false) p q e = cc
one-code booleans a (truth false) (truth true) p q e = cc
one-code booleans a (number n) y p q e = cc
one-code booleans a (item t k) y p q e = cc
one-code booleans a (node k xs) y p q e = cc
one-code booleans a (truth b) (number n) p q e = cc
one-code booleans a (truth b) (item t k) p q e = cc
one-code booleans a (truth b) (node k xs) p q e = cc
one-code (integers ss) a (number n) (number m) p q e = ap number e
one-code (integers ss) a (truth b) y p q e = cc
one-code (integers ss) a (item t k) y p q e = cc
one-code (integers ss) a (node k xs) y p q e = cc
one-code (integers ss) a (number n) (truth b) p q e = cc
one-code (integers ss) a (number n) (item t k) p q e = cc
one-code (integers ss) a (number n) (node k xs) p q e = cc
one-code (named t n) a (item u k) (item w j) p q e =
    let f = type u k p in
    let g = type w j q in
    let m : k ≡ j = cc in cc
  where
    type : (u : Text) (k : ℕ) → same_text t u && nat_le 1 k && nat_le k n ≡ true → t ≡ u
    type u k p = text_exact t u (equal-of (order_text t u) (and-left (same_text t u) (nat_le 1 k) (and-left (same_text t u && nat_le 1 k) (nat_le k n) p)))
one-code (named t n) a (truth b) y p q e = cc
one-code (named t n) a (number k) y p q e = cc
one-code (named t n) a (node k xs) y p q e = cc
one-code (named t n) a (item u k) (truth b) p q e = cc
one-code (named t n) a (item u k) (number j) p q e = cc
one-code (named t n) a (item u k) (node j xs) p q e = cc
one-code _ a x y p q e = absurd a

codes-differ : (d : Domain) → IsAtom d → (xs : List Value) → Distinct xs → list_all (member d) xs ≡ true → NumbersDiffer (map code xs)
codes-differ d a [] n m = tt
codes-differ d a (x ∷ xs) n m = (later xs n.0 (and-right (member d x) (list_all (member d) xs) m), codes-differ d a xs n.1 (and-right (member d x) (list_all (member d) xs) m))
  where
    later : (ys : List Value) → holds ys x ≡ false → list_all (member d) ys ≡ true → EachOf (map code ys) (λ j. same_int (code x) j ≡ false)
    later [] h k = tt
    later (y ∷ ys) h k = (go (same_int (code x) (code y)) refl, later ys (or-right-no (same y x) (holds ys x) h) (and-right (member d y) (list_all (member d) ys) k))
      where
        go : (b : Bool) → same_int (code x) (code y) ≡ b → same_int (code x) (code y) ≡ false
        go false e = e
        go true e =
            let q = one-code d a x y (and-left (member d x) (list_all (member d) xs) m) (and-left (member d y) (list_all (member d) ys) k) (same_int-equal (code x) (code y) e) in
            let t : same y x ≡ true = ap (λ z. same z x) (sym q) ∙ same-itself x in
            let f = or-left-no (same y x) (holds ys x) h in cc

atom-axis : (d : Domain) → IsAtom d → NumbersDiffer (codes_of d)
atom-axis d a = let l = atom-listed d a in codes-differ d a (member_list d) (sorted-distinct (member_list d) (sorted-of (member_list d) l.sorted)) l.members

atom-axes : (ds : Domains) → AreAtoms ds → AxesDiffer (map codes_of (domain_list ds))
atom-axes no_domains a = tt
atom-axes (more_domains d ds) a = (atom-axis d a.0, atom-axes ds a.1)

-- ---- one layer

axes-append : (as' bs : Axes) → AxesDiffer as' → AxesDiffer bs → AxesDiffer (as' ++ bs)
axes-append [] bs d e = e
axes-append (a ∷ as') bs d e = (d.0, axes-append as' bs d.1 e)

all-append : (xs ys : List Axes) → AllAxesDiffer xs → AllAxesDiffer ys → AllAxesDiffer (xs ++ ys)
all-append [] ys d e = e
all-append (x ∷ xs) ys d e = (d.0, all-append xs ys d.1 e)

all-under : (bs : Axes) (xs : List Axes) → AxesDiffer bs → AllAxesDiffer xs → AllAxesDiffer (map (λ as'. bs ++ as') xs)
all-under bs [] d e = tt
all-under bs (x ∷ xs) d e = (axes-append bs x d e.0, all-under bs xs d e.1)

abbrev EachChild : Reprs → List Domain → Type 0
EachChild (more_reprs r rs) (d ∷ ds) = AllAxesDiffer (axes_of r d) × EachChild rs ds
EachChild _ _ = Unit {0}

children-differ : (rs : Reprs) (ds : List Domain) (bs : Axes) → AxesDiffer bs → EachChild rs ds → AllAxesDiffer (axes_of_children rs ds bs)
children-differ no_reprs ds bs d h = tt
children-differ (more_reprs r rs) [] bs d h = tt
children-differ (more_reprs r rs) (e ∷ ds) bs d h = all-append (map (λ as'. bs ++ as') (axes_of r e)) (axes_of_children rs ds bs) (all-under bs (axes_of r e) d h.0) (children-differ rs ds bs d h.1)

layer-differs : (l : Layer) (rs : Reprs) → AllAxesDiffer (own_axes l.own) → AxesDiffer l.axes → EachChild rs l.children →
    AllAxesDiffer (axes_in (map (declared_own false) l.own ++ declarations_of_children (false || leaves_out l.in_use) rs l.children l.axes))
layer-differs l rs o p c = subst AllAxesDiffer (sym (axes-of-layer l rs)) (all-append (own_axes l.own) (axes_of_children rs l.children l.axes) o (children-differ rs l.children l.axes p c))

only-differs : (r : Repr) (e : Domain) → AllAxesDiffer (axes_of r e) → EachChild (more_reprs r no_reprs) (e ∷ [])
only-differs r e h = (h, tt)

slots : (n : ℕ) → AxesDiffer (one_to n ∷ [])
slots n = (run-differs 1 n, tt)

mutual
  -- No axis of a table has a member twice.
  pub axes-differ : (r : Repr) (d : Domain) → Covered r d → AllAxesDiffer (axes_of r d)
  axes-differ (repr ReprKind.Atom no_reprs) booleans h = (tt, tt)
  axes-differ (repr ReprKind.Atom no_reprs) (integers ss) h = (tt, tt)
  axes-differ (repr ReprKind.Atom no_reprs) (named t n) h = (tt, tt)
  axes-differ (repr ReprKind.Tuple rs) (tuples ds) h = layer-differs (tuple_layer ds) rs tt tt (each-differs rs (domain_list ds) h)
  axes-differ (repr ReprKind.Rec rs) (records fs ds) h = layer-differs (record_layer fs ds) rs tt tt (each-differs rs (domain_list ds) h)
  axes-differ (repr ReprKind.Matrix (more_reprs r no_reprs)) (matrices is d) h = layer-differs (matrix_layer is d) (more_reprs r no_reprs) tt (atom-axes is h.0) (axes-differ r d h.2, tt)
  axes-differ (repr ReprKind.Occurrence no_reprs) (sets ks d) h = ((atom-axis d h, tt), tt)
  axes-differ (repr ReprKind.Explicit (more_reprs r no_reprs)) (sets ks d) h = layer-differs (explicit_layer ks d) (more_reprs r no_reprs) tt (slots (slots_of_set ks d)) (axes-differ r d h, tt)
  axes-differ (repr ReprKind.ExplicitVarSizeWithMarker (more_reprs r no_reprs)) (sets ks d) h = layer-differs (marker_layer ks d) (more_reprs r no_reprs) (tt, tt) (slots (slots_of_set ks d)) (axes-differ r d h, tt)
  axes-differ (repr ReprKind.ExplicitVarSizeWithFlags (more_reprs r no_reprs)) (sets ks d) h = layer-differs (flags_layer ks d) (more_reprs r no_reprs) (slots (slots_of_set ks d), tt) (slots (slots_of_set ks d)) (axes-differ r d h, tt)
  axes-differ (repr ReprKind.ExplicitVarSizeWithDummy no_reprs) (sets ks d) h = (slots (slots_of_set ks d), tt)
  axes-differ (repr ReprKind.MSetOccurrence no_reprs) (msets ks d) h = ((atom-axis d h, tt), tt)
  axes-differ (repr ReprKind.MSetExplicitWithRepetition (more_reprs r no_reprs)) (msets ks d) h = layer-differs (repetition_layer ks d) (more_reprs r no_reprs) (tt, tt) (slots (slots_of_mset ks d)) (axes-differ r d h, tt)
  axes-differ (repr ReprKind.MSetExplicitWithFlags (more_reprs r no_reprs)) (msets ks d) h = layer-differs (mset_flags_layer ks d) (more_reprs r no_reprs) (slots (slots_of_mset ks d), tt) (slots (slots_of_mset ks d)) (axes-differ r d h, tt)
  axes-differ (repr ReprKind.Function1D (more_reprs r no_reprs)) (functions ks d c) h = layer-differs (function_1d_layer ks d c) (more_reprs r no_reprs) tt (atom-axis d h.0, tt) (axes-differ r c h.1, tt)
  axes-differ (repr ReprKind.Function1DPartial (more_reprs r no_reprs)) (functions ks d c) h = layer-differs (function_1d_partial_layer ks d c) (more_reprs r no_reprs) ((atom-axis d h.0, tt), tt) (atom-axis d h.0, tt) (axes-differ r c h.1, tt)
  axes-differ (repr ReprKind.FunctionND (more_reprs r no_reprs)) (functions ks (tuples ds) c) h = layer-differs (function_nd_layer ks ds c) (more_reprs r no_reprs) tt (atom-axes ds h.0) (axes-differ r c h.1, tt)
  axes-differ (repr ReprKind.FunctionNDPartial (more_reprs r no_reprs)) (functions ks (tuples ds) c) h = layer-differs (function_nd_partial_layer ks ds c) (more_reprs r no_reprs) (atom-axes ds h.0, tt) (atom-axes ds h.0) (axes-differ r c h.1, tt)
  axes-differ (repr ReprKind.FunctionAsRelation (more_reprs r no_reprs)) (functions ks d c) h = layer-differs (function_as_relation_layer ks d c) (more_reprs r no_reprs) tt tt (axes-differ r (child_relation ks d c) h, tt)
  axes-differ (repr ReprKind.RelationAsMatrix no_reprs) (relations ks ds) h = (atom-axes ds h, tt)
  axes-differ (repr ReprKind.RelationAsSet (more_reprs r no_reprs)) (relations ks ds) h = layer-differs (relation_as_set_layer ks ds) (more_reprs r no_reprs) tt tt (axes-differ r (child_set ks ds) h, tt)
  axes-differ (repr ReprKind.PartitionOccurrence no_reprs) (partitions ks d) h = (tt, ((atom-axis d h, tt), tt))
  axes-differ (repr ReprKind.PartitionAsSet (more_reprs r no_reprs)) (partitions ks d) h = layer-differs (partition_as_set_layer ks d) (more_reprs r no_reprs) tt tt (axes-differ r (child_parts ks d) h, tt)
  axes-differ _ d h = absurd h

  each-differs : (rs : Reprs) (ds : List Domain) → AllCovered rs ds → EachChild rs ds
  each-differs no_reprs ds h = tt
  each-differs (more_reprs r rs) (d ∷ ds) h = (axes-differ r d h.0, each-differs rs ds h.1)
  each-differs (more_reprs r rs) [] h = tt

-- Of the tables over a representation's axes whose cells are canonical, at most one list stands for a value.
pub canonical-once : (r : Repr) (d : Domain) → Covered r d → (ts ts' : Tables) → over_axes [] (axes_of r d) ts ≡ true → over_axes [] (axes_of r d) ts' ≡ true →
    canonical r d (cells_of ts) ≡ true → canonical r d (cells_of ts') ≡ true → value_of_cells r d (cells_of ts) ≡ value_of_cells r d (cells_of ts') → ts ≡ ts'
canonical-once r d h ts ts' o o' c c' q = let g = right r d h in one-tables (axes_of r d) ts ts' (axes-differ r d h) o o' (g.unique (cells_of ts) (cells_of ts') c c' q)
