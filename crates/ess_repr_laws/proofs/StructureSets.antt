-- The structure constraints of sets: which members occur, slots that are all in use, slots up to a marker.
use Rattle.std.proofs.Common.{◌≡◌, refl, sym, ap, ◌∙◌, ℕ, suc, ◌+◌, ◌≤◌, ◌<◌, Bool, true, false, ◌||◌, if◌then◌else◌, List, [], ◌∷◌, ◌++◌, map, drop, ℤ, pos, Option, Some, arith, append-nil}
use Rattle.ess_semantics.specs.declared.words.ReprKind.{ReprKind}
use Rattle.ess_semantics.specs.Lists.{is_some_and}
use Rattle.ess_semantics.specs.Values.{Text, number, truth}
use Rattle.ess_semantics.specs.Order.{same_text}
use Rattle.ess_semantics.specs.Numbers.{one_to}
use Rattle.ess_semantics.specs.Trees.{Mark, Repr, repr, no_reprs, more_reprs, Ex, Exs, name_ex, Dom, set_dom}
use Rattle.ess_semantics.specs.Domains.{Attribute, Domain, booleans, sets, members, member_list}
use Rattle.ess_semantics.specs.Sizes.{slots_of_set}
use Rattle.ess_semantics.specs.Tables.{Table, Tables, code, cell_at, is_cell}
use Rattle.ess_semantics.specs.Cells.{Axes, behind, cells_of, every_cell}
use Rattle.ess_semantics.specs.Layers.{up_to}
use Rattle.ess_semantics.specs.SetLayers.{explicit_layer, marker_layer}
use Rattle.ess_semantics.specs.Representations.{width}
use Rattle.ess_semantics.specs.Declarations.{Declaration, widened, under, declarations_below, axes_of}
use Rattle.ess_semantics.specs.CanonicalTest.{canonical}
use Rattle.ess_semantics.specs.Meaning.{Env, members_in, domain_of, meaning}
use Rattle.ess_semantics.specs.Atoms.{IsAtom}
use Rattle.ess_semantics.proofs.Tests.{and-left}
use Rattle.ess_repr_laws.specs.StructureParts.{Terms, add_ex, upto, first_name, own_shape, occurrence_ex}
use Rattle.ess_repr_laws.specs.Structure.{shapes, structure}
use Rattle.ess_repr_laws.specs.StructureMeaning.{Bound, M, Placed, axes_members, slot_numbers, Attributes, SlotsAre}
use Rattle.ess_repr_laws.proofs.CanonicalForms.{right}
use Rattle.ess_repr_laws.proofs.CellDomains.{axes-wide}
use Rattle.ess_repr_laws.proofs.CellsOfMembers.{map-long}
use Rattle.ess_repr_laws.proofs.StructureFits.{Fit, FirstFit, first-fit}
use Rattle.ess_repr_laws.proofs.RowsOfCells.{axes-of-layer}
use Rattle.ess_repr_laws.proofs.SlotsUsed.{marker-cell}
use Rattle.ess_repr_laws.proofs.StructureMeans.{explicit-means, marker-means}
use Rattle.ess_repr_laws.proofs.StructureOccurrences.{occurrence-means}
use Rattle.ess_repr_laws.proofs.StructureOf.{StructureOf, own-found, child-found, own-child-found, under-codes, child-there}
use Rattle.ess_repr_laws.proofs.StructureUse.{slots-axis}
use Rattle.ess_repr_laws.proofs.StructureSlotted.{slots-same, slots-placed, slot-there, tables-long, slot-means}
use Rattle.ess_repr_laws.proofs.StructureRows.{Steady, There, grid_at}

-- A marker's cell holds the number of a slot, or 0.
pub own-marker : {S : ℕ} (out : Bool) (o : Option ℤ) → is_some_and o (is_cell (if (if out then false else false) then widened (up_to S) else up_to S)) ≡ true → (m : ℕ) × (o ≡ Some (pos m)) × (m ≤ S)
own-marker {S} true o h = marker-cell o S h
own-marker {S} false o h = marker-cell o S h

module _ (env0 : Env) (q : ℕ → Text) (q-apart : (m l : ℕ) → l < m → same_text (q m) (q l) ≡ false) (terms : Terms) where
  -- ---- which members occur

  module _ (ms : List Mark) (es : Exs) (d : Dom) (ks : List Attribute) (e : Domain) (a : IsAtom e) (me : members e ≡ Some (member_list e))
      (ax : (bs : Bound env0 q q-apart) → members_in (domain_of d (M env0 q q-apart bs)) ≡ Some (member_list e)) (at : Attributes env0 q q-apart terms ms es ks) where
    abbrev kind : Repr
    kind = repr ReprKind.Occurrence no_reprs

    occurrence-there : (out : Bool) (ns : List Text) (ts : Tables) (i : List ℤ) → Placed env0 q q-apart (own_shape ns true (d ∷ []) ∷ []) ((member_list e ∷ []) ∷ []) ts →
        Fit (declarations_below out kind (sets ks e)) (behind i (cells_of ts)) → There env0 q q-apart (own_shape ns true (d ∷ []) ∷ []) ((member_list e ∷ []) ∷ []) ts i
    occurrence-there true ns (t ∷ []) i p c = (and-left (every_cell (map code (member_list e) ∷ []) (is_cell booleans) (grid_at env0 q q-apart t i)) true c.0, tt)
    occurrence-there false ns (t ∷ []) i p c = (and-left (every_cell (map code (member_list e) ∷ []) (is_cell booleans) (grid_at env0 q q-apart t i)) true c.0, tt)
    occurrence-there out ns [] i p c = absurd p
    occurrence-there out ns (t ∷ u ∷ ts) i p c = absurd p.2

    occurrences : (out : Bool) (ns : List Text) (ts : Tables) (l : ℕ) (is : Exs) (i : List ℤ) (bs : Bound env0 q q-apart) → Placed env0 q q-apart (own_shape ns true (d ∷ []) ∷ []) ((member_list e ∷ []) ∷ []) ts →
        Fit (declarations_below out kind (sets ks e)) (behind i (cells_of ts)) → Steady env0 q q-apart l is i bs →
        meaning (occurrence_ex q l ms es d (first_name ns) is) (M env0 q q-apart bs) ≡ Some (truth (canonical kind (sets ks e) (behind i (cells_of ts))))
    occurrences out ns (t ∷ []) l is i bs p c st =
        let x = occurrence-there out ns (t ∷ []) i p c in let z = at bs in
        occurrence-means env0 q q-apart l ms es d (first_name ns) is i bs ks e (member_list e) t z.0 z.1 me (ax, tt) p.0 x.0 st
    occurrences out ns [] l is i bs p c st = absurd p
    occurrences out ns (t ∷ u ∷ ts) l is i bs p c st = absurd p.2

    -- The structure constraint of a set of which is kept which members occur means that its cells are canonical.
    pub occurrence-structure : StructureOf env0 q q-apart terms kind (set_dom ms es d) (sets ks e)
    occurrence-structure = record {
      covered = a;
      long = λ ns. let z : 1 ≡ 1 + 0 = omega arith in z;
      axes = refl;
      found = own-found env0 q q-apart terms true (d ∷ []) (member_list e ∷ []) (ax, tt);
      there = occurrence-there;
      means = occurrences;
    }

  -- ---- slots

  module _ (r : Repr) (ms : List Mark) (es : Exs) (d : Dom) (ks : List Attribute) (e : Domain) (child : StructureOf env0 q q-apart terms r d e)
      (at : Attributes env0 q q-apart terms ms es ks) (sl : SlotsAre env0 q q-apart terms (set_dom ms es d) (slots_of_set ks e)) where
    abbrev S : ℕ
    S = slots_of_set ks e

    abbrev size : Ex
    size = terms.slots (set_dom ms es d)

    -- The structure constraint of slots that are all in use.
    pub explicit-structure : StructureOf env0 q q-apart terms (repr ReprKind.Explicit (more_reprs r no_reprs)) (set_dom ms es d) (sets ks e)
    explicit-structure = record {
      covered = child.covered;
      long = λ ns. map-long _ (shapes q terms r d ns) ∙ child.long ns ∙ (let z : width r ≡ 0 + (width r + 0) = omega arith in z);
      axes = under-codes env0 q q-apart terms (slot_numbers S) (one_to S ∷ []) (axes_members r e) (slots-same env0 q q-apart S) ∙ ap (map (λ (as' : Axes). one_to S ∷ as')) child.axes
          ∙ sym (append-nil (map (λ (as' : Axes). one_to S ∷ as') (axes_of r e))) ∙ sym (axes-of-layer (explicit_layer ks e) (more_reprs r no_reprs));
      found = child-found env0 q q-apart terms r d e child (upto size ∷ []) (slot_numbers S) (slots-axis env0 q q-apart size S sl);
      there = λ out ns ts i p c. child-there env0 q q-apart terms r d e child (upto size ∷ []) (slot_numbers S) (one_to S ∷ []) (slots-same env0 q q-apart S) refl (out || false) ns ts i p c;
      means = λ out ns ts l is i bs p c st.
          let z = at bs in
          explicit-means env0 q q-apart r e (right r e child.covered) (axes-wide r e child.covered) ks l ms es (terms.slots (set_dom ms es d)) (shapes q terms r d ns) (axes_members r e) ts is i bs
          (structure q terms r d ns (suc l) (add_ex is (name_ex (q l))))
          (record {
            numbers = z.0;
            attributes = z.1;
            size_is = sl bs;
            size_at = λ k. sl ((l, number k) ∷ bs);
            placed = slots-placed env0 q q-apart terms r d e child size S (out || false) ns ts i p c;
            there = slot-there env0 q q-apart terms r d e child size S (out || false) ns ts i p c;
            steady = st;
            axes = child.axes;
            long = tables-long env0 q q-apart terms r d e child size S (out || false) ns ts i p c;
            inside = slot-means env0 q q-apart terms r d e child size S (out || false) ns ts i p c l is bs st;
          });
    }

    abbrev marker : Repr
    marker = repr ReprKind.ExplicitVarSizeWithMarker (more_reprs r no_reprs)

    abbrev own_declared : Bool → Declaration
    own_declared out = record { axes = []; cell = if (if out then false else false) then widened (up_to S) else up_to S }

    abbrev inner_declared : Bool → List Declaration
    inner_declared out = under (one_to S ∷ []) (declarations_below (out || true) r e) ++ []

    marker-fit : (out : Bool) (t : Table) (ts : Tables) (i : List ℤ) → Fit (declarations_below out marker (sets ks e)) (behind i (cells_of (t ∷ ts))) →
        FirstFit (own_declared out) (inner_declared out) (λ js. cell_at t (i ++ js)) (behind i (cells_of ts))
    marker-fit out t ts i c = first-fit (own_declared out) (inner_declared out) (λ js. cell_at t (i ++ js)) (behind i (cells_of ts)) c

    marker-cells : (out : Bool) (ns : List Text) (ts : Tables) (i : List ℤ) → Placed env0 q q-apart (shapes q terms marker (set_dom ms es d) ns) (axes_members marker (sets ks e)) ts →
        Fit (declarations_below out marker (sets ks e)) (behind i (cells_of ts)) → There env0 q q-apart (shapes q terms marker (set_dom ms es d) ns) (axes_members marker (sets ks e)) ts i
    marker-cells out ns [] i p c = absurd p
    marker-cells out ns (t ∷ ts) i p c =
        let f = marker-fit out t ts i c in
        let m = own-marker out (cell_at t (i ++ [])) f.inside in
        (ap (λ o. is_some_and o (λ z. true)) m.1, child-there env0 q q-apart terms r d e child (upto size ∷ []) (slot_numbers S) (one_to S ∷ []) (slots-same env0 q q-apart S) refl (out || true) (drop 1 ns) ts i p.2 f.others)

    markers : (out : Bool) (ns : List Text) (ts : Tables) (l : ℕ) (is : Exs) (i : List ℤ) (bs : Bound env0 q q-apart) → Placed env0 q q-apart (shapes q terms marker (set_dom ms es d) ns) (axes_members marker (sets ks e)) ts →
        Fit (declarations_below out marker (sets ks e)) (behind i (cells_of ts)) → Steady env0 q q-apart l is i bs →
        meaning (structure q terms marker (set_dom ms es d) ns l is) (M env0 q q-apart bs) ≡ Some (truth (canonical marker (sets ks e) (behind i (cells_of ts))))
    markers out ns [] l is i bs p c st = absurd p
    markers out ns (t ∷ ts) l is i bs p c st =
        let f = marker-fit out t ts i c in
        let m = own-marker out (cell_at t (i ++ [])) f.inside in
        let c' = f.others in
        let z = at bs in
        marker-means env0 q q-apart r e (right r e child.covered) (axes-wide r e child.covered) ks l ms es (terms.slots (set_dom ms es d)) (shapes q terms r d (drop 1 ns)) (axes_members r e) ts is i bs
        (structure q terms r d (drop 1 ns) (suc l) (add_ex is (name_ex (q l)))) (first_name ns) t m.0
        (record {
          numbers = z.0;
          attributes = z.1;
          size_is = sl bs;
          size_at = λ k. sl ((l, number k) ∷ bs);
          placed = slots-placed env0 q q-apart terms r d e child size S (out || true) (drop 1 ns) ts i p.2 c';
          there = slot-there env0 q q-apart terms r d e child size S (out || true) (drop 1 ns) ts i p.2 c';
          steady = st;
          axes = child.axes;
          long = tables-long env0 q q-apart terms r d e child size S (out || true) (drop 1 ns) ts i p.2 c';
          inside = slot-means env0 q q-apart terms r d e child size S (out || true) (drop 1 ns) ts i p.2 c' l is bs st;
        }) p.0 (ap (cell_at t) (sym (append-nil i)) ∙ m.1) m.2

    -- The structure constraint of slots up to a marker.
    pub marker-structure : StructureOf env0 q q-apart terms marker (set_dom ms es d) (sets ks e)
    marker-structure = record {
      covered = child.covered;
      long = λ ns. ap suc (map-long _ (shapes q terms r d (drop 1 ns)) ∙ child.long (drop 1 ns)) ∙ (let z : suc (width r) ≡ 1 + (width r + 0) = omega arith in z);
      axes = ap (λ l. [] ∷ l) (under-codes env0 q q-apart terms (slot_numbers S) (one_to S ∷ []) (axes_members r e) (slots-same env0 q q-apart S) ∙ ap (map (λ (as' : Axes). one_to S ∷ as')) child.axes
          ∙ sym (append-nil (map (λ (as' : Axes). one_to S ∷ as') (axes_of r e)))) ∙ sym (axes-of-layer (marker_layer ks e) (more_reprs r no_reprs));
      found = own-child-found env0 q q-apart terms r d e child (upto size ∷ []) (slot_numbers S) (slots-axis env0 q q-apart size S sl) false [] [] tt;
      there = marker-cells;
      means = markers;
    }
