-- The structure constraint of a multiset in slots up to a marker, in which equal members may stand.
use Rattle.std.proofs.Common.{◌≡◌, refl, sym, ap, ◌∙◌, ℕ, suc, ◌+◌, ◌≤◌, ◌<◌, Bool, true, false, ◌&&◌, ◌||◌, not, if◌then◌else◌, List, [], ◌∷◌, ◌++◌, map, drop, ℤ, pos, ◌+ℤ◌, Some, int_le, nat_le, le_refl, arith, append-nil}
use Rattle.std.proofs.lemmas.Bool.{leb-true, le-leb, lt-leb}
use Rattle.std.specs.List.{list_all}
use Rattle.ess_semantics.specs.declared.words.Key.{Key}
use Rattle.ess_semantics.specs.declared.words.ReprKind.{ReprKind}
use Rattle.ess_semantics.specs.Lists.{each_of, is_some_and}
use Rattle.ess_semantics.specs.Values.{Text, Value, number, truth, items_of}
use Rattle.ess_semantics.specs.Order.{same_text}
use Rattle.ess_semantics.specs.Names.{look}
use Rattle.ess_semantics.specs.Numbers.{natural, one_to}
use Rattle.ess_semantics.specs.Trees.{Mark, Repr, repr, no_reprs, more_reprs, Ex, Exs, name_ex, cell_ex, Dom, mset_dom}
use Rattle.ess_semantics.specs.Domains.{Attribute, numbered, flagged, Domain, msets, lists_of}
use Rattle.ess_semantics.specs.Attributes.{each_number_holds, occurs_holds, set_attributes_hold}
use Rattle.ess_semantics.specs.Collections.{mset_of, sorted}
use Rattle.ess_semantics.specs.Sizes.{slots_of_mset}
use Rattle.ess_semantics.specs.Tables.{Table, Tables, cell_at, is_cell}
use Rattle.ess_semantics.specs.Cells.{Cells, Axes, behind, cells_of}
use Rattle.ess_semantics.specs.Layers.{OwnTable, up_to, up_to_marker, fixed_table, some_each, only_child, always_tidy, own_cell}
use Rattle.ess_semantics.specs.SetLayers.{marker_table}
use Rattle.ess_semantics.specs.MultisetLayers.{repetition_layer}
use Rattle.ess_semantics.specs.Representations.{width, is_used, places_by, value_of_cells}
use Rattle.ess_semantics.specs.Declarations.{Declaration, widened, under, declarations_below, axes_of}
use Rattle.ess_semantics.specs.CanonicalTest.{next_slot, canonical}
use Rattle.ess_semantics.specs.Meaning.{Env, meaning}
use Rattle.ess_semantics.proofs.Connectives.{and-means}
use Rattle.ess_semantics.proofs.Tests.{all-run, if-so, or-yes, run-all}
use Rattle.ess_repr_laws.specs.StructureParts.{Terms, add_ex, le_ex, upto, next_ex, first_name, use_ex, at_most_ex, size_ex, and_ex, own_shape, on_axes}
use Rattle.ess_repr_laws.specs.MultisetParts.{bare_mset_dom, occurs_ex}
use Rattle.ess_repr_laws.specs.ViewParts.{view_ex}
use Rattle.ess_repr_laws.specs.Structure.{shapes, structure}
use Rattle.ess_repr_laws.specs.StructureMeaning.{Number, Bound, M, Placed, axes_members, slot_numbers, Attributes, SlotsAre, DomainIs, TimesReady, on_members}
use Rattle.ess_repr_laws.proofs.CanonicalForms.{right}
use Rattle.ess_repr_laws.proofs.CanonicalRepetition.{occurs-sorted}
use Rattle.ess_repr_laws.proofs.FunctionViews.{built-of-values}
use Rattle.ess_repr_laws.proofs.MultisetsOfViews.{occurs-settled, occurs-means}
use Rattle.ess_repr_laws.proofs.ViewsOfCells.{Stands, view-stands}
use Rattle.ess_semantics.proofs.Orders.{to_list-of_list}
use Rattle.ess_semantics.specs.Operators.{as_truth}
use Rattle.ess_repr_laws.proofs.CanonicalPlaces.{AllOf, all-of-list}
use Rattle.ess_repr_laws.proofs.CellDomains.{axes-wide}
use Rattle.ess_repr_laws.proofs.CellsOfMembers.{map-long}
use Rattle.ess_repr_laws.proofs.CellsOfOccurrenceCounts.{up-to-fits}
use Rattle.ess_repr_laws.proofs.RowsOfCells.{axes-of-layer}
use Rattle.ess_repr_laws.proofs.SlotsUsed.{marker-used}
use Rattle.ess_repr_laws.proofs.StructureFits.{Fit, FirstFit, first-fit}
use Rattle.ess_repr_laws.proofs.StructureLayers.{layer-asked}
use Rattle.ess_repr_laws.proofs.StructureNumbers.{le-means, size-means}
use Rattle.ess_repr_laws.proofs.StructureOf.{StructureOf, own-child-found, under-codes, child-there, child-long}
use Rattle.ess_repr_laws.proofs.StructureRows.{Steady, There, looked}
use Rattle.ess_repr_laws.proofs.StructureSets.{own-marker}
use Rattle.ess_repr_laws.proofs.StructureSlotted.{slots-same}
use Rattle.ess_repr_laws.proofs.StructureSortedSlots.{used_asked, parts-mean}
use Rattle.ess_repr_laws.proofs.StructureUse.{slots-axis, cell-means, next-number, places-numbers}

-- Sorting changes nothing that all attributes ask.
all-occurs-sorted : (ks : List Attribute) (vs : List Value) → each_number_holds ks (λ k z. occurs_holds k z (sorted vs)) ≡
    each_number_holds ks (λ k z. occurs_holds k z vs)
all-occurs-sorted [] vs = refl
all-occurs-sorted (flagged k ∷ ks) vs = all-occurs-sorted ks vs
all-occurs-sorted (numbered k z ∷ ks) vs = ap (λ b. b && each_number_holds ks (λ k z. occurs_holds k z (sorted vs))) (occurs-sorted k z vs)
    ∙ ap (λ b. occurs_holds k z vs && b) (all-occurs-sorted ks vs)

-- Slots up to a marker stand first.
marker-first : (S m : ℕ) → list_all (λ k. not (int_le (k +ℤ pos 1) (pos m)) || int_le k (pos m)) (one_to S) ≡ true
marker-first S m = run-all (λ k. not (int_le (k +ℤ pos 1) (pos m)) || int_le k (pos m)) 1 S (λ k p q. next k (nat_le (k + 1) m) refl)
  where
    next : (k : ℕ) (c : Bool) → nat_le (k + 1) m ≡ c → not (nat_le (k + 1) m) || nat_le k m ≡ true
    next k false h = ap (λ b. not b || nat_le k m) h
    next k true h = let l : k + 1 ≤ m = leb-true (k + 1) m h in ap (λ b. not (nat_le (k + 1) m) || b) (le-leb k m (omega arith)) ∙ or-yes (not (nat_le (k + 1) m))

module _ (env0 : Env) (q : ℕ → Text) (q-apart : (m l : ℕ) → l < m → same_text (q m) (q l) ≡ false) (terms : Terms)
    (r : Repr) (ms : List Mark) (es : Exs) (d : Dom) (ks : List Attribute) (e : Domain) (child : StructureOf env0 q q-apart terms r d e)
    (at : Attributes env0 q q-apart terms ms es ks) (sl : SlotsAre env0 q q-apart terms (mset_dom ms es d) (slots_of_mset ks e))
    (times : TimesReady env0 q q-apart (terms.slots (mset_dom ms es d)) d ks e) where
  abbrev S : ℕ
  S = slots_of_mset ks e

  abbrev size : Ex
  size = terms.slots (mset_dom ms es d)

  abbrev kind : Repr
  kind = repr ReprKind.MSetExplicitWithRepetition (more_reprs r no_reprs)

  abbrev own : List OwnTable
  own = fixed_table [] (up_to S) ∷ []

  abbrev asked : Cells → List (List Value) → Bool
  asked c vss = is_some_and (own_cell c []) (λ m. set_attributes_hold ks (natural m)) && each_number_holds ks (λ k z. occurs_holds k z (only_child vss))

  abbrev own_declared : Bool → Declaration
  own_declared out = record { axes = []; cell = if (if out then false else false) then widened (up_to S) else up_to S }

  abbrev inner_declared : Bool → List Declaration
  inner_declared out = under (one_to S ∷ []) (declarations_below (out || true) r e) ++ []

  own-fit : (out : Bool) (t : Table) (ts : Tables) (i : List ℤ) → Fit (declarations_below out kind (msets ks e)) (behind i (cells_of (t ∷ ts))) →
      FirstFit (own_declared out) (inner_declared out) (λ js. cell_at t (i ++ js)) (behind i (cells_of ts))
  own-fit out t ts i c = first-fit (own_declared out) (inner_declared out) (λ js. cell_at t (i ++ js)) (behind i (cells_of ts)) c

  there : (out : Bool) (ns : List Text) (ts : Tables) (i : List ℤ) → Placed env0 q q-apart (shapes q terms kind (mset_dom ms es d) ns) (axes_members kind (msets ks e)) ts →
      Fit (declarations_below out kind (msets ks e)) (behind i (cells_of ts)) → There env0 q q-apart (shapes q terms kind (mset_dom ms es d) ns) (axes_members kind (msets ks e)) ts i
  there out ns [] i p c = absurd p
  there out ns (t ∷ ts) i p c =
      let f = own-fit out t ts i c in
      let m = own-marker out (cell_at t (i ++ [])) f.inside in (
        ap (λ o. is_some_and o (λ z. true)) m.1,
        child-there env0 q q-apart terms r d e child (upto size ∷ []) (slot_numbers S) (one_to S ∷ []) (slots-same env0 q q-apart S) refl (out || true) (drop 1 ns) ts i p.2 f.others,
      )

  means : (out : Bool) (ns : List Text) (ts : Tables) (l : ℕ) (is : Exs) (i : List ℤ) (bs : Bound env0 q q-apart) → Placed env0 q q-apart (shapes q terms kind (mset_dom ms es d) ns) (axes_members kind (msets ks e)) ts →
      Fit (declarations_below out kind (msets ks e)) (behind i (cells_of ts)) → Steady env0 q q-apart l is i bs →
      meaning (structure q terms kind (mset_dom ms es d) ns l is) (M env0 q q-apart bs) ≡ Some (truth (canonical kind (msets ks e) (behind i (cells_of ts))))
  means out ns [] l is i bs p c st = absurd p
  means out ns (t ∷ ts) l is i bs p c st =
      let f = own-fit out t ts i c in
      let m = own-marker out (cell_at t (i ++ [])) f.inside in
      let z = at bs in
      let used = marker-used mine S m.0 m.1 m.2 in
      let x = parts-mean env0 q q-apart terms r d e child size S sl ReprKind.MSetExplicitWithRepetition (msets ks e) own up_to_marker false (λ v. some_each (items_of v)) marker_table (λ c vss. Some (mset_of (only_child vss))) asked always_tidy
      (out || true) (drop 1 ns) ts l is i bs p.2 f.others st mine here next
      (ap (λ o. is_some_and o (int_le (pos (S + 1)))) m.1 ∙ lt-leb (S + 1) m.0 (let y = m.2 in omega arith))
      (λ j a b. le-means (M env0 q q-apart ((l, number (pos j)) ∷ bs)) (name_ex (q l)) marker (pos j) (pos m.0) (looked env0 q q-apart l (number (pos j)) bs [] tt) (at-slot m.0 m.1 j p.0)
      ∙ ap (λ o. Some (truth (is_some_and o (int_le (pos j))))) (sym m.1))
      (λ j a b. le-means (M env0 q q-apart ((l, number (pos j)) ∷ bs)) (next_ex q l) marker (pos (j + 1)) (pos m.0) (next-number env0 q q-apart l (pos j) bs [] tt) (at-slot m.0 m.1 j p.0)
      ∙ ap (λ o. Some (truth (is_some_and o (int_le (pos (j + 1)))))) (sym m.1)) in
      and-means (M env0 q q-apart bs) (use_ex q l size here next rise (shapes q terms r d (drop 1 ns)) is part)
      (and_ex (size_ex ms es marker) (occurs_ex q l seen ms es))
      (used_asked env0 q q-apart terms r d e child size S sl ReprKind.MSetExplicitWithRepetition (msets ks e) own up_to_marker false (λ v. some_each (items_of v)) marker_table (λ c vss. Some (mset_of (only_child vss))) asked always_tidy mine (behind i (cells_of ts)))
      (set_attributes_hold ks m.0 && B) x.1
      (and-means (M env0 q q-apart bs) (size_ex ms es marker) (occurs_ex q l seen ms es) (set_attributes_hold ks m.0) B
      (size-means (M env0 q q-apart bs) ms es marker m.0 ks z.0 z.1 (cell-means env0 q q-apart false (first_name ns) t is i bs (pos m.0) p.0 (st [] tt) (ap (cell_at t) (sym (append-nil i)) ∙ m.1)))
      (occurs-settled env0 q q-apart terms l seen ms es (M env0 q q-apart bs)))
      ∙ ap (λ b. Some (truth b))
      (sym (layer-asked r e (right r e child.covered) (axes-wide r e child.covered) ReprKind.MSetExplicitWithRepetition (msets ks e) own (one_to S ∷ []) up_to_marker true false (λ v. some_each (items_of v)) marker_table
      (λ c vss. Some (mset_of (only_child vss))) asked always_tidy mine (behind i (cells_of ts)) (set_attributes_hold ks m.0 && B)
      (ap (λ o. is_some_and o (is_cell (up_to S)) && true) m.1 ∙ ap (λ b. b && true) (up-to-fits S m.0 m.2))
      (child-long env0 q q-apart terms r d e child (upto size ∷ []) (slot_numbers S) (one_to S ∷ []) (slots-same env0 q q-apart S) refl (out || true) (drop 1 ns) ts i p.2 f.others)
      (lists_of (one_to m.0 ∷ [])) used.found (λ h. each m.0 m.1 m.2 h)
      (λ vs n y u. ap (λ o. is_some_and o (λ m. set_attributes_hold ks (natural m)) && each_number_holds ks (λ k z. occurs_holds k z vs))
      m.1 ∙ ap (λ b. set_attributes_hold ks m.0 && b) (occurs-asked vs m.0 used.found y))
      ∙ ap (λ b. (b && used_asked env0 q q-apart terms r d e child size S sl ReprKind.MSetExplicitWithRepetition (msets ks e) own
      up_to_marker false (λ v. some_each (items_of v)) marker_table (λ c vss. Some (mset_of (only_child vss))) asked always_tidy mine
      (behind i (cells_of ts))) && (set_attributes_hold ks m.0 && B))
      (places-numbers S (λ js. not (is_used up_to_marker mine (next_slot js)) || is_used up_to_marker mine js)
      ∙ ap (λ o. list_all (λ k. not (is_some_and o (int_le (k +ℤ pos 1))) || is_some_and o (int_le k)) (one_to S)) m.1 ∙ marker-first S m.0)))
    where
      mine : Cells
      mine = (λ js. cell_at t (i ++ js)) ∷ []

      marker : Ex
      marker = cell_ex false (first_name ns) is

      here : Ex
      here = le_ex (name_ex (q l)) (cell_ex false (first_name ns) is)

      next : Ex
      next = le_ex (next_ex q l) (cell_ex false (first_name ns) is)

      rise : Ex
      rise = at_most_ex q (suc l) (shapes q terms r d (drop 1 ns)) (add_ex is (name_ex (q l))) (add_ex is (next_ex q l))

      part : Ex
      part = structure q terms r d (drop 1 ns) (suc l) (add_ex is (name_ex (q l)))

      -- its view
      seen : Ex
      seen = view_ex kind (bare_mset_dom size d) (own_shape ns false [] ∷ map (on_axes (upto size ∷ [])) (shapes q terms r d (drop 1 ns)))
          is

      B : Bool
      B = as_truth (meaning (occurs_ex q l seen ms es) (M env0 q q-apart bs))

      stands : (vs : List Value) (m : ℕ) → places_by up_to_marker mine (lists_of (one_to S ∷ [])) ≡ Some (lists_of (one_to m ∷ [])) →
          each_of (lists_of (one_to m ∷ [])) (λ j. value_of_cells r e (behind j (behind i (cells_of ts)))) ≡ Some vs →
          DomainIs env0 q q-apart (bare_mset_dom size d) (msets (numbered Key.MaxSize (pos S) ∷ []) e) →
          Stands env0 q q-apart l seen (mset_of vs) bs
      stands vs m f y dm =
          view-stands env0 q q-apart kind (bare_mset_dom size d) (msets (numbered Key.MaxSize (pos S) ∷ []) e)
          (own_shape ns false [] ∷ map (on_axes (upto size ∷ [])) (shapes q terms r d (drop 1 ns)))
          ([] ∷ on_members (slot_numbers S) (axes_members r e)) (t ∷ ts) l is i bs (mset_of vs) refl dm p st
          (built-of-values ReprKind.MSetExplicitWithRepetition r (msets (numbered Key.MaxSize (pos S) ∷ []) e) e
          (repetition_layer (numbered Key.MaxSize (pos S) ∷ []) e) mine (behind i (cells_of ts)) (lists_of (one_to m ∷ [])) vs refl
          (let g = own-fit out t ts i c in child-long env0 q q-apart terms r d e child (upto size ∷ []) (slot_numbers S) (one_to S ∷ [])
          (slots-same env0 q q-apart S) refl (out || true) (drop 1 ns) ts i p.2 g.others) f y)

      -- How often members occur is what the view says.
      occurs-asked : (vs : List Value) (m : ℕ) → places_by up_to_marker mine (lists_of (one_to S ∷ [])) ≡ Some (lists_of (one_to m ∷ [])) →
          each_of (lists_of (one_to m ∷ [])) (λ j. value_of_cells r e (behind j (behind i (cells_of ts)))) ≡ Some vs →
          each_number_holds ks (λ k z. occurs_holds k z vs) ≡ B
      occurs-asked vs m f y =
          sym (all-occurs-sorted ks vs) ∙ ap (λ ys. each_number_holds ks (λ k z. occurs_holds k z ys)) (sym (to_list-of_list (sorted vs)))
          ∙ sym (ap as_truth (occurs-means env0 q q-apart terms l bs seen (mset_of vs) ms es ks at (λ h. stands vs m f y (times h))))

      at-slot : (m : ℕ) → cell_at t (i ++ []) ≡ Some (pos m) → (j : ℕ) → look env0.cells (first_name ns) ≡ Some t → Number marker (M env0 q q-apart ((l, number (pos j)) ∷ bs)) (pos m)
      at-slot m h j ht = cell-means env0 q q-apart false (first_name ns) t is i ((l, number (pos j)) ∷ bs) (pos m) ht (st ((l, number (pos j)) ∷ []) (le_refl l, tt)) (ap (cell_at t) (sym (append-nil i)) ∙ h)

      each : (m : ℕ) → cell_at t (i ++ []) ≡ Some (pos m) → m ≤ S → list_all (λ js. not (is_used up_to_marker mine js) || canonical r e (behind js (behind i (cells_of ts)))) (lists_of (one_to S ∷ [])) ≡ true →
          AllOf (lists_of (one_to m ∷ [])) (λ j. canonical r e (behind j (behind i (cells_of ts))) ≡ true)
      each m h room x =
          all-of-list (lists_of (one_to m ∷ [])) (λ j. canonical r e (behind j (behind i (cells_of ts))))
          (places-numbers m (λ j. canonical r e (behind j (behind i (cells_of ts))))
          ∙ run-all (λ k. canonical r e (behind (k ∷ []) (behind i (cells_of ts)))) 1 m
          (λ k a b. if-so (is_used up_to_marker mine (pos k ∷ [])) (canonical r e (behind (pos k ∷ []) (behind i (cells_of ts)))) (ap (λ o. is_some_and o (int_le (pos k))) h ∙ le-leb k m (omega arith))
          (all-run (λ k. not (is_used up_to_marker mine (k ∷ [])) || canonical r e (behind (k ∷ []) (behind i (cells_of ts)))) 1 S k
          (sym (places-numbers S (λ js. not (is_used up_to_marker mine js) || canonical r e (behind js (behind i (cells_of ts))))) ∙ x) a (omega arith))))

  -- The structure constraint of slots up to a marker in which equal members may stand.
  pub repetition-structure : StructureOf env0 q q-apart terms kind (mset_dom ms es d) (msets ks e)
  repetition-structure = record {
    covered = child.covered;
    long = λ ns. ap suc (map-long _ (shapes q terms r d (drop 1 ns)) ∙ child.long (drop 1 ns)) ∙ (let z : suc (width r) ≡ 1 + (width r + 0) = omega arith in z);
    axes = ap (λ l. [] ∷ l) (under-codes env0 q q-apart terms (slot_numbers S) (one_to S ∷ []) (axes_members r e) (slots-same env0 q q-apart S) ∙ ap (map (λ (as' : Axes). one_to S ∷ as')) child.axes
        ∙ sym (append-nil (map (λ (as' : Axes). one_to S ∷ as') (axes_of r e)))) ∙ sym (axes-of-layer (repetition_layer ks e) (more_reprs r no_reprs));
    found = own-child-found env0 q q-apart terms r d e child (upto size ∷ []) (slot_numbers S) (slots-axis env0 q q-apart size S sl) false [] [] tt;
    there = there;
    means = means;
  }
