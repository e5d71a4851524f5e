-- The structure constraint of a multiset in slots with numbers of times.
use Rattle.std.proofs.Common.{◌≡◌, refl, sym, ap, ◌∙◌, ℕ, zero, suc, not, int_le, option_map, ◌+◌, ◌≤◌, ◌<◌, Bool, true, false, ◌&&◌, ◌||◌, if◌then◌else◌, List, [], ◌∷◌, ◌++◌, map, drop, ℤ, pos, Some, None, arith, append-nil, Option}
use Rattle.std.specs.List.{list_all}
use Rattle.std.proofs.lemmas.Bool.{le-leb}
use Rattle.ess_semantics.specs.declared.words.ReprKind.{ReprKind}
use Rattle.ess_semantics.specs.Lists.{is_some_and, and_then, each_of}
use Rattle.ess_semantics.specs.Values.{Text, number, truth, items_of}
use Rattle.ess_semantics.specs.Order.{same_text}
use Rattle.ess_semantics.specs.Numbers.{one_to, not_below_0}
use Rattle.ess_semantics.specs.Trees.{Mark, Repr, repr, no_reprs, more_reprs, Ex, Exs, name_ex, cell_ex, Dom, number_ex, mset_dom}
use Rattle.ess_semantics.specs.Domains.{Attribute, Domain, lists_of, msets}
use Rattle.ess_semantics.specs.Collections.{sorted_once, mset_of}
use Rattle.ess_semantics.specs.Sizes.{slots_of_mset, occurrences}
use Rattle.ess_semantics.specs.Tables.{Table, Tables, code, cell_at, is_cell, row_of}
use Rattle.ess_semantics.specs.Cells.{Cells, Axes, behind, cells_of, every_cell, row}
use Rattle.ess_semantics.specs.Layers.{OwnTable, fixed_table, some_each, only_child, always_tidy, own_row, own_cell, up_to, repeated, counted, where_counted, if_positive}
use Rattle.ess_semantics.specs.Representations.{width}
use Rattle.ess_semantics.specs.Declarations.{Declaration, under, declarations_below, axes_of, widened}
use Rattle.ess_semantics.specs.CanonicalTest.{canonical}
use Rattle.ess_semantics.specs.Meaning.{Env, meaning, indices, meanings}
use Rattle.ess_semantics.proofs.Connectives.{and-means}
use Rattle.ess_semantics.proofs.Tests.{all-run, and-both, and-left, and-right}
use Rattle.ess_repr_laws.specs.StructureParts.{Terms, add_ex, and_ex, upto, next_ex, first_name, less_ex, first_ex, use_ex, le_ex, counts_ex}
use Rattle.ess_repr_laws.specs.Structure.{shapes, structure}
use Rattle.ess_repr_laws.specs.StructureMeaning.{Bound, M, Placed, axes_members, on_members, slot_numbers, Attributes, SlotsAre}
use Rattle.ess_repr_laws.proofs.CanonicalForms.{right}
use Rattle.ess_repr_laws.proofs.CanonicalPlaces.{AllOf, all-of-list}
use Rattle.ess_repr_laws.proofs.CellDomains.{axes-wide}
use Rattle.ess_repr_laws.proofs.CellsOfMembers.{map-long}
use Rattle.ess_repr_laws.proofs.ExactCells.{none-of}
use Rattle.ess_repr_laws.proofs.RowsOfCells.{axes-of-layer}
use Rattle.ess_repr_laws.proofs.StructureFits.{Fit, first-fit}
use Rattle.ess_repr_laws.proofs.StructureLayers.{layer-asked}
use Rattle.ess_repr_laws.proofs.StructureNumbers.{le-means}
use Rattle.ess_repr_laws.proofs.StructureOf.{StructureOf, own-child-found, under-codes, child-there, child-long}
use Rattle.ess_repr_laws.proofs.StructureRows.{Steady, There, codes, grid_at}
use Rattle.ess_repr_laws.proofs.StructureSlotted.{slots-same}
use Rattle.ess_repr_laws.proofs.StructureSortedSlots.{sorted_asked, sorted-means}
use Rattle.ess_repr_laws.proofs.StructureUse.{here-index, next-steady, places-numbers, slots-axis, cell-means}
use Rattle.ess_semantics.specs.MultisetLayers.{counts_hold, mset_flags_layer, slot_count}
use Rattle.ess_semantics.specs.Names.{look}
use Rattle.ess_repr_laws.proofs.SlotsUsed.{marker-cell}
use Rattle.ess_repr_laws.proofs.StructureCounts.{counts-means}
use Rattle.ess_repr_laws.proofs.StructureFlags.{no-more-slots}
use Rattle.ess_repr_laws.proofs.StructureMultisets.{cells-there}

-- Items whose number of times is there are counted, and each of these is one whose number is above 0.
pub counted-found : {A : Type 0} (ps : List A) (f : A → Option ℤ) (top : ℕ) → AllOf ps (λ j. is_some_and (f j) (is_cell (up_to top)) ≡ true) →
    (ys : List A) × (counted ps f ≡ Some ys) × ((p : A → Bool) → list_all (λ j. not (is_some_and (f j) (int_le (pos 1))) || p j) ps ≡ true → AllOf ys (λ j. p j ≡ true))
counted-found [] f top h = ([], refl, λ p x. tt)
counted-found {A} (j ∷ ps) f top h = let m = marker-cell (f j) top h.0 in go m.0 m.1 (counted-found ps f top h.1)
  where
    Rest : Type 0
    Rest = (ys : List A) × (counted ps f ≡ Some ys) × ((p : A → Bool) → list_all (λ j. not (is_some_and (f j) (int_le (pos 1))) || p j) ps ≡ true → AllOf ys (λ j. p j ≡ true))

    Found : Type 0
    Found = (ys : List A) × (counted (j ∷ ps) f ≡ Some ys) × ((p : A → Bool) → list_all (λ j. not (is_some_and (f j) (int_le (pos 1))) || p j) (j ∷ ps) ≡ true → AllOf ys (λ j. p j ≡ true))

    go : (n : ℕ) → f j ≡ Some (pos n) → Rest → Found
    go zero e r = (
      r.0,
      ap (λ o. and_then (and_then o not_below_0) (λ n. option_map (if_positive n j) (counted ps f))) e ∙ ap (option_map (if_positive 0 j)) r.1,
      λ p x. r.2 p (and-right (not (is_some_and (f j) (int_le (pos 1))) || p j) (list_all (λ j. not (is_some_and (f j) (int_le (pos 1))) || p j) ps) x),
    )
    go (suc n) e r = (
      j ∷ r.0,
      ap (λ o. and_then (and_then o not_below_0) (λ n. option_map (if_positive n j) (counted ps f))) e ∙ ap (option_map (if_positive (suc n) j)) r.1,
      λ p x. (
        ap (λ b. not b || p j) (sym (ap (λ o. is_some_and o (int_le (pos 1))) e ∙ le-leb 1 (suc n) (omega arith)))
            ∙ and-left (not (is_some_and (f j) (int_le (pos 1))) || p j) (list_all (λ j. not (is_some_and (f j) (int_le (pos 1))) || p j) ps) x,
        r.2 p (and-right (not (is_some_and (f j) (int_le (pos 1))) || p j) (list_all (λ j. not (is_some_and (f j) (int_le (pos 1))) || p j) ps) x),
      ),
    )

module _ (env0 : Env) (q : ℕ → Text) (q-apart : (m l : ℕ) → l < m → same_text (q m) (q l) ≡ false) where
  -- A number of times above 0.
  pub count-means : (n : Text) (t : Table) (is : Exs) (js : List ℤ) (bs : Bound env0 q q-apart) (top : ℕ) → look env0.cells n ≡ Some t → indices (meanings is (M env0 q q-apart bs)) ≡ Some js →
      is_some_and (cell_at t js) (is_cell (up_to top)) ≡ true → meaning (le_ex (number_ex (pos 1)) (cell_ex false n is)) (M env0 q q-apart bs) ≡ Some (truth (is_some_and (cell_at t js) (int_le (pos 1))))
  count-means n t is js bs top ht hi ok =
      let m = marker-cell (cell_at t js) top ok in
      le-means (M env0 q q-apart bs) (number_ex (pos 1)) (cell_ex false n is) (pos 1) (pos m.0) refl (cell-means env0 q q-apart false n t is js bs (pos m.0) ht hi m.1)
      ∙ ap (λ o. Some (truth (is_some_and o (int_le (pos 1))))) (sym m.1)

module _ (env0 : Env) (q : ℕ → Text) (q-apart : (m l : ℕ) → l < m → same_text (q m) (q l) ≡ false) (terms : Terms)
    (r : Repr) (ms : List Mark) (es : Exs) (d : Dom) (ks : List Attribute) (e : Domain) (child : StructureOf env0 q q-apart terms r d e)
    (at : Attributes env0 q q-apart terms ms es ks) (sl : SlotsAre env0 q q-apart terms (mset_dom ms es d) (slots_of_mset ks e)) where
  abbrev S : ℕ
  S = slots_of_mset ks e

  abbrev size : Ex
  size = terms.slots (mset_dom ms es d)

  abbrev kind : Repr
  kind = repr ReprKind.MSetExplicitWithFlags (more_reprs r no_reprs)

  abbrev own : List OwnTable
  own = fixed_table (one_to S ∷ []) (up_to (occurrences ks)) ∷ []

  abbrev own_declared : Bool → Declaration
  own_declared out = record { axes = one_to S ∷ []; cell = if (if out then false else false) then widened (up_to (occurrences ks)) else up_to (occurrences ks) }

  abbrev inner_declared : Bool → List Declaration
  inner_declared out = under (one_to S ∷ []) (declarations_below (out || true) r e) ++ []

  record Counts (out : Bool) (t : Table) (ts : Tables) (i : List ℤ) : Type 0 where
    bits : every_cell (one_to S ∷ []) (is_cell (up_to (occurrences ks))) (grid_at env0 q q-apart t i) ≡ true
    ends : cell_at t (i ++ (pos (S + 1) ∷ [])) ≡ None
    others : Fit (inner_declared out) (behind i (cells_of ts))

  counted-fit : (out : Bool) (t : Table) (ts : Tables) (i : List ℤ) → Fit (declarations_below out kind (msets ks e)) (behind i (cells_of (t ∷ ts))) → Counts out t ts i
  counted-fit true t ts i c = let f = first-fit (own_declared true) (inner_declared true) (grid_at env0 q q-apart t i) (behind i (cells_of ts)) c in
      record { bits = f.inside; ends = none-of (cell_at t (i ++ (pos (S + 1) ∷ []))) (f.exact (pos (S + 1) ∷ []) ∙ no-more-slots S); others = f.others }
  counted-fit false t ts i c = let f = first-fit (own_declared false) (inner_declared false) (grid_at env0 q q-apart t i) (behind i (cells_of ts)) c in
      record { bits = f.inside; ends = none-of (cell_at t (i ++ (pos (S + 1) ∷ []))) (f.exact (pos (S + 1) ∷ []) ∙ no-more-slots S); others = f.others }

  counted-there : (out : Bool) (ns : List Text) (ts : Tables) (i : List ℤ) → Placed env0 q q-apart (shapes q terms kind (mset_dom ms es d) ns) (axes_members kind (msets ks e)) ts →
      Fit (declarations_below out kind (msets ks e)) (behind i (cells_of ts)) → There env0 q q-apart (shapes q terms kind (mset_dom ms es d) ns) (axes_members kind (msets ks e)) ts i
  counted-there out ns [] i p c = absurd p
  counted-there out ns (t ∷ ts) i p c =
      let f = counted-fit out t ts i c in (
        cells-there (codes env0 q q-apart (slot_numbers S)) (is_cell (up_to (occurrences ks))) (grid_at env0 q q-apart t i) (ap (λ a. every_cell a (is_cell (up_to (occurrences ks))) (grid_at env0 q q-apart t i)) (slots-same env0 q q-apart S) ∙ f.bits),
        child-there env0 q q-apart terms r d e child (upto size ∷ []) (slot_numbers S) (one_to S ∷ []) (slots-same env0 q q-apart S) refl (out || true) (drop 1 ns) ts i p.2 f.others,
      )

  counted-means : (out : Bool) (ns : List Text) (ts : Tables) (l : ℕ) (is : Exs) (i : List ℤ) (bs : Bound env0 q q-apart) → Placed env0 q q-apart (shapes q terms kind (mset_dom ms es d) ns) (axes_members kind (msets ks e)) ts →
      Fit (declarations_below out kind (msets ks e)) (behind i (cells_of ts)) → Steady env0 q q-apart l is i bs →
      meaning (structure q terms kind (mset_dom ms es d) ns l is) (M env0 q q-apart bs) ≡ Some (truth (canonical kind (msets ks e) (behind i (cells_of ts))))
  counted-means out ns [] l is i bs p c st = absurd p
  counted-means out ns (t ∷ ts) l is i bs p c st =
      let f = counted-fit out t ts i c in
      let z = at bs in
      let bits = ap (λ a. every_cell a (is_cell (up_to (occurrences ks))) (grid_at env0 q q-apart t i)) (slots-same env0 q q-apart S) ∙ f.bits in
      let found = counted-found (lists_of (one_to S ∷ [])) (grid_at env0 q q-apart t i) (occurrences ks)
      (all-of-list (lists_of (one_to S ∷ [])) (λ j. is_some_and (cell_at t (i ++ j)) (is_cell (up_to (occurrences ks)))) (places-numbers S (λ j. is_some_and (cell_at t (i ++ j)) (is_cell (up_to (occurrences ks)))) ∙ f.bits)) in
      and-means (M env0 q q-apart bs) (and_ex (first_ex q l size here next) (use_ex q l size here next rise (shapes q terms r d (drop 1 ns)) is part)) (counts_ex q l ms es (upto size ∷ []) (first_name ns) is)
      (sorted_asked env0 q q-apart terms r d e child size S sl ReprKind.MSetExplicitWithFlags (msets ks e) own where_counted true (λ v. some_each (sorted_once (items_of v))) (λ v ss. row_of (one_to S) (map (slot_count v) ss) ∷ []) (λ c vss. option_map (λ ns. mset_of (repeated ns (only_child vss))) (each_of (one_to S) (λ k. and_then (own_cell c (k ∷ [])) not_below_0)))
      (λ c vss. counts_hold ks (own_row (one_to S ∷ []) c)) always_tidy mine (behind i (cells_of ts)))
      (counts_hold ks n)
      (sorted-means env0 q q-apart terms r d e child size S sl ReprKind.MSetExplicitWithFlags (msets ks e) own where_counted true (λ v. some_each (sorted_once (items_of v))) (λ v ss. row_of (one_to S) (map (slot_count v) ss) ∷ []) (λ c vss. option_map (λ ns. mset_of (repeated ns (only_child vss))) (each_of (one_to S) (λ k. and_then (own_cell c (k ∷ [])) not_below_0)))
      (λ c vss. counts_hold ks (own_row (one_to S ∷ []) c)) always_tidy (out || true) (drop 1 ns) ts l is i bs p.2 f.others st mine here next
      (ap (λ o. is_some_and o (int_le (pos 1))) f.ends)
      (λ j x y. count-means env0 q q-apart (first_name ns) t (add_ex is (name_ex (q l))) (i ++ (pos j ∷ [])) ((l, number (pos j)) ∷ bs) (occurrences ks) p.0 (here-index env0 q q-apart l (pos j) is i bs st) (bit f.bits j x y))
      (λ j x y. count-means env0 q q-apart (first_name ns) t (add_ex is (next_ex q l)) (i ++ (pos (j + 1) ∷ [])) ((l, number (pos j)) ∷ bs) (occurrences ks) p.0 (next-steady env0 q q-apart l (pos j) is i bs st [] tt) (bit f.bits (j + 1) (omega arith) y)))
      (counts-means env0 q q-apart terms l (upto size ∷ []) (slot_numbers S) (first_name ns) is i bs t (slots-axis env0 q q-apart size S sl) p.0 (occurrences ks) bits (cells-there (codes env0 q q-apart (slot_numbers S)) (is_cell (up_to (occurrences ks))) (grid_at env0 q q-apart t i) bits) st ms es ks at)
      ∙ ap (λ b. Some (truth b))
      (ap (λ a. sorted_asked env0 q q-apart terms r d e child size S sl ReprKind.MSetExplicitWithFlags (msets ks e) own where_counted true (λ v. some_each (sorted_once (items_of v))) (λ v ss. row_of (one_to S) (map (slot_count v) ss) ∷ []) (λ c vss. option_map (λ ns. mset_of (repeated ns (only_child vss))) (each_of (one_to S) (λ k. and_then (own_cell c (k ∷ [])) not_below_0)))
      (λ c vss. counts_hold ks (own_row (one_to S ∷ []) c)) always_tidy mine (behind i (cells_of ts)) && counts_hold ks (row a (grid_at env0 q q-apart t i))) (slots-same env0 q q-apart S)
      ∙ sym (layer-asked r e (right r e child.covered) (axes-wide r e child.covered) ReprKind.MSetExplicitWithFlags (msets ks e) own (one_to S ∷ []) where_counted true true (λ v. some_each (sorted_once (items_of v))) (λ v ss. row_of (one_to S) (map (slot_count v) ss) ∷ [])
      (λ c vss. option_map (λ ns. mset_of (repeated ns (only_child vss))) (each_of (one_to S) (λ k. and_then (own_cell c (k ∷ [])) not_below_0))) (λ c vss. counts_hold ks (own_row (one_to S ∷ []) c)) always_tidy mine (behind i (cells_of ts)) (counts_hold ks (row (one_to S ∷ []) (grid_at env0 q q-apart t i)))
      (and-both (every_cell (one_to S ∷ []) (is_cell (up_to (occurrences ks))) (grid_at env0 q q-apart t i)) true f.bits refl)
      (child-long env0 q q-apart terms r d e child (upto size ∷ []) (slot_numbers S) (one_to S ∷ []) (slots-same env0 q q-apart S) refl (out || true) (drop 1 ns) ts i p.2 f.others)
      found.0 found.1 (found.2 (λ js. canonical r e (behind js (behind i (cells_of ts))))) (λ vs m x u. refl)))
    where
      mine : Cells
      mine = grid_at env0 q q-apart t i ∷ []

      here : Ex
      here = le_ex (number_ex (pos 1)) (cell_ex false (first_name ns) (add_ex is (name_ex (q l))))

      next : Ex
      next = le_ex (number_ex (pos 1)) (cell_ex false (first_name ns) (add_ex is (next_ex q l)))

      rise : Ex
      rise = less_ex q (suc l) (shapes q terms r d (drop 1 ns)) (add_ex is (name_ex (q l))) (add_ex is (next_ex q l))

      part : Ex
      part = structure q terms r d (drop 1 ns) (suc l) (add_ex is (name_ex (q l)))

      n : List ℤ
      n = row (codes env0 q q-apart (slot_numbers S)) (grid_at env0 q q-apart t i)

      bit : every_cell (one_to S ∷ []) (is_cell (up_to (occurrences ks))) (grid_at env0 q q-apart t i) ≡ true → (j : ℕ) → 1 ≤ j → j ≤ S → is_some_and (cell_at t (i ++ (pos j ∷ []))) (is_cell (up_to (occurrences ks))) ≡ true
      bit h j x y = all-run (λ j. is_some_and (cell_at t (i ++ (j ∷ []))) (is_cell (up_to (occurrences ks)))) 1 S j h x (omega arith)

  -- The structure constraint of slots with numbers of times means that the cells are canonical.
  pub counted-structure : StructureOf env0 q q-apart terms kind (mset_dom ms es d) (msets ks e)
  counted-structure = record {
    covered = child.covered;
    long = λ ns. ap suc (map-long _ (shapes q terms r d (drop 1 ns)) ∙ child.long (drop 1 ns)) ∙ (let z : suc (width r) ≡ 1 + (width r + 0) = omega arith in z);
    axes = ap (λ a. a ∷ map (map (map code)) (on_members (slot_numbers S) (axes_members r e))) (slots-same env0 q q-apart S)
        ∙ ap (λ l. (one_to S ∷ []) ∷ l) (under-codes env0 q q-apart terms (slot_numbers S) (one_to S ∷ []) (axes_members r e) (slots-same env0 q q-apart S) ∙ ap (map (λ (as' : Axes). one_to S ∷ as')) child.axes
        ∙ sym (append-nil (map (λ (as' : Axes). one_to S ∷ as') (axes_of r e)))) ∙ sym (axes-of-layer (mset_flags_layer ks e) (more_reprs r no_reprs));
    found = own-child-found env0 q q-apart terms r d e child (upto size ∷ []) (slot_numbers S) (slots-axis env0 q q-apart size S sl) false (upto size ∷ []) (slot_numbers S) (slots-axis env0 q q-apart size S sl);
    there = counted-there;
    means = counted-means;
  }
