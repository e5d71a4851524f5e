-- The structure constraint of a set in slots with flags.
use Rattle.std.proofs.Common.{◌≡◌, refl, sym, ap, ◌∙◌, ℕ, zero, suc, ◌+◌, ◌≤◌, ◌<◌, Bool, true, false, ◌&&◌, ◌||◌, if◌then◌else◌, List, [], ◌∷◌, ◌++◌, map, drop, ℤ, pos, Some, None, arith, append-nil}
use Rattle.std.specs.List.{list_any}
use Rattle.ess_semantics.specs.declared.words.ReprKind.{ReprKind}
use Rattle.ess_semantics.specs.Lists.{is_some_and}
use Rattle.ess_semantics.specs.Values.{Text, number, truth, items_of}
use Rattle.ess_semantics.specs.Order.{same_int, same_text}
use Rattle.ess_semantics.specs.Numbers.{run_from, one_to}
use Rattle.ess_semantics.specs.Trees.{Mark, Repr, repr, no_reprs, more_reprs, Ex, Exs, name_ex, cell_ex, Dom, set_dom}
use Rattle.ess_semantics.specs.Domains.{Attribute, Domain, booleans, sets, lists_of}
use Rattle.ess_semantics.specs.Attributes.{set_attributes_hold}
use Rattle.ess_semantics.specs.Collections.{set_of}
use Rattle.ess_semantics.specs.Sizes.{slots_of_set}
use Rattle.ess_semantics.specs.Tables.{Table, Tables, code, cell_at, is_cell}
use Rattle.ess_semantics.specs.Cells.{Cells, Axes, behind, cells_of, every_cell, is_index, row}
use Rattle.ess_semantics.specs.Layers.{OwnTable, where_flagged, fixed_table, some_each, flags_table, only_child, always_tidy, count_true, own_row}
use Rattle.ess_semantics.specs.SetLayers.{flags_layer}
use Rattle.ess_semantics.specs.Representations.{width}
use Rattle.ess_semantics.specs.Declarations.{Declaration, under, declarations_below, axes_of}
use Rattle.ess_semantics.specs.CanonicalTest.{canonical}
use Rattle.ess_semantics.specs.Meaning.{Env, meaning}
use Rattle.ess_semantics.proofs.Connectives.{and-means}
use Rattle.ess_semantics.proofs.Orders.{same_int-equal}
use Rattle.ess_semantics.proofs.Tests.{all-run, and-both}
use Rattle.ess_repr_laws.specs.StructureParts.{Terms, add_ex, and_ex, upto, next_ex, first_name, less_ex, first_ex, use_ex, size_ex, true_count_ex}
use Rattle.ess_repr_laws.specs.Structure.{shapes, structure}
use Rattle.ess_repr_laws.specs.StructureMeaning.{Bound, M, Placed, axes_members, on_members, slot_numbers, Attributes, SlotsAre}
use Rattle.ess_repr_laws.proofs.CanonicalForms.{right}
use Rattle.ess_repr_laws.proofs.CanonicalPlaces.{all-of-list}
use Rattle.ess_repr_laws.proofs.CellDomains.{axes-wide}
use Rattle.ess_repr_laws.proofs.CellsOfMembers.{map-long}
use Rattle.ess_repr_laws.proofs.ExactCells.{none-of}
use Rattle.ess_repr_laws.proofs.RowsOfCells.{axes-of-layer}
use Rattle.ess_repr_laws.proofs.StructureFits.{Fit, first-fit}
use Rattle.ess_repr_laws.proofs.StructureLayers.{layer-asked}
use Rattle.ess_repr_laws.proofs.StructureNumbers.{size-means}
use Rattle.ess_repr_laws.proofs.StructureOccurrences.{true-count-means}
use Rattle.ess_repr_laws.proofs.StructureOf.{StructureOf, own-child-found, under-codes, child-there, child-long}
use Rattle.ess_repr_laws.proofs.StructureRows.{Steady, There, codes, grid_at}
use Rattle.ess_repr_laws.proofs.StructureSlotted.{slots-same}
use Rattle.ess_repr_laws.proofs.StructureSortedSlots.{chosen-found, sorted_asked, sorted-means}
use Rattle.ess_repr_laws.proofs.StructureUse.{flag-means, here-index, next-steady, places-numbers, slots-axis}

-- Behind the last slot there is none.
pub no-more-slots : (S : ℕ) → is_index (one_to S ∷ []) (pos (S + 1) ∷ []) ≡ false
no-more-slots S = ap (λ b. b && true) (go 1 S (omega arith))
  where
    differ : (a : ℕ) → a < S + 1 → (b : Bool) → same_int (pos (S + 1)) (pos a) ≡ b → b ≡ false
    differ a x false e = refl
    differ a x true e = let z : pos (S + 1) ≡ pos a = same_int-equal (pos (S + 1)) (pos a) e in let y : S + 1 ≡ a = cc in absurd (omega arith)

    go : (a n : ℕ) → a + n ≤ S + 1 → list_any (same_int (pos (S + 1))) (run_from a n) ≡ false
    go a zero x = refl
    go a (suc n) x = ap (λ b. b || list_any (same_int (pos (S + 1))) (run_from (suc a) n)) (differ a (omega arith) (same_int (pos (S + 1)) (pos a)) refl) ∙ go (suc a) n (omega arith)

module _ (env0 : Env) (q : ℕ → Text) (q-apart : (m l : ℕ) → l < m → same_text (q m) (q l) ≡ false) (terms : Terms)
    (r : Repr) (ms : List Mark) (es : Exs) (d : Dom) (ks : List Attribute) (e : Domain) (child : StructureOf env0 q q-apart terms r d e)
    (at : Attributes env0 q q-apart terms ms es ks) (sl : SlotsAre env0 q q-apart terms (set_dom ms es d) (slots_of_set ks e)) where
  abbrev S : ℕ
  S = slots_of_set ks e

  abbrev size : Ex
  size = terms.slots (set_dom ms es d)

  abbrev kind : Repr
  kind = repr ReprKind.ExplicitVarSizeWithFlags (more_reprs r no_reprs)

  abbrev own : List OwnTable
  own = fixed_table (one_to S ∷ []) booleans ∷ []

  abbrev own_declared : Bool → Declaration
  own_declared out = record { axes = one_to S ∷ []; cell = if (if out then false else false) then booleans else booleans }

  abbrev inner_declared : Bool → List Declaration
  inner_declared out = under (one_to S ∷ []) (declarations_below (out || true) r e) ++ []

  record Flags (out : Bool) (t : Table) (ts : Tables) (i : List ℤ) : Type 0 where
    bits : every_cell (one_to S ∷ []) (is_cell booleans) (grid_at env0 q q-apart t i) ≡ true
    ends : cell_at t (i ++ (pos (S + 1) ∷ [])) ≡ None
    others : Fit (inner_declared out) (behind i (cells_of ts))

  flags-fit : (out : Bool) (t : Table) (ts : Tables) (i : List ℤ) → Fit (declarations_below out kind (sets ks e)) (behind i (cells_of (t ∷ ts))) → Flags out t ts i
  flags-fit true t ts i c = let f = first-fit (own_declared true) (inner_declared true) (grid_at env0 q q-apart t i) (behind i (cells_of ts)) c in
      record { bits = f.inside; ends = none-of (cell_at t (i ++ (pos (S + 1) ∷ []))) (f.exact (pos (S + 1) ∷ []) ∙ no-more-slots S); others = f.others }
  flags-fit false t ts i c = let f = first-fit (own_declared false) (inner_declared false) (grid_at env0 q q-apart t i) (behind i (cells_of ts)) c in
      record { bits = f.inside; ends = none-of (cell_at t (i ++ (pos (S + 1) ∷ []))) (f.exact (pos (S + 1) ∷ []) ∙ no-more-slots S); others = f.others }

  flags-there : (out : Bool) (ns : List Text) (ts : Tables) (i : List ℤ) → Placed env0 q q-apart (shapes q terms kind (set_dom ms es d) ns) (axes_members kind (sets ks e)) ts →
      Fit (declarations_below out kind (sets ks e)) (behind i (cells_of ts)) → There env0 q q-apart (shapes q terms kind (set_dom ms es d) ns) (axes_members kind (sets ks e)) ts i
  flags-there out ns [] i p c = absurd p
  flags-there out ns (t ∷ ts) i p c =
      let f = flags-fit out t ts i c in (
        ap (λ a. every_cell a (is_cell booleans) (grid_at env0 q q-apart t i)) (slots-same env0 q q-apart S) ∙ f.bits,
        child-there env0 q q-apart terms r d e child (upto size ∷ []) (slot_numbers S) (one_to S ∷ []) (slots-same env0 q q-apart S) refl (out || true) (drop 1 ns) ts i p.2 f.others,
      )

  flags-means : (out : Bool) (ns : List Text) (ts : Tables) (l : ℕ) (is : Exs) (i : List ℤ) (bs : Bound env0 q q-apart) → Placed env0 q q-apart (shapes q terms kind (set_dom ms es d) ns) (axes_members kind (sets ks e)) ts →
      Fit (declarations_below out kind (sets ks e)) (behind i (cells_of ts)) → Steady env0 q q-apart l is i bs →
      meaning (structure q terms kind (set_dom ms es d) ns l is) (M env0 q q-apart bs) ≡ Some (truth (canonical kind (sets ks e) (behind i (cells_of ts))))
  flags-means out ns [] l is i bs p c st = absurd p
  flags-means out ns (t ∷ ts) l is i bs p c st =
      let f = flags-fit out t ts i c in
      let z = at bs in
      let bits = ap (λ a. every_cell a (is_cell booleans) (grid_at env0 q q-apart t i)) (slots-same env0 q q-apart S) ∙ f.bits in
      let found = chosen-found (lists_of (one_to S ∷ [])) (grid_at env0 q q-apart t i)
      (all-of-list (lists_of (one_to S ∷ [])) (λ j. is_some_and (cell_at t (i ++ j)) (is_cell booleans)) (places-numbers S (λ j. is_some_and (cell_at t (i ++ j)) (is_cell booleans)) ∙ f.bits)) in
      and-means (M env0 q q-apart bs) (and_ex (first_ex q l size here next) (use_ex q l size here next rise (shapes q terms r d (drop 1 ns)) is part)) (size_ex ms es (true_count_ex q l (upto size ∷ []) (first_name ns) is))
      (sorted_asked env0 q q-apart terms r d e child size S sl ReprKind.ExplicitVarSizeWithFlags (sets ks e) own where_flagged true (λ v. some_each (items_of v)) (λ v ss. flags_table (one_to S ∷ []) ss ∷ []) (λ c vss. Some (set_of (only_child vss)))
      (λ c vss. set_attributes_hold ks (count_true (own_row (one_to S ∷ []) c))) always_tidy mine (behind i (cells_of ts)))
      (set_attributes_hold ks n)
      (sorted-means env0 q q-apart terms r d e child size S sl ReprKind.ExplicitVarSizeWithFlags (sets ks e) own where_flagged true (λ v. some_each (items_of v)) (λ v ss. flags_table (one_to S ∷ []) ss ∷ []) (λ c vss. Some (set_of (only_child vss)))
      (λ c vss. set_attributes_hold ks (count_true (own_row (one_to S ∷ []) c))) always_tidy (out || true) (drop 1 ns) ts l is i bs p.2 f.others st mine here next
      (ap (λ o. is_some_and o (same_int (pos 1))) f.ends)
      (λ j x y. flag-means env0 q q-apart (first_name ns) t (add_ex is (name_ex (q l))) (i ++ (pos j ∷ [])) ((l, number (pos j)) ∷ bs) p.0 (here-index env0 q q-apart l (pos j) is i bs st) (bit f.bits j x y))
      (λ j x y. flag-means env0 q q-apart (first_name ns) t (add_ex is (next_ex q l)) (i ++ (pos (j + 1) ∷ [])) ((l, number (pos j)) ∷ bs) p.0 (next-steady env0 q q-apart l (pos j) is i bs st [] tt) (bit f.bits (j + 1) (omega arith) y)))
      (size-means (M env0 q q-apart bs) ms es (true_count_ex q l (upto size ∷ []) (first_name ns) is) n ks z.0 z.1
      (true-count-means env0 q q-apart l (upto size ∷ []) (slot_numbers S) (first_name ns) is i bs t (slots-axis env0 q q-apart size S sl) p.0 bits st))
      ∙ ap (λ b. Some (truth b))
      (ap (λ a. sorted_asked env0 q q-apart terms r d e child size S sl ReprKind.ExplicitVarSizeWithFlags (sets ks e) own where_flagged true (λ v. some_each (items_of v)) (λ v ss. flags_table (one_to S ∷ []) ss ∷ []) (λ c vss. Some (set_of (only_child vss)))
      (λ c vss. set_attributes_hold ks (count_true (own_row (one_to S ∷ []) c))) always_tidy mine (behind i (cells_of ts)) && set_attributes_hold ks (count_true (row a (grid_at env0 q q-apart t i)))) (slots-same env0 q q-apart S)
      ∙ sym (layer-asked r e (right r e child.covered) (axes-wide r e child.covered) ReprKind.ExplicitVarSizeWithFlags (sets ks e) own (one_to S ∷ []) where_flagged true true (λ v. some_each (items_of v)) (λ v ss. flags_table (one_to S ∷ []) ss ∷ [])
      (λ c vss. Some (set_of (only_child vss))) (λ c vss. set_attributes_hold ks (count_true (own_row (one_to S ∷ []) c))) always_tidy mine (behind i (cells_of ts)) (set_attributes_hold ks (count_true (row (one_to S ∷ []) (grid_at env0 q q-apart t i))))
      (and-both (every_cell (one_to S ∷ []) (is_cell booleans) (grid_at env0 q q-apart t i)) true f.bits refl)
      (child-long env0 q q-apart terms r d e child (upto size ∷ []) (slot_numbers S) (one_to S ∷ []) (slots-same env0 q q-apart S) refl (out || true) (drop 1 ns) ts i p.2 f.others)
      found.0 found.1 (found.2 (λ js. canonical r e (behind js (behind i (cells_of ts))))) (λ vs m x u. refl)))
    where
      mine : Cells
      mine = grid_at env0 q q-apart t i ∷ []

      here : Ex
      here = cell_ex true (first_name ns) (add_ex is (name_ex (q l)))

      next : Ex
      next = cell_ex true (first_name ns) (add_ex is (next_ex q l))

      rise : Ex
      rise = less_ex q (suc l) (shapes q terms r d (drop 1 ns)) (add_ex is (name_ex (q l))) (add_ex is (next_ex q l))

      part : Ex
      part = structure q terms r d (drop 1 ns) (suc l) (add_ex is (name_ex (q l)))

      n : ℕ
      n = count_true (row (codes env0 q q-apart (slot_numbers S)) (grid_at env0 q q-apart t i))

      bit : every_cell (one_to S ∷ []) (is_cell booleans) (grid_at env0 q q-apart t i) ≡ true → (j : ℕ) → 1 ≤ j → j ≤ S → is_some_and (cell_at t (i ++ (pos j ∷ []))) (is_cell booleans) ≡ true
      bit h j x y = all-run (λ j. is_some_and (cell_at t (i ++ (j ∷ []))) (is_cell booleans)) 1 S j h x (omega arith)

  -- The structure constraint of slots with flags means that the cells are canonical.
  pub flags-structure : StructureOf env0 q q-apart terms kind (set_dom ms es d) (sets ks e)
  flags-structure = record {
    covered = child.covered;
    long = λ ns. ap suc (map-long _ (shapes q terms r d (drop 1 ns)) ∙ child.long (drop 1 ns)) ∙ (let z : suc (width r) ≡ 1 + (width r + 0) = omega arith in z);
    axes = ap (λ a. a ∷ map (map (map code)) (on_members (slot_numbers S) (axes_members r e))) (slots-same env0 q q-apart S)
        ∙ ap (λ l. (one_to S ∷ []) ∷ l) (under-codes env0 q q-apart terms (slot_numbers S) (one_to S ∷ []) (axes_members r e) (slots-same env0 q q-apart S) ∙ ap (map (λ (as' : Axes). one_to S ∷ as')) child.axes
        ∙ sym (append-nil (map (λ (as' : Axes). one_to S ∷ as') (axes_of r e)))) ∙ sym (axes-of-layer (flags_layer ks e) (more_reprs r no_reprs));
    found = own-child-found env0 q q-apart terms r d e child (upto size ∷ []) (slot_numbers S) (slots-axis env0 q q-apart size S sl) true (upto size ∷ []) (slot_numbers S) (slots-axis env0 q q-apart size S sl);
    there = flags-there;
    means = flags-means;
  }
