-- The structure constraint of slots means that the cells are canonical.
use Rattle.std.proofs.Common.{◌≡◌, refl, sym, ap, ◌∙◌, ℕ, ◌≤◌, ◌<◌, Bool, true, false, ◌&&◌, ◌||◌, not, List, [], ◌∷◌, ◌++◌, length, ℤ, pos, ◌+ℤ◌, Some, option_map, int_le, arith, le_refl, append-nil}
use Rattle.std.specs.List.{list_all}
use Rattle.std.specs.Ordering.{is_lt}
use Rattle.ess_semantics.specs.declared.words.ReprKind.{ReprKind}
use Rattle.ess_semantics.specs.Lists.{is_some_and}
use Rattle.ess_semantics.specs.Values.{Text, Value, number, truth, items_of}
use Rattle.ess_semantics.specs.Order.{same_text}
use Rattle.ess_semantics.specs.Names.{look}
use Rattle.ess_semantics.specs.Numbers.{natural, one_to}
use Rattle.ess_semantics.specs.Trees.{Mark, Repr, repr, no_reprs, more_reprs, Ex, Exs, cell_ex}
use Rattle.ess_semantics.specs.Domains.{Attribute, Domain, sets}
use Rattle.ess_semantics.specs.Attributes.{set_attributes_hold}
use Rattle.ess_semantics.specs.Tables.{Table, Tables, cell_at, is_cell}
use Rattle.ess_semantics.specs.Cells.{Cells, behind, cells_of, are_zero, rows, order_rows}
use Rattle.ess_semantics.specs.Layers.{all_slots, up_to_marker, fixed_table, up_to, no_own_tables, own_cell, only_child, always_tidy}
use Rattle.ess_semantics.specs.SetLayers.{marker_table}
use Rattle.ess_semantics.specs.Collections.{set_of}
use Rattle.ess_semantics.specs.Sizes.{slots_of_set}
use Rattle.ess_semantics.specs.Representations.{width, slot_number}
use Rattle.ess_semantics.specs.Declarations.{axes_of}
use Rattle.ess_semantics.specs.CanonicalTest.{canonical}
use Rattle.ess_semantics.specs.Meaning.{Env, attributes_of, cell_value, cell_in, indices, meaning, meanings}
use Rattle.ess_repr_laws.proofs.SlotsUsed.{SlotsUsed, marker-used}
use Rattle.ess_repr_laws.proofs.Behind.{behind-append, behind-length}
use Rattle.ess_semantics.proofs.Connectives.{and-means}
use Rattle.ess_repr_laws.specs.CanonicalTables.{Right}
use Rattle.ess_repr_laws.specs.StructureParts.{Shape, size_ex, slots_ex, marker_ex, explicit_ex}
use Rattle.ess_repr_laws.specs.StructureMeaning.{Number, AllNumbers, Bound, M, Placed}
use Rattle.ess_repr_laws.proofs.CellsOfMembers.{map-long}
use Rattle.ess_repr_laws.proofs.CellsOfOccurrenceCounts.{up-to-fits}
use Rattle.ess_repr_laws.proofs.StructureSlots.{slots_canonical, slots-means}
use Rattle.ess_repr_laws.proofs.StructureNumbers.{size-means}
use Rattle.ess_repr_laws.proofs.StructureRows.{From, Steady, There, all_codes}
use Rattle.ess_repr_laws.proofs.CanonicalSlotTests.{slots-asked}

-- ---- the structures of slots

list-alike : (ks : List ℤ) (f g : ℤ → Bool) → ((k : ℤ) → f k ≡ g k) → list_all f ks ≡ list_all g ks
list-alike [] f g h = refl
list-alike (k ∷ ks) f g h = ap (λ b. b && list_all f ks) (h k) ∙ ap (λ b. g k && b) (list-alike ks f g h)

module _ (env0 : Env) (q : ℕ → Text) (q-apart : (m l : ℕ) → l < m → same_text (q m) (q l) ≡ false) (r : Repr) (e : Domain) (right : Right r e) (wide : length (axes_of r e) ≡ width r) (ks : List Attribute) where
  abbrev S : ℕ
  S = slots_of_set ks e

  abbrev Names : Type 0
  Names = Bound env0 q q-apart

  abbrev N : Names → Env
  N bs = M env0 q q-apart bs

  -- The view's tables, and what is known of them and of the parts of its structure.
  pub record View (l : ℕ) (ms : List Mark) (es : Exs) (size : Ex) (ss : List Shape) (vsss : List (List (List Value))) (ts : Tables) (is : Exs) (i : List ℤ) (bs : Names) (part : Ex) : Type 0 where
    pub numbers : AllNumbers es (N bs)
    pub attributes : attributes_of ms (meanings es (N bs)) ≡ Some ks
    pub size_is : Number size (N bs) (pos S)
    pub size_at : (k : ℤ) → Number size (N ((l, number k) ∷ bs)) (pos S)
    pub placed : Placed env0 q q-apart ss vsss ts
    pub there : (k : ℕ) → 1 ≤ k → k ≤ S → There env0 q q-apart ss vsss ts (i ++ (pos k ∷ []))
    pub steady : Steady env0 q q-apart l is i bs
    pub axes : all_codes env0 q q-apart vsss ≡ axes_of r e
    pub long : length ts ≡ width r
    pub inside : (k : ℕ) → 1 ≤ k → k ≤ S → meaning part (N ((l, number (pos k)) ∷ bs)) ≡ Some (truth (canonical r e (behind (i ++ (pos k ∷ [])) (cells_of ts))))

  -- slots behind an index list are slots of the view
  behind-slots : (vsss : List (List (List Value))) (ts : Tables) (i : List ℤ) (n : ℕ) → all_codes env0 q q-apart vsss ≡ axes_of r e →
      slots_canonical env0 q q-apart S n vsss ts i (λ k. canonical r e (behind (i ++ (k ∷ [])) (cells_of ts)))
      ≡ list_all (λ k. not (int_le k (pos n)) || canonical r e (behind (k ∷ []) (behind i (cells_of ts)))) (one_to S) &&
      (list_all (λ k. not (int_le (k +ℤ pos 1) (pos n)) ||
      is_lt (order_rows (rows (axes_of r e) (behind (k ∷ []) (behind i (cells_of ts)))) (rows (axes_of r e) (behind ((k +ℤ pos 1) ∷ []) (behind i (cells_of ts)))))) (one_to S) &&
      list_all (λ k. int_le k (pos n) || are_zero (axes_of r e) (behind (k ∷ []) (behind i (cells_of ts)))) (one_to S))
  behind-slots vsss ts i n ax =
      ap (λ as'. list_all (λ k. not (int_le k (pos n)) || canonical r e (B k)) (one_to S) && (list_all (λ k. not (int_le (k +ℤ pos 1) (pos n)) || is_lt (order_rows (rows as' (B k)) (rows as' (B (k +ℤ pos 1))))) (one_to S) && list_all (λ k. int_le k (pos n) || are_zero as' (B k)) (one_to S))) ax
      ∙ ap (λ b. b && (list_all (λ k. not (int_le (k +ℤ pos 1) (pos n)) || is_lt (order_rows (rows (axes_of r e) (B k)) (rows (axes_of r e) (B (k +ℤ pos 1))))) (one_to S) && list_all (λ k. int_le k (pos n) || are_zero (axes_of r e) (B k)) (one_to S)))
      (list-alike (one_to S) (λ k. not (int_le k (pos n)) || canonical r e (B k)) (λ k. not (int_le k (pos n)) || canonical r e (C k)) (λ k. ap (λ c. not (int_le k (pos n)) || canonical r e c) (behind-append i (k ∷ []) (cells_of ts))))
      ∙ ap (λ b. list_all (λ k. not (int_le k (pos n)) || canonical r e (C k)) (one_to S) && (b && list_all (λ k. int_le k (pos n) || are_zero (axes_of r e) (B k)) (one_to S)))
      (list-alike (one_to S) (λ k. not (int_le (k +ℤ pos 1) (pos n)) || is_lt (order_rows (rows (axes_of r e) (B k)) (rows (axes_of r e) (B (k +ℤ pos 1))))) (λ k. not (int_le (k +ℤ pos 1) (pos n)) || is_lt (order_rows (rows (axes_of r e) (C k)) (rows (axes_of r e) (C (k +ℤ pos 1)))))
      (λ k. ap (λ c. not (int_le (k +ℤ pos 1) (pos n)) || is_lt (order_rows (rows (axes_of r e) c) (rows (axes_of r e) (B (k +ℤ pos 1))))) (behind-append i (k ∷ []) (cells_of ts))
      ∙ ap (λ c. not (int_le (k +ℤ pos 1) (pos n)) || is_lt (order_rows (rows (axes_of r e) (C k)) (rows (axes_of r e) c))) (behind-append i ((k +ℤ pos 1) ∷ []) (cells_of ts))))
      ∙ ap (λ b. list_all (λ k. not (int_le k (pos n)) || canonical r e (C k)) (one_to S) && (list_all (λ k. not (int_le (k +ℤ pos 1) (pos n)) || is_lt (order_rows (rows (axes_of r e) (C k)) (rows (axes_of r e) (C (k +ℤ pos 1))))) (one_to S) && b))
      (list-alike (one_to S) (λ k. int_le k (pos n) || are_zero (axes_of r e) (B k)) (λ k. int_le k (pos n) || are_zero (axes_of r e) (C k)) (λ k. ap (λ c. int_le k (pos n) || are_zero (axes_of r e) c) (behind-append i (k ∷ []) (cells_of ts))))
    where
      B : ℤ → Cells
      B k = behind (i ++ (k ∷ [])) (cells_of ts)

      C : ℤ → Cells
      C k = behind (k ∷ []) (behind i (cells_of ts))

  cells-long : (ts : Tables) (i : List ℤ) → length ts ≡ width r → length (behind i (cells_of ts)) ≡ width r
  cells-long ts i h = behind-length i (cells_of ts) ∙ map-long cell_at ts ∙ h

  -- The structure of slots that are all in use means that the cells are canonical.
  pub explicit-means : (l : ℕ) (ms : List Mark) (es : Exs) (size : Ex) (ss : List Shape) (vsss : List (List (List Value))) (ts : Tables) (is : Exs) (i : List ℤ) (bs : Names) (part : Ex) → View l ms es size ss vsss ts is i bs part →
      meaning (explicit_ex q l ms es size ss is part) (N bs) ≡ Some (truth (canonical (repr ReprKind.Explicit (more_reprs r no_reprs)) (sets ks e) (behind i (cells_of ts))))
  explicit-means l ms es size ss vsss ts is i bs part v =
      and-means (N bs) (size_ex ms es size) (slots_ex q l size size ss is part) (set_attributes_hold ks S) (slots_canonical env0 q q-apart S S vsss ts i (λ k. canonical r e (behind (i ++ (k ∷ [])) (cells_of ts))))
      (size-means (N bs) ms es size S ks v.numbers v.attributes v.size_is)
      (slots-means env0 q q-apart l size size ss vsss ts is i bs part (λ k. canonical r e (behind (i ++ (k ∷ [])) (cells_of ts))) S S v.placed v.there v.steady v.size_is v.size_at (le_refl S) v.inside)
      ∙ ap (λ b. Some (truth b))
      (ap (λ b. set_attributes_hold ks S && b) (behind-slots vsss ts i S v.axes)
      ∙ sym (slots-asked r e right wide ReprKind.Explicit (sets ks e) [] S (all_slots S) items_of no_own_tables (λ c vss. Some (set_of (only_child vss))) (λ c vss. set_attributes_hold ks S) always_tidy [] (behind i (cells_of ts)) S (set_attributes_hold ks S)
      (le_refl S) refl (cells-long ts i v.long) (λ js. refl) refl (λ vss. refl)))

  -- The structure of slots up to a marker means that the cells are canonical.
  pub marker-means : (l : ℕ) (ms : List Mark) (es : Exs) (size : Ex) (ss : List Shape) (vsss : List (List (List Value))) (ts : Tables) (is : Exs) (i : List ℤ) (bs : Names) (part : Ex) (n : Text) (t : Table) (m : ℕ) →
      View l ms es size ss vsss ts is i bs part → look env0.cells n ≡ Some t → cell_at t i ≡ Some (pos m) → m ≤ S →
      meaning (marker_ex q l ms es size n ss is part) (N bs) ≡ Some (truth (canonical (repr ReprKind.ExplicitVarSizeWithMarker (more_reprs r no_reprs)) (sets ks e) (behind i (cells_of (t ∷ ts)))))
  marker-means l ms es size ss vsss ts is i bs part n t m v ht hm room =
      and-means (N bs) (size_ex ms es (cell_ex false n is)) (slots_ex q l size (cell_ex false n is) ss is part) (set_attributes_hold ks m) (slots_canonical env0 q q-apart S m vsss ts i (λ k. canonical r e (behind (i ++ (k ∷ [])) (cells_of ts))))
      (size-means (N bs) ms es (cell_ex false n is) m ks v.numbers v.attributes (cell-is [] tt))
      (slots-means env0 q q-apart l size (cell_ex false n is) ss vsss ts is i bs part (λ k. canonical r e (behind (i ++ (k ∷ [])) (cells_of ts))) S m v.placed v.there v.steady v.size_is (λ k. cell-is ((l, number k) ∷ []) (le_refl l, tt)) room
      (λ k a b. v.inside k a (omega arith)))
      ∙ ap (λ b. Some (truth b))
      (ap (λ b. set_attributes_hold ks m && b) (behind-slots vsss ts i m v.axes)
      ∙ sym (slots-asked r e right wide ReprKind.ExplicitVarSizeWithMarker (sets ks e) (fixed_table [] (up_to S) ∷ []) S up_to_marker items_of marker_table (λ c vss. Some (set_of (only_child vss)))
      (λ c vss. is_some_and (own_cell c []) (λ m. set_attributes_hold ks (natural m))) always_tidy mine (behind i (cells_of ts)) m (set_attributes_hold ks m) room
      (ap (λ o. is_some_and o (is_cell (up_to S)) && true) marker ∙ ap (λ b. b && true) (up-to-fits S m room)) (cells-long ts i v.long)
      (λ js. ap (λ o. is_some_and o (int_le (slot_number js))) marker) used.found (λ vss. ap (λ o. is_some_and o (λ m. set_attributes_hold ks (natural m))) marker)))
    where
      mine : Cells
      mine = (λ js. cell_at t (i ++ js)) ∷ []

      marker : cell_at t (i ++ []) ≡ Some (pos m)
      marker = ap (cell_at t) (append-nil i) ∙ hm

      used : SlotsUsed up_to_marker mine S m
      used = marker-used mine S m marker room

      cell-is : (cs : Names) → From env0 q q-apart l cs → Number (cell_ex false n is) (N (cs ++ bs)) (pos m)
      cell-is cs f = ap (λ o. cell_in false o (indices (meanings is (N (cs ++ bs))))) ht ∙ ap (cell_in false (Some t)) (v.steady cs f) ∙ ap (option_map (cell_value false)) hm
