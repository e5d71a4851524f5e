-- Members of sets in slots: all in use, up to a marker, with true flags.
use Rattle.std.proofs.Common.{◌≡◌, refl, sym, ap, ◌∙◌, subst, ℕ, zero, suc, ◌+◌, ◌≤◌, ◌<◌, Bool, true, false, ◌&&◌, ◌||◌, if◌then◌else◌, List, [], ◌∷◌, map, take, length, pos, Option, Some, None, option_map, is_some, IsTrue, nat_le, int_le, arith}
use Rattle.std.proofs.lemmas.Bool.{le-leb, lt-leb}
use Rattle.std.specs.List.{list_all, list_any}
use Rattle.ess_semantics.specs.declared.words.ReprKind.{ReprKind}
use Rattle.ess_semantics.specs.declared.words.Key.{Key}
use Rattle.ess_semantics.specs.Lists.{is_some_and}
use Rattle.ess_semantics.specs.Values.{a_set, Value, node, of_list, items_of, itself}
use Rattle.ess_semantics.specs.Order.{same_int}
use Rattle.ess_semantics.specs.Collections.{set_of, rises}
use Rattle.ess_semantics.specs.Numbers.{natural, run_from, one_to}
use Rattle.ess_semantics.specs.Trees.{Repr, repr, no_reprs, more_reprs}
use Rattle.ess_semantics.specs.Domains.{Attribute, Domain, sets, booleans, lists_of, attribute}
use Rattle.ess_semantics.specs.Attributes.{set_attributes_hold}
use Rattle.ess_semantics.specs.Membership.{member}
use Rattle.ess_semantics.specs.Sizes.{slots_of_set}
use Rattle.ess_semantics.specs.Tables.{Tables, cell_at}
use Rattle.ess_semantics.specs.Cells.{Cells, is_index}
use Rattle.ess_semantics.specs.Layers.{OwnTable, all_slots, up_to_marker, where_flagged, Slot, fixed_table, up_to, no_own_tables, own_cell, own_row, count_true, how_many, flags_table, only_child, always_tidy, some_each}
use Rattle.ess_semantics.specs.SetLayers.{marker_table}
use Rattle.ess_semantics.specs.Representations.{slot_number}
use Rattle.ess_semantics.specs.Declarations.{axes_of}
use Rattle.ess_repr_laws.specs.Rooms.{SetRoom}
use Rattle.ess_semantics.proofs.Tests.{and-both}
use Rattle.ess_semantics.proofs.Orders.{to_list-of_list, same_int-equal}
use Rattle.ess_semantics.proofs.Sorting.{Distinct, sorted-of, one-set, sorted_once-itself}
use Rattle.ess_semantics.proofs.Repeats.{sorted-distinct}
use Rattle.ess_semantics.proofs.Permutations.{Perm, holds-perm}
use Rattle.ess_repr_laws.proofs.SlotsUsed.{slots-are}
use Rattle.ess_repr_laws.proofs.CanonicalPlaces.{AllOf}
use Rattle.ess_repr_laws.proofs.ExactCells.{exact-items, none-of}
use Rattle.ess_repr_laws.proofs.SideBySide.{Along}
use Rattle.ess_repr_laws.proofs.CellsOfMembers.{HasCells, MembersHaveCells, GoodSlot, map-long}
use Rattle.ess_repr_laws.proofs.CellsOfOneChild.{layer-wide}
use Rattle.ess_repr_laws.proofs.CellsOfOccurrences.{SetMember, set-member}
use Rattle.ess_repr_laws.proofs.SortedSlots.{Climbs, Ordered, ordered-sorted_once, perm-distinct, perm-length, padded, padded-somes, padded-many, padded-length}
use Rattle.ess_repr_laws.proofs.UsedPlaces.{run-used, take-picked, flags-exact, flags-fit, flags-used, flags-found, flags-many}
use Rattle.ess_repr_laws.proofs.CellsOfSlots.{Slotted, slots-cells, slots-differ, slots-length}
use Rattle.ess_repr_laws.proofs.Rooms.{set-room, size-slots}

-- the slots' values make the set
pub set-built : (xs : List Value) (ts : List Slot) → rises itself xs ≡ true → Perm xs (map (λ s. s.0) ts) → set_of (map (λ s. s.0) ts) ≡ node a_set (of_list xs)
set-built xs ts r p = ap (λ l. node a_set (of_list l)) (one-set (map (λ s. s.0) ts) xs (λ v. sym (holds-perm p v)) ∙ sorted_once-itself xs r)

-- As many slots as values.
pub slot-many : (xs : List Value) (ts : List Slot) → Perm xs (map (λ s. s.0) ts) → length ts ≡ length xs
slot-many xs ts p = sym (map-long (λ (s : Slot). s.0) ts) ∙ sym (perm-length p)

-- a slot behind the last one is no index
pub no-slot : (n : ℕ) → is_index (one_to n ∷ []) (pos (1 + n) ∷ []) ≡ false
no-slot n = ap (λ b. b && true) (go 1 n (1 + n) (omega arith))
  where
    go : (a n m : ℕ) → a + n ≤ m → list_any (same_int (pos m)) (run_from a n) ≡ false
    go a zero m h = refl
    go a (suc n) m h = ap (λ b. b || list_any (same_int (pos m)) (run_from (suc a) n)) (other a m (omega arith)) ∙ go (suc a) n m (omega arith)
      where
        other : (a m : ℕ) → a < m → same_int (pos m) (pos a) ≡ false
        other a m h = test (same_int (pos m) (pos a)) refl
          where
            test : (b : Bool) → same_int (pos m) (pos a) ≡ b → same_int (pos m) (pos a) ≡ false
            test false e = e
            test true e = let q : pos m ≡ pos a = same_int-equal (pos m) (pos a) e in let w : m ≡ a = cc in absurd (omega arith)

module _ (r : Repr) (e : Domain) (ks : List Attribute) (child : MembersHaveCells r e) where
  abbrev S : ℕ
  S = slots_of_set ks e

  abbrev set_build : Cells → List (List Value) → Option Value
  set_build c vss = Some (set_of (only_child vss))

  abbrev value : List Value → Value
  value xs = node a_set (of_list xs)

  items : (xs : List Value) → items_of (value xs) ≡ xs
  items xs = to_list-of_list xs

  ordered : (xs : List Value) → SetMember ks e xs → (ts : List Slot) → Perm (items_of (value xs)) (map (λ s. s.0) ts) → AllOf ts (GoodSlot r e) → Climbs (axes_of r e) ts → Ordered (axes_of r e) true ts
  ordered xs m ts p g c = ordered-sorted_once r e ts g (perm-distinct p (subst Distinct (sym (items xs)) (sorted-distinct xs (sorted-of xs m.rise)))) c

  inside : (xs : List Value) → SetMember ks e xs → list_all (member e) (items_of (value xs)) ≡ true
  inside xs m = ap (list_all (member e)) (items xs) ∙ m.inside

  -- ---- all slots in use

  abbrev asked_explicit : Cells → List (List Value) → Bool
  asked_explicit c vss = set_attributes_hold ks S

  explicit-kind : (xs : List Value) → SetMember ks e xs → length xs ≡ S → (j : ℕ) (ts : List Slot) → length ts + j ≡ S → Perm (items_of (value xs)) (map (λ s. s.0) ts) →
      Slotted ReprKind.Explicit r (sets ks e) e [] S (all_slots S) true items_of no_own_tables set_build asked_explicit always_tidy (value xs) j ts
  explicit-kind xs m full j ts sum p =
      let q : Perm xs (map (λ s. s.0) ts) = subst (λ l. Perm l (map (λ s. s.0) ts)) (items xs) p in
      let long : length ts ≡ S = slot-many xs ts q ∙ full in
      let l : length (lists_of (one_to S ∷ [])) ≡ length ts + j = slots-length S ∙ sym sum in
      record {
        exact = tt;
        fit = refl;
        used = subst (λ l. Along l (padded j ts) (λ p s. int_le (slot_number p) (pos S) ≡ is_some s)) (sym (slots-are (one_to S))) (run-used S 1 S j ts (omega arith) sum);
        ends = lt-leb (1 + S) S (omega arith);
        found = ap Some (sym (take-all (length ts) (lists_of (one_to S ∷ [])) (slots-length S ∙ sym long)) ∙ take-picked (lists_of (one_to S ∷ [])) j ts l);
        built = ap Some (set-built xs ts m.rise q);
        asked = ap (set_attributes_hold ks) (sym full) ∙ m.attributes;
      }
    where
      take-all : {A : Type 0} (n : ℕ) (xs : List A) → length xs ≡ n → take n xs ≡ xs
      take-all zero [] e = refl
      take-all zero (x ∷ xs) e = cc
      take-all (suc n) [] e = refl
      take-all (suc n) (x ∷ xs) e = let e' : length xs ≡ n = cc in ap (λ l. x ∷ l) (take-all n xs e')

  -- Members of sets of one size, with all slots in use.
  pub explicit-members : IsTrue (is_some (attribute Key.Size ks)) → MembersHaveCells (repr ReprKind.Explicit (more_reprs r no_reprs)) (sets ks e)
  explicit-members sized = record {
    wide = layer-wide ReprKind.Explicit r (sets ks e) e [] (one_to S ∷ []) (all_slots S) true true (λ v. some_each (items_of v)) no_own_tables set_build asked_explicit always_tidy refl refl child.wide;
    of_member = λ v h. let m = set-member ks e v h in subst (HasCells (repr ReprKind.Explicit (more_reprs r no_reprs)) (sets ks e)) (sym m.1) (go m.0 m.2);
  }
    where
      go : (xs : List Value) → SetMember ks e xs → HasCells (repr ReprKind.Explicit (more_reprs r no_reprs)) (sets ks e) (value xs)
      go xs m =
          let full = size-slots ks e (length xs) sized m.attributes in
          slots-cells ReprKind.Explicit r (sets ks e) e [] S (all_slots S) true items_of no_own_tables set_build asked_explicit always_tidy child refl refl (value xs) (inside xs m)
          (let l : length (items_of (value xs)) ≡ length xs = ap length (items xs) in omega arith) (ordered xs m) (explicit-kind xs m full)

  -- ---- up to a marker

  abbrev asked_marker : Cells → List (List Value) → Bool
  asked_marker c vss = is_some_and (own_cell c []) (λ m. set_attributes_hold ks (natural m))

  abbrev marker_own : List OwnTable
  marker_own = fixed_table [] (up_to S) ∷ []

  marker-kind : (xs : List Value) → SetMember ks e xs → (j : ℕ) (ts : List Slot) → length ts + j ≡ S → Perm (items_of (value xs)) (map (λ s. s.0) ts) →
      Slotted ReprKind.ExplicitVarSizeWithMarker r (sets ks e) e marker_own S up_to_marker true items_of marker_table set_build asked_marker always_tidy (value xs) j ts
  marker-kind xs m j ts sum p =
      let q : Perm xs (map (λ s. s.0) ts) = subst (λ l. Perm l (map (λ s. s.0) ts)) (items xs) p in
      let many : how_many (padded j ts) ≡ length ts = padded-many j ts in
      let l : length (lists_of (one_to S ∷ [])) ≡ length ts + j = slots-length S ∙ sym sum in
      record {
        exact = (exact-items [] (pos (how_many (padded j ts)) ∷ []) refl, tt);
        fit = ap (λ k. ((nat_le 0 k && nat_le k S) || false) && true) many ∙ ap (λ b. (b || false) && true) (and-both (nat_le 0 (length ts)) (nat_le (length ts) S) (le-leb 0 (length ts) (omega arith)) (le-leb (length ts) S (omega arith)));
        used = subst (λ k. Along (lists_of (one_to S ∷ [])) (padded j ts) (λ p s. int_le (slot_number p) (pos k) ≡ is_some s)) (sym many)
            (subst (λ l. Along l (padded j ts) (λ p s. int_le (slot_number p) (pos (length ts)) ≡ is_some s)) (sym (slots-are (one_to S))) (run-used (length ts) 1 S j ts (omega arith) sum));
        ends = ap (λ k. nat_le (1 + S) k) many ∙ lt-leb (1 + S) (length ts) (omega arith);
        found = ap (λ k. option_map (λ n. take n (lists_of (one_to S ∷ []))) (if nat_le k (length (lists_of (one_to S ∷ []))) then Some k else None)) many
            ∙ ap (λ b. option_map (λ n. take n (lists_of (one_to S ∷ []))) (if b then Some (length ts) else None)) (le-leb (length ts) (length (lists_of (one_to S ∷ []))) (omega arith))
            ∙ ap Some (take-picked (lists_of (one_to S ∷ [])) j ts l);
        built = ap Some (set-built xs ts m.rise q);
        asked = ap (set_attributes_hold ks) (many ∙ slot-many xs ts q) ∙ m.attributes;
      }

  -- Members of sets in slots up to a marker.
  pub marker-members : SetRoom ks e → MembersHaveCells (repr ReprKind.ExplicitVarSizeWithMarker (more_reprs r no_reprs)) (sets ks e)
  marker-members room = record {
    wide = layer-wide ReprKind.ExplicitVarSizeWithMarker r (sets ks e) e marker_own (one_to S ∷ []) up_to_marker true true (λ v. some_each (items_of v)) marker_table set_build asked_marker always_tidy refl refl child.wide;
    of_member = λ v h. let m = set-member ks e v h in subst (HasCells (repr ReprKind.ExplicitVarSizeWithMarker (more_reprs r no_reprs)) (sets ks e)) (sym m.1) (go m.0 m.2);
  }
    where
      go : (xs : List Value) → SetMember ks e xs → HasCells (repr ReprKind.ExplicitVarSizeWithMarker (more_reprs r no_reprs)) (sets ks e) (value xs)
      go xs m =
          let enough = set-room ks e room xs m.rise m.inside m.attributes in
          slots-cells ReprKind.ExplicitVarSizeWithMarker r (sets ks e) e marker_own S up_to_marker true items_of marker_table set_build asked_marker always_tidy child refl refl (value xs) (inside xs m)
          (let l : length (items_of (value xs)) ≡ length xs = ap length (items xs) in omega arith) (ordered xs m) (marker-kind xs m)

  -- ---- where flags are true

  abbrev asked_flags : Cells → List (List Value) → Bool
  asked_flags c vss = set_attributes_hold ks (count_true (own_row (one_to S ∷ []) c))

  abbrev flags_own : List OwnTable
  flags_own = fixed_table (one_to S ∷ []) booleans ∷ []

  abbrev flags_tables : Value → List (Option Slot) → Tables
  flags_tables v ss = flags_table (one_to S ∷ []) ss ∷ []

  flags-kind : (xs : List Value) → SetMember ks e xs → (j : ℕ) (ts : List Slot) → length ts + j ≡ S → Perm (items_of (value xs)) (map (λ s. s.0) ts) →
      Slotted ReprKind.ExplicitVarSizeWithFlags r (sets ks e) e flags_own S where_flagged true items_of flags_tables set_build asked_flags always_tidy (value xs) j ts
  flags-kind xs m j ts sum p =
      let q : Perm xs (map (λ s. s.0) ts) = subst (λ l. Perm l (map (λ s. s.0) ts)) (items xs) p in
      let count : length (lists_of (one_to S ∷ [])) ≡ length (padded j ts) = slots-length S ∙ sym sum ∙ sym (padded-length j ts) in
      let exact = flags-exact (one_to S ∷ []) (slots-differ S) (padded j ts) count in
      record {
        exact = (exact, tt);
        fit = ap (λ b. b && true) (flags-fit (one_to S ∷ []) (slots-differ S) (padded j ts) count);
        used = flags-used (one_to S ∷ []) (slots-differ S) (padded j ts) count;
        ends = ap (λ o. is_some_and o (same_int (pos 1))) (none-of (cell_at (flags_table (one_to S ∷ []) (padded j ts)) (pos (1 + S) ∷ [])) (exact (pos (1 + S) ∷ []) ∙ no-slot S));
        found = flags-found (one_to S ∷ []) (slots-differ S) (padded j ts) count;
        built = ap Some (set-built xs ts m.rise q);
        asked = ap (set_attributes_hold ks) (flags-many (one_to S ∷ []) (slots-differ S) (padded j ts) count ∙ ap length (padded-somes j ts) ∙ slot-many xs ts q) ∙ m.attributes;
      }

  -- Members of sets in slots with flags.
  pub flags-members : SetRoom ks e → MembersHaveCells (repr ReprKind.ExplicitVarSizeWithFlags (more_reprs r no_reprs)) (sets ks e)
  flags-members room = record {
    wide = layer-wide ReprKind.ExplicitVarSizeWithFlags r (sets ks e) e flags_own (one_to S ∷ []) where_flagged true true (λ v. some_each (items_of v)) flags_tables set_build asked_flags always_tidy refl refl child.wide;
    of_member = λ v h. let m = set-member ks e v h in subst (HasCells (repr ReprKind.ExplicitVarSizeWithFlags (more_reprs r no_reprs)) (sets ks e)) (sym m.1) (go m.0 m.2);
  }
    where
      go : (xs : List Value) → SetMember ks e xs → HasCells (repr ReprKind.ExplicitVarSizeWithFlags (more_reprs r no_reprs)) (sets ks e) (value xs)
      go xs m =
          let enough = set-room ks e room xs m.rise m.inside m.attributes in
          slots-cells ReprKind.ExplicitVarSizeWithFlags r (sets ks e) e flags_own S where_flagged true items_of flags_tables set_build asked_flags always_tidy child refl refl (value xs) (inside xs m)
          (let l : length (items_of (value xs)) ≡ length xs = ap length (items xs) in omega arith) (ordered xs m) (flags-kind xs m)
