-- Members of multisets in slots with repeats, and in slots with numbers.
use Rattle.std.proofs.Common.{◌≡◌, refl, sym, ap, ◌∙◌, subst, ℕ, zero, suc, ◌+◌, Bool, true, false, ◌&&◌, ◌||◌, if◌then◌else◌, List, [], ◌∷◌, ◌++◌, map, take, length, replicate, ℤ, pos, Option, Some, None, option_map, is_some, nat_le, int_le, arith}
use Rattle.std.proofs.lemmas.Bool.{le-leb, lt-leb}
use Rattle.std.specs.List.{list_all}
use Rattle.ess_semantics.specs.declared.words.ReprKind.{ReprKind}
use Rattle.ess_semantics.specs.declared.words.Key.{Key}
use Rattle.ess_semantics.specs.Lists.{and_then, each_of, is_some_and}
use Rattle.ess_semantics.specs.Values.{a_mset, Value, node, of_list, items_of}
use Rattle.ess_semantics.specs.Order.{same}
use Rattle.ess_semantics.specs.Collections.{holds, count, mset_of, sorted, sorted_once}
use Rattle.ess_semantics.specs.Numbers.{natural, one_to, not_below_0}
use Rattle.ess_semantics.specs.Trees.{Repr, repr, no_reprs, more_reprs}
use Rattle.ess_semantics.specs.Domains.{Attribute, Domain, msets, lists_of}
use Rattle.ess_semantics.specs.Attributes.{each_number_holds, occurs_holds, set_attributes_hold}
use Rattle.ess_semantics.specs.Membership.{member}
use Rattle.ess_semantics.specs.Sizes.{slots_of_mset, occurrences}
use Rattle.ess_semantics.specs.Tables.{Tables, row_of, cell_at, is_cell}
use Rattle.ess_semantics.specs.Cells.{Cells, Axes, Grid}
use Rattle.ess_semantics.specs.Layers.{OwnTable, up_to_marker, where_counted, Slot, fixed_table, up_to, own_cell, own_row, counted, if_positive, total, repeated, each_repeated, only_child, how_many, some_each, always_tidy}
use Rattle.ess_semantics.specs.SetLayers.{marker_table}
use Rattle.ess_semantics.specs.MultisetLayers.{times_hold, counts_hold, slot_count}
use Rattle.ess_semantics.specs.Representations.{slot_number}
use Rattle.ess_semantics.specs.Declarations.{axes_of}
use Rattle.ess_repr_laws.specs.Rooms.{MsetRoom}
use Rattle.ess_semantics.proofs.Tests.{and-left, and-right, and-both, or-yes}
use Rattle.ess_semantics.proofs.Orders.{to_list-of_list, same-itself}
use Rattle.ess_semantics.proofs.Sorting.{Distinct, sorted-of, sorted_once-rises, holds-sorted_once, all-sorted_once, all-holds, holds-all}
use Rattle.ess_semantics.proofs.Multisets.{one-sorted-bag, sorted-rises, count-sorted, holds-count}
use Rattle.ess_semantics.proofs.Repeats.{sorted-distinct}
use Rattle.ess_semantics.proofs.Permutations.{Perm, holds-perm, count-perm}
use Rattle.ess_repr_laws.proofs.SlotsUsed.{as_place, slots-are}
use Rattle.ess_repr_laws.proofs.CanonicalPlaces.{AllOf}
use Rattle.ess_repr_laws.proofs.ExactCells.{Exact, exact-items, none-of}
use Rattle.ess_repr_laws.proofs.SideBySide.{Along, along-map, along-right, left-under}
use Rattle.ess_repr_laws.proofs.CellsOfMembers.{HasCells, MembersHaveCells, picked}
use Rattle.ess_repr_laws.proofs.CellsOfOneChild.{layer-wide}
use Rattle.ess_repr_laws.proofs.SortedSlots.{ordered-weakly, ordered-sorted_once, perm-distinct, padded, padded-many, padded-length}
use Rattle.ess_repr_laws.proofs.UsedPlaces.{run-used, take-picked, table-exact, table-cells, table-row, table-fit}
use Rattle.ess_repr_laws.proofs.CellsOfSlots.{Slotted, slots-cells, slots-differ, slots-length}
use Rattle.ess_repr_laws.proofs.CellsOfSets.{slot-many, no-slot}
use Rattle.ess_repr_laws.proofs.Times.{MsetMember, mset-member, mset-room, occurs-most, Among, among-sorted_once, sorted-again, counts-said, set-part, occurs-part, each-imply, sorted_once-most}
use Rattle.ess_repr_laws.proofs.CellsOfOccurrenceCounts.{up-to-fits}

-- ---- in slots

module _ (r : Repr) (e : Domain) (ks : List Attribute) (child : MembersHaveCells r e) (room : MsetRoom ks e) where
  abbrev S : ℕ
  S = slots_of_mset ks e

  abbrev value : List Value → Value
  value xs = node a_mset (of_list xs)

  items : (xs : List Value) → items_of (value xs) ≡ xs
  items xs = to_list-of_list xs

  -- ---- with repeats

  abbrev repeats_own : List OwnTable
  repeats_own = fixed_table [] (up_to S) ∷ []

  abbrev repeats_built : Cells → List (List Value) → Option Value
  repeats_built c vss = Some (mset_of (only_child vss))

  abbrev repeats_asked : Cells → List (List Value) → Bool
  repeats_asked c vss = is_some_and (own_cell c []) (λ m. set_attributes_hold ks (natural m)) && each_number_holds ks (λ k z. occurs_holds k z (only_child vss))

  occurs-perm : (k : Key) (n : ℤ) (xs ys : List Value) → Perm xs ys → occurs_holds k n xs ≡ true → occurs_holds k n ys ≡ true
  occurs-perm Key.MinOccur n xs ys p h =
      holds-all (λ x. int_le n (pos (count ys x))) ys (λ v q. ap (λ c. int_le n (pos c)) (sym (count-perm p v)) ∙ all-holds (λ x. int_le n (pos (count xs x))) xs v h (holds-perm p v ∙ q))
  occurs-perm Key.MaxOccur n xs ys p h =
      holds-all (λ x. int_le (pos (count ys x)) n) ys (λ v q. ap (λ c. int_le (pos c) n) (sym (count-perm p v)) ∙ all-holds (λ x. int_le (pos (count xs x)) n) xs v h (holds-perm p v ∙ q))
  occurs-perm _ n xs ys p h = refl

  repeats-kind : (xs : List Value) → MsetMember ks e xs → (j : ℕ) (ts : List Slot) → length ts + j ≡ S → Perm (items_of (value xs)) (map (λ s. s.0) ts) →
      Slotted ReprKind.MSetExplicitWithRepetition r (msets ks e) e repeats_own S up_to_marker false items_of marker_table repeats_built repeats_asked always_tidy (value xs) j ts
  repeats-kind xs m j ts sum p =
      let q : Perm xs (map (λ s. s.0) ts) = subst (λ l. Perm l (map (λ s. s.0) ts)) (items xs) p in
      let many : how_many (padded j ts) ≡ length ts = padded-many j ts in
      let l : length (lists_of (one_to S ∷ [])) ≡ length ts + j = slots-length S ∙ sym sum in
      record {
        exact = (exact-items [] (pos (how_many (padded j ts)) ∷ []) refl, tt);
        fit = ap (λ k. ((nat_le 0 k && nat_le k S) || false) && true) many ∙ ap (λ b. b && true) (up-to-fits S (length ts) (omega arith));
        used = subst (λ k. Along (lists_of (one_to S ∷ [])) (padded j ts) (λ p s. int_le (slot_number p) (pos k) ≡ is_some s)) (sym many)
            (subst (λ l. Along l (padded j ts) (λ p s. int_le (slot_number p) (pos (length ts)) ≡ is_some s)) (sym (slots-are (one_to S))) (run-used (length ts) 1 S j ts (omega arith) sum));
        ends = ap (λ k. nat_le (1 + S) k) many ∙ lt-leb (1 + S) (length ts) (omega arith);
        found = ap (λ k. option_map (λ n. take n (lists_of (one_to S ∷ []))) (if nat_le k (length (lists_of (one_to S ∷ []))) then Some k else None)) many
            ∙ ap (λ b. option_map (λ n. take n (lists_of (one_to S ∷ []))) (if b then Some (length ts) else None)) (le-leb (length ts) (length (lists_of (one_to S ∷ []))) (omega arith))
            ∙ ap Some (take-picked (lists_of (one_to S ∷ [])) j ts l);
        built = ap (λ l. Some (node a_mset (of_list l)))
            (one-sorted-bag (sorted (map (λ s. s.0) ts)) xs (sorted-rises (map (λ s. s.0) ts)) m.rise (λ v. count-sorted (map (λ s. s.0) ts) v ∙ sym (count-perm q v)));
        asked = and-both (set_attributes_hold ks (how_many (padded j ts))) (each_number_holds ks (λ k z. occurs_holds k z (map (λ s. s.0) ts)))
            (ap (set_attributes_hold ks) (many ∙ slot-many xs ts q) ∙ set-part ks xs m.attributes)
            (each-imply ks (λ k n. occurs_holds k n xs) (λ k z. occurs_holds k z (map (λ s. s.0) ts)) (λ k n h. occurs-perm k n xs (map (λ s. s.0) ts) q h) (occurs-part ks xs m.attributes));
      }

  -- Members of multisets in slots with repeats.
  pub repetition-members : MembersHaveCells (repr ReprKind.MSetExplicitWithRepetition (more_reprs r no_reprs)) (msets ks e)
  repetition-members = record {
    wide = layer-wide ReprKind.MSetExplicitWithRepetition r (msets ks e) e repeats_own (one_to S ∷ []) up_to_marker true false (λ v. some_each (items_of v)) marker_table repeats_built repeats_asked always_tidy refl refl child.wide;
    of_member = λ v h. let m = mset-member ks e v h in subst (HasCells (repr ReprKind.MSetExplicitWithRepetition (more_reprs r no_reprs)) (msets ks e)) (sym m.1) (go m.0 m.2);
  }
    where
      go : (xs : List Value) → MsetMember ks e xs → HasCells (repr ReprKind.MSetExplicitWithRepetition (more_reprs r no_reprs)) (msets ks e) (value xs)
      go xs m =
          let enough = mset-room ks e room xs m in
          slots-cells ReprKind.MSetExplicitWithRepetition r (msets ks e) e repeats_own S up_to_marker false items_of marker_table repeats_built repeats_asked always_tidy child refl refl (value xs)
          (ap (list_all (member e)) (items xs) ∙ m.inside) (let l : length (items_of (value xs)) ≡ length xs = ap length (items xs) in omega arith) (λ ts p g c. ordered-weakly (axes_of r e) ts c) (repeats-kind xs m)

  -- ---- with numbers

  abbrev counted_own : List OwnTable
  counted_own = fixed_table (one_to S ∷ []) (up_to (occurrences ks)) ∷ []

  abbrev counted_tables : Value → List (Option Slot) → Tables
  counted_tables v ss = row_of (one_to S) (map (slot_count v) ss) ∷ []

  abbrev counted_built : Cells → List (List Value) → Option Value
  counted_built c vss = option_map (λ ns. mset_of (repeated ns (only_child vss))) (each_of (one_to S) (λ k. and_then (own_cell c (k ∷ [])) not_below_0))

  abbrev counted_asked : Cells → List (List Value) → Bool
  counted_asked c vss = counts_hold ks (own_row (one_to S ∷ []) c)

  abbrev members : Value → List Value
  members v = sorted_once (items_of v)

  -- how often the value of a slot occurs
  abbrev times : List Value → Option Slot → ℕ
  times xs None = 0
  times xs (Some s) = count xs s.0

  slot-times : (xs : List Value) (s : Option Slot) → slot_count (value xs) s ≡ pos (times xs s)
  slot-times xs None = refl
  slot-times xs (Some s) = ap (λ l. pos (count l s.0)) (items xs)

  -- a slot with a value has a number above 0
  abbrev Positive : List Value → Option Slot → Type 0
  Positive xs None = Unit {0}
  Positive xs (Some s) = (n : ℕ) × (count xs s.0 ≡ suc n)

  counted-picked : (xs : List Value) (f : Grid) (ps : List (List ℤ)) (ss : List (Option Slot)) → AllOf ss (Positive xs) → Along ps ss (λ p s. f p ≡ Some (pos (times xs s))) → counted ps f ≡ Some (picked ps ss)
  counted-picked xs f [] [] a h = refl
  counted-picked xs f (p ∷ ps) (None ∷ ss) a h = ap (λ o. and_then (and_then o not_below_0) (λ n. option_map (if_positive n p) (counted ps f))) h.0 ∙ ap (option_map (if_positive 0 p)) (counted-picked xs f ps ss a.1 h.1)
  counted-picked xs f (p ∷ ps) (Some s ∷ ss) a h =
      ap (λ o. and_then (and_then o not_below_0) (λ n. option_map (if_positive n p) (counted ps f))) (h.0 ∙ ap (λ n. Some (pos n)) a.0.1)
      ∙ ap (option_map (λ l. p ∷ l)) (counted-picked xs f ps ss a.1 h.1)
  counted-picked xs f [] (s ∷ ss) a h = absurd h
  counted-picked xs f (p ∷ ps) [] a h = absurd h

  counted-used : (xs : List Value) (o : Option ℤ) (s : Option Slot) → Positive xs s → o ≡ Some (pos (times xs s)) → is_some_and o (int_le (pos 1)) ≡ is_some s
  counted-used xs o None a h = ap (λ o. is_some_and o (int_le (pos 1))) h
  counted-used xs o (Some s) a h = ap (λ o. is_some_and o (int_le (pos 1))) (h ∙ ap (λ n. Some (pos n)) a.1) ∙ le-leb 1 (suc a.0) (let n = a.0 in omega arith)

  slot-numbers : (f : Grid) (ps : List ℤ) (ns : List ℕ) → Along ps ns (λ k n. f (k ∷ []) ≡ Some (pos n)) → each_of ps (λ k. and_then (f (k ∷ [])) not_below_0) ≡ Some ns
  slot-numbers f [] [] h = refl
  slot-numbers f (p ∷ ps) (n ∷ ns) h = ap (λ o. and_then (and_then o not_below_0) (λ n. option_map (λ ns. n ∷ ns) (each_of ps (λ k. and_then (f (k ∷ [])) not_below_0)))) h.0 ∙ ap (option_map (λ l. n ∷ l)) (slot-numbers f ps ns h.1)
  slot-numbers f [] (n ∷ ns) h = absurd h
  slot-numbers f (p ∷ ps) [] h = absurd h

  along-times : (xs : List Value) (f : Grid) (ps : List ℤ) (ss : List (Option Slot)) → Along ps ss (λ k s. f (k ∷ []) ≡ Some (pos (times xs s))) → Along ps (map (times xs) ss) (λ k n. f (k ∷ []) ≡ Some (pos n))
  along-times xs f [] [] h = tt
  along-times xs f (p ∷ ps) (s ∷ ss) h = (h.0, along-times xs f ps ss h.1)
  along-times xs f [] (s ∷ ss) h = absurd h
  along-times xs f (p ∷ ps) [] h = absurd h

  -- slots out of use repeat nothing
  repeated-padded : (xs : List Value) (j : ℕ) (ts : List Slot) → AllOf (padded j ts) (Positive xs) → repeated (map (times xs) (padded j ts)) (map (λ s. s.0) ts) ≡ each_repeated (map (count xs) (map (λ s. s.0) ts)) (map (λ s. s.0) ts)
  repeated-padded xs zero [] a = refl
  repeated-padded xs (suc j) [] a = repeated-padded xs j [] a.1
  repeated-padded xs j (t ∷ ts) a =
      ap (λ n. repeated (n ∷ map (times xs) (padded j ts)) (t.0 ∷ map (λ s. s.0) ts)) a.0.1 ∙ ap (λ l. replicate (suc a.0.0) t.0 ++ l) (repeated-padded xs j ts a.1)
      ∙ ap (λ n. replicate n t.0 ++ each_repeated (map (count xs) (map (λ s. s.0) ts)) (map (λ s. s.0) ts)) (sym a.0.1)

  -- numbers of slots out of use change nothing
  padded-counts : (xs : List Value) (j : ℕ) (ts : List Slot) → counts_hold ks (map pos (map (count xs) (map (λ s. s.0) ts))) ≡ true → counts_hold ks (map pos (map (times xs) (padded j ts))) ≡ true
  padded-counts xs j ts h =
      let ns : List ℤ = map pos (map (count xs) (map (λ s. s.0) ts)) in
      let ms : List ℤ = map pos (map (times xs) (padded j ts)) in
      and-both (set_attributes_hold ks (total ms)) (each_number_holds ks (λ k n. list_all (times_hold k n) ms))
      (ap (set_attributes_hold ks) (same-total j ts) ∙ and-left (set_attributes_hold ks (total ns)) (each_number_holds ks (λ k n. list_all (times_hold k n) ns)) h)
      (each-imply ks (λ k n. list_all (times_hold k n) ns) (λ k n. list_all (times_hold k n) ms) (λ k n q. all-times k n j ts q) (and-right (set_attributes_hold ks (total ns)) (each_number_holds ks (λ k n. list_all (times_hold k n) ns)) h))
    where
      same-total : (j : ℕ) (ts : List Slot) → total (map pos (map (times xs) (padded j ts))) ≡ total (map pos (map (count xs) (map (λ s. s.0) ts)))
      same-total zero [] = refl
      same-total (suc j) [] = (let z : 0 + total (map pos (map (times xs) (padded j []))) ≡ total (map pos (map (times xs) (padded j []))) = omega arith in z) ∙ same-total j []
      same-total j (t ∷ ts) = ap (λ n. count xs t.0 + n) (same-total j ts)

      none-times : (k : Key) (n : ℤ) → times_hold k n (pos 0) ≡ true
      none-times Key.MinOccur n = refl
      none-times Key.MaxOccur n = refl
      none-times _ n = refl

      all-times : (k : Key) (n : ℤ) (j : ℕ) (ts : List Slot) → list_all (times_hold k n) (map pos (map (count xs) (map (λ s. s.0) ts))) ≡ true → list_all (times_hold k n) (map pos (map (times xs) (padded j ts))) ≡ true
      all-times k n zero [] q = refl
      all-times k n (suc j) [] q = and-both (times_hold k n (pos 0)) (list_all (times_hold k n) (map pos (map (times xs) (padded j [])))) (none-times k n) (all-times k n j [] q)
      all-times k n j (t ∷ ts) q =
          and-both (times_hold k n (pos (count xs t.0))) (list_all (times_hold k n) (map pos (map (times xs) (padded j ts)))) (and-left (times_hold k n (pos (count xs t.0))) (list_all (times_hold k n) (map pos (map (count xs) (map (λ s. s.0) ts)))) q)
          (all-times k n j ts (and-right (times_hold k n (pos (count xs t.0))) (list_all (times_hold k n) (map pos (map (count xs) (map (λ s. s.0) ts)))) q))

  counted-kind : (xs : List Value) → MsetMember ks e xs → (j : ℕ) (ts : List Slot) → length ts + j ≡ S → Perm (members (value xs)) (map (λ s. s.0) ts) →
      Slotted ReprKind.MSetExplicitWithFlags r (msets ks e) e counted_own S where_counted true members counted_tables counted_built counted_asked always_tidy (value xs) j ts
  counted-kind xs m j ts sum p = record {
    exact = (exact, tt);
    fit = ap (λ b. b && true) (table-fit bs (slots-differ S) (slot_count (value xs)) ss count' (is_cell (up_to (occurrences ks))) (each ss));
    used = along-right (lists_of bs) ss (Positive xs) (λ p s. f p ≡ Some (pos (times xs s))) (λ p s. is_some_and (f p) (int_le (pos 1)) ≡ is_some s) (λ p s a h. counted-used xs (f p) s a h) positive cells;
    ends = ap (λ o. is_some_and o (int_le (pos 1))) (none-of (f (pos (1 + S) ∷ [])) (exact (pos (1 + S) ∷ []) ∙ no-slot S));
    found = counted-picked xs f (lists_of bs) ss positive cells;
    built = ap (option_map (λ ns. mset_of (repeated ns (map (λ s. s.0) ts)))) (slot-numbers f (one_to S) (map (times xs) ss) (along-times xs f (one_to S) ss (left-under as_place (one_to S) ss (λ p s. f p ≡ Some (pos (times xs s))) (subst (λ l. Along l ss (λ p s. f p ≡ Some (pos (times xs s)))) (slots-are (one_to S)) cells))))
        ∙ ap (λ l. Some (mset_of l)) (repeated-padded xs j ts positive) ∙ ap (λ l. Some (node a_mset (of_list l))) (sorted-again xs vals m.rise distinct among);
    asked = ap (counts_hold ks) (table-row bs (slots-differ S) (slot_count (value xs)) ss count' ∙ as-numbers ss) ∙ padded-counts xs j ts (counts-said ks xs vals m.rise distinct among m.attributes);
  }
    where
      bs : Axes
      bs = one_to S ∷ []

      ss : List (Option Slot)
      ss = padded j ts

      vals : List Value
      vals = map (λ s. s.0) ts

      f : Grid
      f = cell_at (row_of (one_to S) (map (slot_count (value xs)) ss))

      q : Perm (sorted_once xs) vals
      q = subst (λ l. Perm (sorted_once l) vals) (items xs) p

      distinct : Distinct vals
      distinct = perm-distinct q (sorted-distinct (sorted_once xs) (sorted-of (sorted_once xs) (sorted_once-rises xs)))

      among : Among xs vals
      among w h = sym (holds-perm q w) ∙ among-sorted_once xs w h

      count' : length (lists_of bs) ≡ length ss
      count' = slots-length S ∙ sym sum ∙ sym (padded-length j ts)

      exact : Exact bs f
      exact = table-exact bs (slots-differ S) (slot_count (value xs)) ss count'

      positive : AllOf ss (Positive xs)
      positive = go j ts (λ v h. h)
        where
          there : (v : Value) → holds vals v ≡ true → (n : ℕ) × (count xs v ≡ suc n)
          there v h = here (count xs v) refl
            where
              here : (c : ℕ) → count xs v ≡ c → (n : ℕ) × (count xs v ≡ suc n)
              here zero k = let z : false ≡ true = sym (holds-count xs v k) ∙ sym (holds-sorted_once xs v) ∙ holds-perm q v ∙ h in cc
              here (suc n) k = (n, k)

          go : (i : ℕ) (us : List Slot) → ((v : Value) → holds (map (λ s. s.0) us) v ≡ true → holds vals v ≡ true) → AllOf (padded i us) (Positive xs)
          go zero [] h = tt
          go (suc i) [] h = (tt, go i [] h)
          go i (u ∷ us) h = (there u.0 (h u.0 (ap (λ b. b || holds (map (λ s. s.0) us) u.0) (same-itself u.0))), go i us (λ v k. h v (ap (λ b. same u.0 v || b) k ∙ or-yes (same u.0 v))))

      cells : Along (lists_of bs) ss (λ p s. f p ≡ Some (pos (times xs s)))
      cells = along-map (lists_of bs) ss (λ p s. f p ≡ Some (slot_count (value xs) s)) (λ p s. f p ≡ Some (pos (times xs s))) (λ p s h. h ∙ ap Some (slot-times xs s)) (table-cells bs (slots-differ S) (slot_count (value xs)) ss count')

      each : (us : List (Option Slot)) → AllOf us (λ s. is_cell (up_to (occurrences ks)) (slot_count (value xs) s) ≡ true)
      each [] = tt
      each (None ∷ us) = (up-to-fits (occurrences ks) 0 (omega arith), each us)
      each (Some s ∷ us) = (ap (is_cell (up_to (occurrences ks))) (slot-times xs (Some s)) ∙ up-to-fits (occurrences ks) (count xs s.0) (occurs-most ks room.0 xs m.attributes s.0), each us)

      as-numbers : (us : List (Option Slot)) → map (slot_count (value xs)) us ≡ map pos (map (times xs) us)
      as-numbers [] = refl
      as-numbers (s ∷ us) = ap (λ n. n ∷ map (slot_count (value xs)) us) (slot-times xs s) ∙ ap (λ l. pos (times xs s) ∷ l) (as-numbers us)

  -- Members of multisets in slots with numbers.
  pub mset-flags-members : MembersHaveCells (repr ReprKind.MSetExplicitWithFlags (more_reprs r no_reprs)) (msets ks e)
  mset-flags-members = record {
    wide = layer-wide ReprKind.MSetExplicitWithFlags r (msets ks e) e counted_own (one_to S ∷ []) where_counted true true (λ v. some_each (members v)) counted_tables counted_built counted_asked always_tidy refl refl child.wide;
    of_member = λ v h. let m = mset-member ks e v h in subst (HasCells (repr ReprKind.MSetExplicitWithFlags (more_reprs r no_reprs)) (msets ks e)) (sym m.1) (go m.0 m.2);
  }
    where
      go : (xs : List Value) → MsetMember ks e xs → HasCells (repr ReprKind.MSetExplicitWithFlags (more_reprs r no_reprs)) (msets ks e) (value xs)
      go xs m =
          let enough = mset-room ks e room xs m in
          let short = sorted_once-most xs in
          slots-cells ReprKind.MSetExplicitWithFlags r (msets ks e) e counted_own S where_counted true members counted_tables counted_built counted_asked always_tidy child refl refl (value xs)
          (ap (λ l. list_all (member e) (sorted_once l)) (items xs) ∙ all-sorted_once (member e) xs ∙ m.inside)
          (let l : length (members (value xs)) ≡ length (sorted_once xs) = ap (λ l. length (sorted_once l)) (items xs) in omega (arith, l, short, enough))
          (λ ts p g c. ordered-sorted_once r e ts g (perm-distinct p (sorted-distinct (members (value xs)) (sorted-of (members (value xs)) (sorted_once-rises (items_of (value xs)))))) c) (counted-kind xs m)
