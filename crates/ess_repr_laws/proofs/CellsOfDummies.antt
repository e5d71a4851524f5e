-- Members of sets of atoms in slots of their own, padded by the dummy.
use Rattle.std.proofs.Common.{◌≡◌, refl, sym, ap, ◌∙◌, subst, ℕ, zero, suc, ◌+◌, ◌-◌, ◌≤◌, Bool, true, false, ◌&&◌, ◌||◌, not, if◌then◌else◌, List, [], ◌∷◌, ◌++◌, map, filter, length, replicate, ℤ, pos, ◌+ℤ◌, Option, Some, None, option_map, is_some, IsTrue, int_lt, arith, length-append, mul-one}
use Rattle.std.specs.List.{list_all}
use Rattle.ess_semantics.specs.declared.words.ReprKind.{ReprKind}
use Rattle.ess_semantics.specs.Lists.{and_then, each_of, is_some_and, append_all}
use Rattle.ess_semantics.specs.Values.{Value, node, a_set, of_list, items_of, itself}
use Rattle.ess_semantics.specs.Order.{below, same_int}
use Rattle.ess_semantics.specs.Collections.{set_of, rises}
use Rattle.ess_semantics.specs.Numbers.{run_from, one_to}
use Rattle.ess_semantics.specs.Trees.{repr, no_reprs}
use Rattle.ess_semantics.specs.Domains.{Attribute, Domain, integers, named, sets, lists_of}
use Rattle.ess_semantics.specs.Attributes.{set_attributes_hold}
use Rattle.ess_semantics.specs.Membership.{member}
use Rattle.ess_semantics.specs.Sizes.{slots_of_set}
use Rattle.ess_semantics.specs.Tables.{Tables, code, atom_value, item_in, row_of, is_cell, volume}
use Rattle.ess_semantics.specs.Cells.{Grid, Cells, only_grid, first_grid, every_cell, cells_of}
use Rattle.ess_semantics.specs.CanonicalTest.{own_cells_fit}
use Rattle.ess_repr_laws.proofs.RowsOfCells.{own_axes}
use Rattle.ess_semantics.specs.Layers.{OwnTable, Slot, as_numbers, widened_table}
use Rattle.ess_semantics.specs.SetLayers.{dummy_of, with_number, but_dummy, dummies_last, holds_member, slot_below, dummies_rise, members_held}
use Rattle.ess_repr_laws.specs.Rooms.{HasDummy, SetRoom}
use Rattle.ess_semantics.proofs.Tests.{and-left, and-right, and-both, or-yes, run-length}
use Rattle.ess_semantics.proofs.Orders.{same_int-itself, to_list-of_list}
use Rattle.ess_semantics.proofs.Sorting.{sorted_once-itself}
use Rattle.ess_repr_laws.proofs.SlotsUsed.{as_place, slots-are}
use Rattle.ess_repr_laws.proofs.CanonicalPlaces.{AllOf, all-of-list, places-index}
use Rattle.ess_repr_laws.proofs.ExactCells.{Exact, AllExact, exact-items, none-of}
use Rattle.ess_repr_laws.proofs.SideBySide.{Along, along-all, left-under}
use Rattle.ess_repr_laws.proofs.PlacesOfTables.{items-along}
use Rattle.ess_repr_laws.proofs.CellsOfMembers.{HasCells, MembersHaveCells, map-long}
use Rattle.ess_repr_laws.proofs.CellsWithoutChildren.{Alone, alone-wide, alone-cells}
use Rattle.ess_repr_laws.proofs.CellsOfOccurrences.{SetMember, set-member}
use Rattle.ess_repr_laws.proofs.ArgumentTables.{index-cell}
use Rattle.ess_repr_laws.proofs.CellsOfSlots.{slots-differ}
use Rattle.ess_repr_laws.proofs.CellsOfSets.{no-slot}
use Rattle.ess_repr_laws.proofs.Rooms.{set-room}
use Rattle.ess_repr_laws.proofs.DummyNumbers.{DummyOf, integers-dummy, named-dummy}

-- ---- cells of members, then dummies

module _ (d : Domain) (m : ℤ) (dummy : DummyOf d m) where
  abbrev filled : ℕ → List Value → List ℤ
  filled j xs = map code xs ++ replicate j m

  filled-length : (j : ℕ) (xs : List Value) → length (filled j xs) ≡ length xs + j
  filled-length j xs = let a = length-append (map code xs) (replicate j m) in let b = map-long code xs in let c = long j in omega (arith, a, b, c)
    where
      long : (j : ℕ) → length (replicate j m) ≡ j
      long zero = refl
      long (suc j) = ap suc (long j)

  filled-fits : (j : ℕ) (xs : List Value) → list_all (member d) xs ≡ true → AllOf (filled j xs) (λ k. is_cell (with_number (Some m) (as_numbers d)) k ≡ true)
  filled-fits zero [] h = tt
  filled-fits (suc j) [] h = (dummy.fits, filled-fits j [] h)
  filled-fits j (x ∷ xs) h = (dummy.inside x (and-left (member d x) (list_all (member d) xs) h), filled-fits j xs (and-right (member d x) (list_all (member d) xs) h))

  module _ (f : Grid) where
    abbrev Filled : ℤ → ℤ → Type 0
    Filled k c = f (k ∷ []) ≡ Some c

    dummy-goes : but_dummy d m m ≡ Some []
    dummy-goes = ap (λ b. if b then Some [] else option_map (λ v. v ∷ []) (atom_value d m)) (same_int-itself m)

    member-stays : (x : Value) → member d x ≡ true → but_dummy d m (code x) ≡ Some (x ∷ [])
    member-stays x h = ap (λ b. if b then Some [] else option_map (λ v. v ∷ []) (atom_value d (code x))) (dummy.apart x h) ∙ ap (option_map (λ v. v ∷ [])) (dummy.back x h)

    abbrev lists : ℕ → List Value → List (List Value)
    lists j xs = map (λ x. x ∷ []) xs ++ replicate j []

    lists-append : (j : ℕ) (xs : List Value) → append_all (lists j xs) ≡ xs
    lists-append zero [] = refl
    lists-append (suc j) [] = lists-append j []
    lists-append j (x ∷ xs) = ap (λ l. x ∷ l) (lists-append j xs)

    filled-values : (ks : List ℤ) (j : ℕ) (xs : List Value) → list_all (member d) xs ≡ true → Along ks (filled j xs) Filled → each_of ks (λ k. and_then (f (k ∷ [])) (but_dummy d m)) ≡ Some (lists j xs)
    filled-values [] zero [] h a = refl
    filled-values [] (suc j) [] h a = absurd a
    filled-values [] j (x ∷ xs) h a = absurd a
    filled-values (k ∷ ks) zero [] h a = absurd a
    filled-values (k ∷ ks) (suc j) [] h a =
        ap (λ o. and_then (and_then o (but_dummy d m)) (λ y. option_map (λ ys. y ∷ ys) (each_of ks (λ k. and_then (f (k ∷ [])) (but_dummy d m))))) a.0
        ∙ ap (λ o. and_then o (λ y. option_map (λ ys. y ∷ ys) (each_of ks (λ k. and_then (f (k ∷ [])) (but_dummy d m))))) dummy-goes
        ∙ ap (option_map (λ ys. [] ∷ ys)) (filled-values ks j [] h a.1)
    filled-values (k ∷ ks) j (x ∷ xs) h a =
        ap (λ o. and_then (and_then o (but_dummy d m)) (λ y. option_map (λ ys. y ∷ ys) (each_of ks (λ k. and_then (f (k ∷ [])) (but_dummy d m))))) a.0
        ∙ ap (λ o. and_then o (λ y. option_map (λ ys. y ∷ ys) (each_of ks (λ k. and_then (f (k ∷ [])) (but_dummy d m))))) (member-stays x (and-left (member d x) (list_all (member d) xs) h))
        ∙ ap (option_map (λ ys. (x ∷ []) ∷ ys)) (filled-values ks j xs (and-right (member d x) (list_all (member d) xs) h) a.1)

    held-not : (k : ℤ) → f (k ∷ []) ≡ Some m → holds_member m f k ≡ false
    held-not k e = ap (λ o. is_some_and o (λ n. not (same_int m n))) e ∙ ap not (same_int-itself m)

    held-so : (k : ℤ) (x : Value) → member d x ≡ true → f (k ∷ []) ≡ Some (code x) → holds_member m f k ≡ true
    held-so k x h e = ap (λ o. is_some_and o (λ n. not (same_int m n))) e ∙ ap not (dummy.apart x h)

    held-many : (ks : List ℤ) (j : ℕ) (xs : List Value) → list_all (member d) xs ≡ true → Along ks (filled j xs) Filled → length (filter (holds_member m f) ks) ≡ length xs
    held-many [] zero [] h a = refl
    held-many [] (suc j) [] h a = absurd a
    held-many [] j (x ∷ xs) h a = absurd a
    held-many (k ∷ ks) zero [] h a = absurd a
    held-many (k ∷ ks) (suc j) [] h a = ap (λ b. length (if b then k ∷ filter (holds_member m f) ks else filter (holds_member m f) ks)) (held-not k a.0) ∙ held-many ks j [] h a.1
    held-many (k ∷ ks) j (x ∷ xs) h a =
        ap (λ b. length (if b then k ∷ filter (holds_member m f) ks else filter (holds_member m f) ks)) (held-so k x (and-left (member d x) (list_all (member d) xs) h) a.0)
        ∙ ap suc (held-many ks j xs (and-right (member d x) (list_all (member d) xs) h) a.1)

    -- a slot before one that holds no member
    next-free : (a n j : ℕ) → Along (run_from (suc a) n) (replicate j m) Filled → f (pos (suc a + n) ∷ []) ≡ None → holds_member m f (pos a +ℤ pos 1) ≡ false
    next-free a zero zero h e = let q : a + 1 ≡ suc a + 0 = omega arith in ap (λ o. is_some_and o (λ n. not (same_int m n))) (ap (λ k. f (pos k ∷ [])) q ∙ e)
    next-free a zero (suc j) h e = absurd h
    next-free a (suc n) zero h e = absurd h
    next-free a (suc n) (suc j) h e = let q : a + 1 ≡ suc a = omega arith in ap (λ k. holds_member m f (pos k)) q ∙ held-not (pos (suc a)) h.0

    end-next : (a n : ℕ) → f (pos (a + suc n) ∷ []) ≡ None → f (pos (suc a + n) ∷ []) ≡ None
    end-next a n e = let q : suc a + n ≡ a + suc n = omega arith in ap (λ k. f (pos k ∷ [])) q ∙ e

    abbrev step : ℤ → Bool
    step k = not (holds_member m f (k +ℤ pos 1)) || slot_below f k (k +ℤ pos 1)

    filled-rise : (a n j : ℕ) (xs : List Value) → list_all (member d) xs ≡ true → rises itself xs ≡ true → Along (run_from a n) (filled j xs) Filled → f (pos (a + n) ∷ []) ≡ None → list_all step (run_from a n) ≡ true
    filled-rise a zero j xs h r l e = refl
    filled-rise a (suc n) zero [] h r l e = absurd l
    filled-rise a (suc n) (suc j) [] h r l e =
        and-both (step (pos a)) _ (ap (λ b. not b || slot_below f (pos a) (pos a +ℤ pos 1)) (next-free a n j l.1 (end-next a n e))) (filled-rise (suc a) n j [] h r l.1 (end-next a n e))
    filled-rise a (suc n) j (x ∷ []) h r l e =
        and-both (step (pos a)) _ (ap (λ b. not b || slot_below f (pos a) (pos a +ℤ pos 1)) (next-free a n j l.1 (end-next a n e))) (filled-rise (suc a) n j [] refl refl l.1 (end-next a n e))
    filled-rise a (suc zero) j (x ∷ y ∷ xs) h r l e = absurd l.1
    filled-rise a (suc (suc n)) j (x ∷ y ∷ xs) h r l e =
        let q : a + 1 ≡ suc a = omega arith in
        let mx = and-left (member d x) (list_all (member d) (y ∷ xs)) h in
        let my = and-left (member d y) (list_all (member d) xs) (and-right (member d x) (list_all (member d) (y ∷ xs)) h) in
        and-both (step (pos a)) _
        (ap (λ b. not (holds_member m f (pos a +ℤ pos 1)) || b)
        (ap (λ o. is_some_and o (λ u. is_some_and (f ((pos a +ℤ pos 1) ∷ [])) (λ v. int_lt u v))) l.0
        ∙ ap (λ k. is_some_and (f (pos k ∷ [])) (λ v. int_lt (code x) v)) q ∙ ap (λ o. is_some_and o (λ v. int_lt (code x) v)) l.1.0
        ∙ dummy.low x y mx my (and-left (below x y) (rises itself (y ∷ xs)) r))
        ∙ or-yes (not (holds_member m f (pos a +ℤ pos 1))))
        (filled-rise (suc a) (suc n) j (y ∷ xs) (and-right (member d x) (list_all (member d) (y ∷ xs)) h) (and-right (below x y) (rises itself (y ∷ xs)) r) l.1 (end-next a (suc n) e))

  -- ---- the layer

  module _ (ks : List Attribute) (room : SetRoom ks d) where
    abbrev S : ℕ
    S = slots_of_set ks d

    abbrev dummy_own : List OwnTable
    dummy_own = widened_table (one_to S ∷ []) (with_number (dummy_of d) (as_numbers d)) ∷ []

    abbrev dummy_tables : Value → List (Option Slot) → Tables
    dummy_tables v ss =
        elim (dummy_of d) [
          | None ↦ []
          | Some m ↦ row_of (one_to S) (map code (items_of v) ++ replicate (S - length (items_of v)) m) ∷ []
        ]

    abbrev dummy_built : Cells → List (List Value) → Option Value
    dummy_built c vss =
        only_grid c (λ f. and_then (dummy_of d) (λ m. option_map (λ ls. set_of (append_all ls)) (each_of (one_to S) (λ k. and_then (f (k ∷ [])) (but_dummy d m)))))

    abbrev dummy_asked : Cells → List (List Value) → Bool
    dummy_asked c vss = is_some_and (dummy_of d) (λ m. dummies_rise S m (first_grid c) && set_attributes_hold ks (members_held S m (first_grid c)))

    abbrev dummy_tidy : Cells → Bool
    dummy_tidy c = is_some_and (dummy_of d) (λ m. is_some_and (each_of (one_to S) (λ k. first_grid c (k ∷ []))) (dummies_last m))

    alone : (xs : List Value) → SetMember ks d xs → Alone ReprKind.ExplicitVarSizeWithDummy (sets ks d) dummy_own false false dummy_tables dummy_built dummy_asked dummy_tidy (node a_set (of_list xs))
    alone xs h = record {
      exact = subst (λ ts. AllExact (own_axes dummy_own) (cells_of ts)) (sym tables) (exact, tt);
      fit = ap (λ ts. own_cells_fit dummy_own (cells_of ts)) tables ∙ ap (λ o. every_cell (one_to S ∷ []) (is_cell (with_number o (as_numbers d))) f && true) dummy.is ∙ ap (λ b. b && true) fit;
      built = ap (λ ts. dummy_built (cells_of ts) []) tables ∙ ap (λ o. and_then o (λ m. option_map (λ ls. set_of (append_all ls)) (each_of (one_to S) (λ k. and_then (f (k ∷ [])) (but_dummy d m))))) dummy.is
          ∙ ap (option_map (λ ls. set_of (append_all ls))) (filled-values f (one_to S) j xs h.inside along) ∙ ap (λ l. Some (set_of l)) (lists-append f j xs) ∙ ap (λ l. Some (node a_set (of_list l))) (sorted_once-itself xs h.rise);
      asked = ap (λ ts. dummy_asked (cells_of ts) []) tables ∙ ap (λ o. is_some_and o (λ m. dummies_rise S m f && set_attributes_hold ks (members_held S m f))) dummy.is
          ∙ and-both (dummies_rise S m f) (set_attributes_hold ks (members_held S m f)) (filled-rise f 1 S j xs h.inside h.rise along end)
          (ap (set_attributes_hold ks) (held-many f (one_to S) j xs h.inside along) ∙ h.attributes);
    }
      where
        j : ℕ
        j = S - length xs

        enough : length xs ≤ S
        enough = set-room ks d room xs h.rise h.inside h.attributes

        f : Grid
        f = item_in (one_to S ∷ []) (filled j xs)

        tables : dummy_tables (node a_set (of_list xs)) [] ≡ row_of (one_to S) (filled j xs) ∷ []
        tables =
            ap (λ l. elim (dummy_of d) [ None ↦ [] | Some m ↦ row_of (one_to S) (map code l ++ replicate (S - length l) m) ∷ [] ]) (to_list-of_list xs)
            ∙ ap (λ o. elim o [ None ↦ [] | Some m ↦ row_of (one_to S) (map code xs ++ replicate (S - length xs) m) ∷ [] ]) dummy.is

        long : length (filled j xs) ≡ volume (one_to S ∷ [])
        long = let a = filled-length j xs in let b : length (one_to S) ≡ S = run-length 1 S in let c : volume (one_to S ∷ []) ≡ length (one_to S) = mul-one (length (one_to S)) in omega (arith, a, b, c, enough)

        exact : Exact (one_to S ∷ []) f
        exact = exact-items (one_to S ∷ []) (filled j xs) long

        end : f (pos (1 + S) ∷ []) ≡ None
        end = none-of (f (pos (1 + S) ∷ [])) (exact (pos (1 + S) ∷ []) ∙ no-slot S)

        places : Along (lists_of (one_to S ∷ [])) (filled j xs) (λ p c. f p ≡ Some c)
        places = items-along (one_to S ∷ []) (slots-differ S) (filled j xs) long

        along : Along (one_to S) (filled j xs) (Filled f)
        along = left-under as_place (one_to S) (filled j xs) (λ p c. f p ≡ Some c) (subst (λ l. Along l (filled j xs) (λ p c. f p ≡ Some c)) (slots-are (one_to S)) places)

        fit : every_cell (one_to S ∷ []) (is_cell (with_number (Some m) (as_numbers d))) f ≡ true
        fit =
            index-cell (one_to S ∷ []) (is_cell (with_number (Some m) (as_numbers d))) f
            (places-index (one_to S ∷ []) (λ js. is_some_and (f js) (is_cell (with_number (Some m) (as_numbers d))) ≡ true)
            (all-of-list (lists_of (one_to S ∷ [])) (λ js. is_some_and (f js) (is_cell (with_number (Some m) (as_numbers d))))
            (along-all (λ js. is_some_and (f js) (is_cell (with_number (Some m) (as_numbers d)))) (lists_of (one_to S ∷ [])) (filled j xs)
            (go (lists_of (one_to S ∷ [])) (filled j xs) (filled-fits j xs h.inside) places))))
          where
            go : (ps : List (List ℤ)) (cs : List ℤ) → AllOf cs (λ k. is_cell (with_number (Some m) (as_numbers d)) k ≡ true) → Along ps cs (λ p c. f p ≡ Some c) → Along ps cs (λ p c. is_some_and (f p) (is_cell (with_number (Some m) (as_numbers d))) ≡ true)
            go [] [] a b = tt
            go (p ∷ ps) (c ∷ cs) a b = (ap (λ o. is_some_and o (is_cell (with_number (Some m) (as_numbers d)))) b.0 ∙ a.0, go ps cs a.1 b.1)
            go [] (c ∷ cs) a b = absurd b
            go (p ∷ ps) [] a b = absurd b

    -- Members of sets over a domain with this dummy.
    pub of-dummy-members : MembersHaveCells (repr ReprKind.ExplicitVarSizeWithDummy no_reprs) (sets ks d)
    of-dummy-members = record {
      wide = alone-wide ReprKind.ExplicitVarSizeWithDummy (sets ks d) dummy_own false false dummy_tables dummy_built dummy_asked dummy_tidy refl refl;
      of_member = λ v h. let x = set-member ks d v h in subst (HasCells (repr ReprKind.ExplicitVarSizeWithDummy no_reprs) (sets ks d)) (sym x.1)
          (alone-cells ReprKind.ExplicitVarSizeWithDummy (sets ks d) dummy_own false false dummy_tables dummy_built dummy_asked dummy_tidy refl refl (node a_set (of_list x.0)) (alone x.0 x.2));
    }

-- Members of sets in slots with a dummy.
pub dummy-members : (d : Domain) (ks : List Attribute) → HasDummy d → SetRoom ks d → MembersHaveCells (repr ReprKind.ExplicitVarSizeWithDummy no_reprs) (sets ks d)
dummy-members (integers (s ∷ [])) ks h room = go s.high refl h
  where
    go : (o : Option ℤ) → s.high ≡ o → IsTrue (is_some o) → MembersHaveCells (repr ReprKind.ExplicitVarSizeWithDummy no_reprs) (sets ks (integers (s ∷ [])))
    go None q h = cc
    go (Some b) q h = of-dummy-members (integers (s ∷ [])) (b +ℤ pos 1) (integers-dummy s b q) ks room
dummy-members (named t n) ks h room = of-dummy-members (named t n) (pos n +ℤ pos 1) (named-dummy t n) ks room
dummy-members (integers []) ks h room = absurd h
dummy-members (integers (s ∷ r ∷ ss)) ks h room = absurd h
dummy-members _ ks h room = absurd h
