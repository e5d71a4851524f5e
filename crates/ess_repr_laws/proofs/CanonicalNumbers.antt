-- Partitions as the number of each member's part are right.
use Rattle.std.proofs.Common.{◌≡◌, refl, sym, ap, ◌∙◌, subst, ℕ, ◌+◌, ◌≤◌, ◌<◌, Bool, true, false, ◌&&◌, ◌||◌, not, if◌then◌else◌, List, [], ◌∷◌, map, length, ℤ, pos, negsuc, ◌+ℤ◌, ◌≤ℤ◌, Option, Some, None, int_le, int_lt, nat_le, arith, ◌⊎◌, inl, inr}
use Rattle.std.proofs.lemmas.Bool.{leb-true}
use Rattle.std.specs.List.{list_all, list_any}
use Rattle.ess_semantics.specs.declared.words.ReprKind.{ReprKind}
use Rattle.ess_semantics.specs.Lists.{and_then, each_of, is_empty, is_some_and, or_default}
use Rattle.ess_semantics.specs.Values.{a_partition, Value, node, to_list, of_list, itself, items_of}
use Rattle.ess_semantics.specs.Order.{same, same_int}
use Rattle.ess_semantics.specs.Collections.{holds, sorted_once, set_of, rises, has_empty_part, has_overlap, partition_of}
use Rattle.ess_semantics.specs.Numbers.{one_to}
use Rattle.ess_semantics.specs.Trees.{Repr, repr, no_reprs}
use Rattle.ess_semantics.specs.Domains.{Attribute, Domain, partitions, member_list, members, between}
use Rattle.ess_semantics.specs.Attributes.{partition_attributes_hold}
use Rattle.ess_semantics.specs.Membership.{is_part, covers, member}
use Rattle.ess_semantics.specs.Sizes.{bound}
use Rattle.ess_semantics.specs.Tables.{code, is_cell}
use Rattle.ess_semantics.specs.Cells.{Grid, Cells, every_cell, row, rows}
use Rattle.ess_semantics.specs.Layers.{codes_of, up_to}
use Rattle.ess_semantics.specs.PartitionLayers.{is_partition_of, members_numbered, is_part_number, partition_from_numbers, numbered_parts, is_next_after, numbered_by_least, partition_occurrence_layer}
use Rattle.ess_semantics.specs.Representations.{value_of_cells}
use Rattle.ess_semantics.specs.Declarations.{axes_of}
use Rattle.ess_semantics.specs.CanonicalTest.{canonical}
use Rattle.ess_semantics.specs.Tidy.{tidy_cells}
use Rattle.ess_repr_laws.specs.CanonicalTables.{Right}
use Rattle.ess_semantics.specs.Atoms.{Listed}
use Rattle.ess_semantics.proofs.Tests.{and-left, and-right, and-both, or-yes, some-and, not-true}
use Rattle.ess_semantics.proofs.Orders.{to_list-of_list, same_int-equal, same_int-itself, same-itself}
use Rattle.ess_semantics.proofs.Sorting.{holds-sorted_once, sorted_once-rises, all-sorted_once, sorted_once-length, Distinct}
use Rattle.ess_repr_laws.proofs.RowsOfCells.{EachOf, agree-row}
use Rattle.ess_repr_laws.proofs.SlotsUsed.{all-map, marker-cell}
use Rattle.ess_repr_laws.proofs.CanonicalParts.{parts-of}
use Rattle.ess_repr_laws.proofs.CanonicalPlaces.{AllOf, all-of-list, all-of-map}
use Rattle.ess_repr_laws.proofs.CanonicalConversions.{when-some}
use Rattle.ess_repr_laws.proofs.Arguments.{of-held}
use Rattle.ess_repr_laws.proofs.Numberings.{Before, ByLeast, one-numbering}
use Rattle.ess_semantics.proofs.Overlaps.{all_members, apart-distinct, sorted_once-apart, no-overlap, overlap-none}
use Rattle.ess_repr_laws.proofs.PartNumbers.{le-is, lt-is, found-item, numbered-holds, numbered-all, each-cell, each-of-map, parts-from, from-parts, parts-length, part-of, parts-are}

module _ (d : Domain) (ks : List Attribute) (listed : Listed d) where
  abbrev by_number : Repr
  by_number = repr ReprKind.PartitionOccurrence no_reprs

  abbrev xs : List Value
  xs = member_list d

  -- the number of a member's part
  abbrev number_of : Grid → Value → ℤ
  number_of g x = or_default (g (code x ∷ [])) (pos 0)

  abbrev part : (Value → ℤ) → ℤ → Value
  part w k = set_of (members_numbered xs (map w xs) k)

  -- the parts with the numbers 1 to n
  abbrev numbered : ℕ → (Value → ℤ) → List Value
  numbered n w = map (part w) (one_to n)

  each-code : (zs : List Value) (P : ℤ → Type 0) → AllOf zs (λ x. P (code x)) → EachOf (map code zs) P
  each-code [] P h = tt
  each-code (z ∷ zs) P h = (h.0, each-code zs P h.1)

  part-holds : (w : Value → ℤ) (k : ℤ) (v : Value) → holds (items_of (part w k)) v ≡ holds xs v && same_int (w v) k
  part-holds w k v =
      ap (λ l. holds l v) (to_list-of_list (sorted_once (members_numbered xs (map w xs) k))) ∙ holds-sorted_once (members_numbered xs (map w xs) k) v ∙ numbered-holds w xs k v

  -- numbers from cells, counted by least members
  by-least : (g : Grid) → AllOf xs (λ x. g (code x ∷ []) ≡ Some (number_of g x)) → AllOf xs (λ x. pos 1 ≤ℤ number_of g x) → numbered_by_least (codes_of d) g ≡ true → ByLeast xs (number_of g)
  by-least g cells low h =
      record {
        least = λ x k. of-held xs (λ x. pos 1 ≤ℤ number_of g x) x low k;
        next = λ x k. next' x (of-held xs (λ x. g (code x ∷ []) ≡ Some (number_of g x)) x cells k) (of-held xs (λ x. is_some_and (g (code x ∷ [])) (same_int (pos 1)) || list_any (is_next_after g (code x)) (map code xs) ≡ true) x after k);
      }
    where
      after : AllOf xs (λ x. is_some_and (g (code x ∷ [])) (same_int (pos 1)) || list_any (is_next_after g (code x)) (map code xs) ≡ true)
      after = all-of-list xs (λ x. is_some_and (g (code x ∷ [])) (same_int (pos 1)) || list_any (is_next_after g (code x)) (map code xs)) (sym (all-map (λ i. is_some_and (g (i ∷ [])) (same_int (pos 1)) || list_any (is_next_after g i) (map code xs)) code xs) ∙ h)

      next' : (x : Value) → g (code x ∷ []) ≡ Some (number_of g x) → is_some_and (g (code x ∷ [])) (same_int (pos 1)) || list_any (is_next_after g (code x)) (map code xs) ≡ true →
          (number_of g x ≡ pos 1) ⊎ ((y : Value) × (holds xs y ≡ true) × Before y x × (number_of g x ≡ number_of g y +ℤ pos 1))
      next' x c a = go (same_int (pos 1) (number_of g x)) refl (ap (λ o. is_some_and o (same_int (pos 1)) || list_any (is_next_after g (code x)) (map code xs)) (sym c) ∙ a)
        where
          above : (y : Value) → holds xs y ≡ true → is_next_after g (code x) (code y) ≡ true → Before y x × (number_of g x ≡ number_of g y +ℤ pos 1)
          above y k n =
              let b = and-left (int_lt (code y) (code x)) _ n in
              let m = and-right (int_lt (code y) (code x)) (is_some_and (g (code x ∷ [])) (λ w. is_some_and (g (code y ∷ [])) (λ u. same_int w (u +ℤ pos 1)))) n in
              let cy = of-held xs (λ x. g (code x ∷ []) ≡ Some (number_of g x)) y cells k in
              let e = ap (λ o. is_some_and o (λ w. is_some_and (g (code y ∷ [])) (λ u. same_int w (u +ℤ pos 1)))) (sym c) ∙ m in
              let f = ap (λ o. is_some_and o (λ u. same_int (number_of g x) (u +ℤ pos 1))) (sym cy) ∙ e in
              (lt-is (code y) (code x) b, same_int-equal (number_of g x) (number_of g y +ℤ pos 1) f)

          go : (b : Bool) → same_int (pos 1) (number_of g x) ≡ b → b || list_any (is_next_after g (code x)) (map code xs) ≡ true → (number_of g x ≡ pos 1) ⊎ ((y : Value) × (holds xs y ≡ true) × Before y x × (number_of g x ≡ number_of g y +ℤ pos 1))
          go true q s = inl (sym (same_int-equal (pos 1) (number_of g x) q))
          go false q s = let r = found-item xs (is_next_after g (code x)) s in let n = above r.0 r.1 r.2 in inr (r.0, r.1, n.0, n.1)

  record Numbers (f g : Grid) : Type 0 where
    n : ℕ
    count : f [] ≡ Some (pos n)
    cells : AllOf xs (λ x. g (code x ∷ []) ≡ Some (number_of g x))
    least : ByLeast xs (number_of g)
    inside : AllOf xs (λ x. is_part_number n (number_of g x) ≡ true)
    full : has_empty_part (numbered n (number_of g)) ≡ false
    apart : Distinct (all_members (numbered n (number_of g)))
    value : value_of_cells by_number (partitions ks d) (f ∷ g ∷ []) ≡ Some (node a_partition (of_list (sorted_once (numbered n (number_of g)))))
    attributes : is_partition_of ks d (to_list (of_list (sorted_once (numbered n (number_of g))))) ≡ true

  number-cell : (o : Option ℤ) (B : ℕ) → is_some_and o (is_cell (between (pos 1) (pos B))) ≡ true → (o ≡ Some (or_default o (pos 0))) × (pos 1 ≤ℤ or_default o (pos 0))
  number-cell None B h = cc
  number-cell (Some k) B h = (refl, le-is (pos 1) k (within (int_le (pos 1) k) (int_le k (pos B)) h))
    where
      within : (a b : Bool) → (a && b) || false ≡ true → a ≡ true
      within true b h = refl
      within false b h = cc

  numbers-of : (f g : Grid) → canonical by_number (partitions ks d) (f ∷ g ∷ []) ≡ true → Numbers f g
  numbers-of f g h =
      let p = parts-of (partition_occurrence_layer ks d) no_reprs (f ∷ g ∷ []) [] h in
      let fc = marker-cell (f []) (bound d) (and-left (every_cell [] (is_cell (up_to (bound d))) f) _ p.fit) in
      let gc = and-left (every_cell (codes_of d ∷ []) (is_cell (between (pos 1) (pos (bound d)))) g) true (and-right (every_cell [] (is_cell (up_to (bound d))) f) (every_cell (codes_of d ∷ []) (is_cell (between (pos 1) (pos (bound d)))) g && true) p.fit) in
      let each = all-of-map xs (λ x. is_some_and (g (code x ∷ [])) (is_cell (between (pos 1) (pos (bound d)))) ≡ true) (λ x. (g (code x ∷ []) ≡ Some (number_of g x)) × (pos 1 ≤ℤ number_of g x)) (λ x c. number-cell (g (code x ∷ [])) (bound d) c)
      (all-of-list xs (λ x. is_some_and (g (code x ∷ [])) (is_cell (between (pos 1) (pos (bound d))))) (sym (all-map (λ k. is_some_and (g (k ∷ [])) (is_cell (between (pos 1) (pos (bound d))))) code xs) ∙ gc)) in
      let cells = all-of-map xs (λ x. (g (code x ∷ []) ≡ Some (number_of g x)) × (pos 1 ≤ℤ number_of g x)) (λ x. g (code x ∷ []) ≡ Some (number_of g x)) (λ x c. c.0) each in
      let low = all-of-map xs (λ x. (g (code x ∷ []) ≡ Some (number_of g x)) × (pos 1 ≤ℤ number_of g x)) (λ x. pos 1 ≤ℤ number_of g x) (λ x c. c.1) each in
      let found : numbered_parts d (f ∷ g ∷ []) ≡ partition_from_numbers xs (map (number_of g) xs) (pos fc.0) =
      ap (λ o. and_then o (λ n. and_then (each_of xs (λ x. g (code x ∷ []))) (λ ws. partition_from_numbers xs ws n))) fc.1
      ∙ ap (λ o. and_then o (λ ws. partition_from_numbers xs ws (pos fc.0))) (each-cell xs (λ x. g (code x ∷ [])) (number_of g) cells) in
      let b = numbered_by_least (codes_of d) g in
      let s = some-and (numbered_parts d (f ∷ g ∷ [])) (λ v. is_partition_of ks d (items_of v)) (and-right b (is_some_and (numbered_parts d (f ∷ g ∷ [])) (λ v. is_partition_of ks d (items_of v))) p.attributes) in
      let i = if-some (list_all (is_part_number fc.0) (map (number_of g) xs)) (partition_of (numbered fc.0 (number_of g))) s.0 (sym found ∙ s.1) in
      let w = when-some (not (has_empty_part (numbered fc.0 (number_of g))) && not (has_overlap (numbered fc.0 (number_of g)))) (node a_partition (of_list (sorted_once (numbered fc.0 (number_of g))))) s.0 i.1 in
      let full = and-left (not (has_empty_part (numbered fc.0 (number_of g)))) (not (has_overlap (numbered fc.0 (number_of g)))) w.0 in
      let apart = and-right (not (has_empty_part (numbered fc.0 (number_of g)))) (not (has_overlap (numbered fc.0 (number_of g)))) w.0 in
      record {
        n = fc.0;
        count = fc.1;
        cells = cells;
        least = by-least g cells low (and-left b _ p.attributes);
        inside = each-of-map (number_of g) (is_part_number fc.0) xs i.0;
        full = not-true (has_empty_part (numbered fc.0 (number_of g))) full;
        apart = no-overlap (numbered fc.0 (number_of g)) apart;
        value = s.1 ∙ ap Some (sym w.1);
        attributes = ap (λ v. is_partition_of ks d (items_of v)) w.1 ∙ s.2;
      }
    where
      if-some : {A : Type 0} (b : Bool) (o : Option A) (x : A) → (if b then o else None) ≡ Some x → (b ≡ true) × (o ≡ Some x)
      if-some true o x e = (refl, e)
      if-some false o x e = cc

  too-many : (f g g' : Grid) (gs : Cells) → canonical by_number (partitions ks d) (f ∷ g ∷ g' ∷ gs) ≡ true → ⊥
  too-many f g g' gs h = let p = parts-of (partition_occurrence_layer ks d) no_reprs (f ∷ g ∷ []) (g' ∷ gs) h in let z : false ≡ true = p.inside in cc

  too-few : (f : Grid) → canonical by_number (partitions ks d) (f ∷ []) ≡ true → ⊥
  too-few f h =
      let p = parts-of (partition_occurrence_layer ks d) no_reprs (f ∷ []) [] h in
      let z : false ≡ true = and-right (every_cell [] (is_cell (up_to (bound d))) f) false p.fit in cc

  sound' : (c : Cells) → canonical by_number (partitions ks d) c ≡ true → (v : Value) × (value_of_cells by_number (partitions ks d) c ≡ Some v)
  sound' [] h = cc
  sound' (f ∷ []) h = absurd (too-few f h)
  sound' (f ∷ g ∷ []) h = let x = numbers-of f g h in (node a_partition (of_list (sorted_once (numbered x.n (number_of g)))), x.value)
  sound' (f ∷ g ∷ g' ∷ gs) h = absurd (too-many f g g' gs h)

  -- one partition
  module _ (f g f' g' : Grid) (x : Numbers f g) (y : Numbers f' g') (e : sorted_once (numbered x.n (number_of g)) ≡ sorted_once (numbered y.n (number_of g'))) where
    same-count : x.n ≡ y.n
    same-count =
        sym (parts-length (part (number_of g)) 1 x.n)
        ∙ sym (sorted_once-length (numbered x.n (number_of g)) (apart-distinct (numbered x.n (number_of g)) x.full x.apart)) ∙ ap length e
        ∙ sorted_once-length (numbered y.n (number_of g')) (apart-distinct (numbered y.n (number_of g')) y.full y.apart)
        ∙ parts-length (part (number_of g')) 1 y.n

    -- what shares a part shares it in the other numbering
    same-part : (u v : Value) → holds xs u ≡ true → holds xs v ≡ true → number_of g u ≡ number_of g v → number_of g' u ≡ number_of g' v
    same-part u v h k q = go (number_of g u) refl (of-held xs (λ z. is_part_number x.n (number_of g z) ≡ true) u x.inside h)
      where
        in-other : (m : ℤ) → number_of g u ≡ m → (r : (j : ℕ) × (1 ≤ j) × (j < 1 + y.n) × (part (number_of g') (pos j) ≡ part (number_of g) m)) → number_of g' u ≡ number_of g' v
        in-other m c r =
            same-int-equal' u h c ∙ sym (same-int-equal' v k (sym q ∙ c))
          where
            same-int-equal' : (z : Value) → holds xs z ≡ true → number_of g z ≡ m → number_of g' z ≡ pos r.0
            same-int-equal' z hz cz =
                same_int-equal (number_of g' z) (pos r.0)
                (and-right (holds xs z) (same_int (number_of g' z) (pos r.0))
                (sym (part-holds (number_of g') (pos r.0) z) ∙ ap (λ p. holds (items_of p) z) r.3 ∙ part-holds (number_of g) m z
                ∙ and-both (holds xs z) (same_int (number_of g z) m) hz (ap (λ w. same_int w m) cz ∙ same_int-itself m)))

        go : (m : ℤ) → number_of g u ≡ m → is_part_number x.n (number_of g u) ≡ true → number_of g' u ≡ number_of g' v
        go (negsuc m) c p = let z : int_le (pos 1) (negsuc m) && int_le (negsuc m) (pos x.n) ≡ true = ap (is_part_number x.n) (sym c) ∙ p in cc
        go (pos m) c p =
            let z : nat_le 1 m && nat_le m x.n ≡ true = ap (is_part_number x.n) (sym c) ∙ p in
            let lo = leb-true 1 m (and-left (nat_le 1 m) (nat_le m x.n) z) in
            let hi = leb-true m x.n (and-right (nat_le 1 m) (nat_le m x.n) z) in
            let there = parts-from (part (number_of g)) 1 x.n m lo (omega arith) in
            let also : holds (numbered y.n (number_of g')) (part (number_of g) (pos m)) ≡ true =
            sym (holds-sorted_once (numbered y.n (number_of g')) (part (number_of g) (pos m))) ∙ ap (λ l. holds l (part (number_of g) (pos m))) (sym e)
            ∙ holds-sorted_once (numbered x.n (number_of g)) (part (number_of g) (pos m)) ∙ there in
            in-other (pos m) c (from-parts (part (number_of g')) 1 y.n (part (number_of g) (pos m)) also)

  unique' : (c c' : Cells) → canonical by_number (partitions ks d) c ≡ true → canonical by_number (partitions ks d) c' ≡ true →
      value_of_cells by_number (partitions ks d) c ≡ value_of_cells by_number (partitions ks d) c' → rows (axes_of by_number (partitions ks d)) c ≡ rows (axes_of by_number (partitions ks d)) c'
  unique' [] c' h h' q = cc
  unique' (f ∷ []) c' h h' q = absurd (too-few f h)
  unique' (f ∷ g ∷ k ∷ gs) c' h h' q = absurd (too-many f g k gs h)
  unique' (f ∷ g ∷ []) [] h h' q = cc
  unique' (f ∷ g ∷ []) (f' ∷ []) h h' q = absurd (too-few f' h')
  unique' (f ∷ g ∷ []) (f' ∷ g' ∷ k ∷ gs) h h' q = absurd (too-many f' g' k gs h')
  unique' (f ∷ g ∷ []) (f' ∷ g' ∷ []) h h' q =
      let x = numbers-of f g h in
      let y = numbers-of f' g' h' in
      let ps = numbered x.n (number_of g) in
      let ps' = numbered y.n (number_of g') in
      let w : Some (node a_partition (of_list (sorted_once ps))) ≡ Some (node a_partition (of_list (sorted_once ps'))) = sym x.value ∙ q ∙ y.value in
      let l : of_list (sorted_once ps) ≡ of_list (sorted_once ps') = cc in
      let e : sorted_once ps ≡ sorted_once ps' = sym (to_list-of_list (sorted_once ps)) ∙ ap to_list l ∙ to_list-of_list (sorted_once ps') in
      let one = one-numbering xs (number_of g) (number_of g') x.least y.least (same-part f g f' g' x y e) (same-part f' g' f g y x (sym e)) in
      ap (λ o. (or_default o (pos 0) ∷ []) ∷ row (codes_of d ∷ []) g ∷ []) (x.count ∙ ap (λ n. Some (pos n)) (same-count f g f' g' x y e) ∙ sym y.count)
      ∙ ap (λ r. (or_default (f' []) (pos 0) ∷ []) ∷ r ∷ [])
      (agree-row (codes_of d ∷ []) g g' (each-code xs (λ k. g (k ∷ []) ≡ g' (k ∷ [])) (held-all xs (λ z. g (code z ∷ []) ≡ g' (code z ∷ []))
      (λ z k. of-held xs (λ z. g (code z ∷ []) ≡ Some (number_of g z)) z x.cells k ∙ ap Some (one z k) ∙ sym (of-held xs (λ z. g' (code z ∷ []) ≡ Some (number_of g' z)) z y.cells k)))))
    where
      held-all : (zs : List Value) (P : Value → Type 0) → ((z : Value) → holds zs z ≡ true → P z) → AllOf zs P
      held-all [] P h = tt
      held-all (z ∷ zs) P h = (h z (ap (λ b. b || holds zs z) (same-itself z)), held-all zs P (λ u k. h u (ap (λ b. same z u || b) k ∙ or-yes (same z u))))

  tidies' : (c : Cells) → canonical by_number (partitions ks d) c ≡ true → tidy_cells by_number (partitions ks d) c ≡ true
  tidies' [] h = cc
  tidies' (f ∷ []) h = absurd (too-few f h)
  tidies' (f ∷ g ∷ k ∷ gs) h = absurd (too-many f g k gs h)
  tidies' (f ∷ g ∷ []) h =
      let x = numbers-of f g h in
      let ps = numbered x.n (number_of g) in
      let l = to_list (of_list (sorted_once ps)) in
      and-both (is_some_and (value_of_cells by_number (partitions ks d) (f ∷ g ∷ [])) (member (partitions ks d))) true
      (ap (λ o. is_some_and o (member (partitions ks d))) x.value
      ∙ and-both (rises itself l && list_all (is_part (member d)) l && not (has_overlap l) && covers (members d) l) (partition_attributes_hold ks l)
      (and-both (rises itself l && list_all (is_part (member d)) l && not (has_overlap l)) (covers (members d) l)
      (ap (λ l. rises itself l && list_all (is_part (member d)) l && not (has_overlap l)) (to_list-of_list (sorted_once ps))
      ∙ and-both (rises itself (sorted_once ps) && list_all (is_part (member d)) (sorted_once ps)) (not (has_overlap (sorted_once ps)))
      (and-both (rises itself (sorted_once ps)) (list_all (is_part (member d)) (sorted_once ps)) (sorted_once-rises ps)
      (all-sorted_once (is_part (member d)) ps ∙ parts-are (member d) ps (λ p i e. is-part (number_of g) x.n p i e) x.full))
      (overlap-none (sorted_once ps) (sorted_once-apart ps (apart-distinct ps x.full x.apart) x.apart)))
      (and-left (covers (members d) l) (partition_attributes_hold ks l) x.attributes))
      (and-right (covers (members d) l) (partition_attributes_hold ks l) x.attributes)) refl
    where
      is-part : (w : Value → ℤ) (n : ℕ) (p : Value) → holds (numbered n w) p ≡ true → not (is_empty (items_of p)) ≡ true → is_part (member d) p ≡ true
      is-part w n p i e =
          let r = from-parts (part w) 1 n p i in
          subst (λ q. is_part (member d) q ≡ true) r.3
          (part-of (member d) (members_numbered xs (map w xs) (pos r.0)) (numbered-all (member d) w xs (pos r.0) listed.members) (ap (λ q. not (is_empty (items_of q))) r.3 ∙ e))

  -- Partitions by part numbers are right.
  pub partition-occurrence-right : Right by_number (partitions ks d)
  partition-occurrence-right = record { sound = sound'; unique = unique'; tidies = tidies' }
