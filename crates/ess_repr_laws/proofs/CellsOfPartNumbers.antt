-- Members of partitions as the number of each member's part.
use Rattle.std.proofs.Common.{◌≡◌, refl, sym, ap, ◌∙◌, subst, ℕ, ◌+◌, ◌≤◌, ◌<◌, Bool, true, false, ◌&&◌, ◌||◌, if◌then◌else◌, List, [], ◌∷◌, map, length, ℤ, pos, ◌+ℤ◌, Option, Some, None, int_lt, nat_le, arith, le_refl, ◌⊎◌, inl, inr}
use Rattle.std.proofs.lemmas.Bool.{le-leb}
use Rattle.std.specs.List.{list_all, list_any}
use Rattle.ess_semantics.specs.declared.words.ReprKind.{ReprKind}
use Rattle.ess_semantics.specs.Lists.{and_then, each_of, is_some_and, list_or_none}
use Rattle.ess_semantics.specs.Values.{a_set, a_partition, Value, node, to_list, of_list, items_of}
use Rattle.ess_semantics.specs.Order.{orders, same, same_int}
use Rattle.ess_semantics.specs.Collections.{holds, sorted_once, set_of, partition_of}
use Rattle.ess_semantics.specs.Numbers.{run_from}
use Rattle.ess_semantics.specs.Trees.{repr, no_reprs}
use Rattle.ess_semantics.specs.Domains.{Attribute, Domain, partitions, members, member_list, between}
use Rattle.ess_semantics.specs.Attributes.{partition_attributes_hold}
use Rattle.ess_semantics.specs.Membership.{is_part, covers, member}
use Rattle.ess_semantics.specs.Sizes.{bound}
use Rattle.ess_semantics.specs.Tables.{Tables, code, one_cell, row_of, cell_at, is_cell}
use Rattle.ess_semantics.specs.Cells.{Grid, Cells, Axes, other_grids, first_grid, every_cell}
use Rattle.ess_semantics.specs.Layers.{OwnTable, Slot, codes_of, up_to, fixed_table, widened_table, always_tidy}
use Rattle.ess_semantics.specs.PartitionLayers.{is_partition_of, members_numbered, is_part_number, partition_from_numbers, numbered_parts, is_next_after, numbered_by_least, part_number}
use Rattle.ess_semantics.proofs.Tests.{and-left, and-right, and-both, or-yes, both-ways}
use Rattle.ess_semantics.proofs.Orders.{orders_exact, same_int-itself, same-itself, same-equal, to_list-of_list, of_list-to_list, equal-of}
use Rattle.ess_semantics.proofs.Sorting.{all-holds, one-sorted-list, sorted_once-rises, holds-sorted_once}
use Rattle.ess_repr_laws.proofs.CanonicalPlaces.{AllOf}
use Rattle.ess_semantics.proofs.MemberLists.{atom-listed}
use Rattle.ess_repr_laws.proofs.Arguments.{Arguments, atom-arguments, of-held}
use Rattle.ess_repr_laws.proofs.TablesAndCells.{AxesDiffer}
use Rattle.ess_semantics.proofs.Overlaps.{all_members, no-overlap}
use Rattle.ess_repr_laws.proofs.PartNumbers.{numbered-holds, each-cell}
use Rattle.ess_repr_laws.proofs.ExactCells.{exact-items}
use Rattle.ess_repr_laws.proofs.SideBySide.{Along}
use Rattle.ess_repr_laws.proofs.CellsOfMembers.{HasCells, MembersHaveCells}
use Rattle.ess_repr_laws.proofs.CellsWithoutChildren.{Alone, alone-wide, alone-cells}
use Rattle.ess_repr_laws.proofs.CellsOfOccurrences.{atom-axis}
use Rattle.ess_repr_laws.proofs.CompleteLists.{atom-complete}
use Rattle.ess_repr_laws.proofs.ArgumentTables.{argument-exact, argument-cells, argument-fit}
use Rattle.ess_repr_laws.proofs.Parts.{PartitionMember, partition-member, part-of, all-inside, parts-most, partition-again}
use Rattle.ess_repr_laws.specs.Finite.{FiniteAtom, Bounded}
use Rattle.ess_repr_laws.proofs.MemberNumbers.{Earlier, HasNumber, earlier, low-codes, number-range, part-numbers}

-- ---- the layer

module _ (d : Domain) (ks : List Attribute) (finite : FiniteAtom d) (bounded : Bounded d) where
  abbrev axes : Axes
  axes = codes_of d ∷ []

  abbrev index : Value → List ℤ
  index x = code x ∷ []

  abbrev all : List Value
  all = member_list d

  args : Arguments d axes index
  args = atom-arguments d (atom-listed d finite.0)

  differ : AxesDiffer axes
  differ = (atom-axis d finite.0, tt)

  abbrev numbers_own : List OwnTable
  numbers_own = fixed_table [] (up_to (bound d)) ∷ widened_table (codes_of d ∷ []) (between (pos 1) (pos (bound d))) ∷ []

  abbrev numbers_tables : Value → List (Option Slot) → Tables
  numbers_tables v ss = one_cell (pos (length (items_of v))) ∷ row_of (codes_of d) (map (part_number 1 (items_of v)) (member_list d)) ∷ []

  abbrev numbers_built : Cells → List (List Value) → Option Value
  numbers_built c vss = numbered_parts d c

  abbrev numbers_asked : Cells → List (List Value) → Bool
  numbers_asked c vss = numbered_by_least (codes_of d) (first_grid (other_grids c)) && is_some_and (numbered_parts d c) (λ v. is_partition_of ks d (items_of v))

  module _ (ps : List Value) (m : PartitionMember ks d ps) where
    abbrev N : Value → ℤ
    N x = part_number 1 (to_list (of_list ps)) x

    items : to_list (of_list ps) ≡ ps
    items = to_list-of_list ps

    number-is : (x : Value) → N x ≡ part_number 1 ps x
    number-is x = ap (λ l. part_number 1 l x) items

    abbrev g : Grid
    g = cell_at (row_of (codes_of d) (map N all))

    cells : AllOf all (λ x. g (index x) ≡ Some (N x))
    cells = argument-cells d axes index args differ N

    -- the parts have the domain's members
    covered : (v : Value) → holds (all_members ps) v ≡ holds all v
    covered v = both-ways (holds (all_members ps) v) (holds all v) (λ h. atom-complete d finite v (all-holds (member d) (all_members ps) v (all-inside (member d) ps m.parts) h)) (λ h. there (members d) refl m.whole h)
      where
        there : (o : Option (List Value)) → members d ≡ o → covers o ps ≡ true → holds all v ≡ true → holds (all_members ps) v ≡ true
        there None q c h = cc
        there (Some vs) q c h =
            let e = orders_exact (of_list (sorted_once vs)) (of_list (sorted_once (all_members ps))) (equal-of (orders (of_list (sorted_once vs)) (of_list (sorted_once (all_members ps)))) c) in
            let l : sorted_once vs ≡ sorted_once (all_members ps) = sym (to_list-of_list (sorted_once vs)) ∙ ap to_list e ∙ to_list-of_list (sorted_once (all_members ps)) in
            sym (holds-sorted_once (all_members ps) v) ∙ ap (λ l. holds l v) (sym l) ∙ holds-sorted_once vs v ∙ ap (λ o. holds (list_or_none o) v) (sym q) ∙ h

    range : (x : Value) → holds all x ≡ true → (n : ℕ) × (N x ≡ pos n) × (1 ≤ n) × (n < 1 + length ps)
    range x h = let r = number-range 1 ps x (covered x ∙ h) in (r.0, number-is x ∙ r.1, r.2, r.3)

    most : length ps ≤ bound d
    most = parts-most ks d bounded ps m

    -- ---- the cells fit

    in-range : (x : Value) (u : ℕ) → length ps ≤ u → holds all x ≡ true → is_part_number u (N x) ≡ true
    in-range x u l h =
        let r = range x h in
        ap (is_part_number u) r.1 ∙ and-both (nat_le 1 r.0) (nat_le r.0 u) (le-leb 1 r.0 r.2) (le-leb r.0 u (let b = r.3 in omega arith))

    held-all : (zs : List Value) (P : Value → Type 0) → ((z : Value) → holds zs z ≡ true → P z) → AllOf zs P
    held-all [] P h = tt
    held-all (z ∷ zs) P h = (h z (ap (λ b. b || holds zs z) (same-itself z)), held-all zs P (λ u k. h u (ap (λ b. same z u || b) k ∙ or-yes (same z u))))

    fit : every_cell axes (is_cell (between (pos 1) (pos (bound d)))) g ≡ true
    fit = argument-fit d axes index args differ N (is_cell (between (pos 1) (pos (bound d)))) (held-all all (λ x. is_cell (between (pos 1) (pos (bound d))) (N x) ≡ true) (λ x h. ap (λ b. b || false) (in-range x (bound d) most h)))

    count-fits : is_cell (up_to (bound d)) (pos (length (to_list (of_list ps)))) ≡ true
    count-fits =
        ap (λ l. is_cell (up_to (bound d)) (pos (length l))) items
        ∙ ap (λ b. b || false) (and-both (nat_le 0 (length ps)) (nat_le (length ps) (bound d)) (le-leb 0 (length ps) (omega arith)) (le-leb (length ps) (bound d) most))

    -- ---- they make the partition again

    all-numbers : (zs : List Value) (u : ℕ) → ((z : Value) → holds zs z ≡ true → is_part_number u (N z) ≡ true) → list_all (is_part_number u) (map N zs) ≡ true
    all-numbers [] u h = refl
    all-numbers (z ∷ zs) u h =
        and-both (is_part_number u (N z)) (list_all (is_part_number u) (map N zs)) (h z (ap (λ b. b || holds zs z) (same-itself z))) (all-numbers zs u (λ v k. h v (ap (λ b. same z v || b) k ∙ or-yes (same z v))))

    abbrev part_at : ℤ → Value
    part_at k = set_of (members_numbered all (map N all) k)

    one-part : (j : ℤ) (p : Value) → is_part (member d) p ≡ true → HasNumber 1 ps j p → part_at j ≡ p
    one-part j p i h =
        let x = part-of (member d) p i in
        ap (λ l. node a_set (of_list l))
        (one-sorted-list (sorted_once (members_numbered all (map N all) j)) (to_list x.xs) (sorted_once-rises (members_numbered all (map N all) j)) x.rise
        (λ v. holds-sorted_once (members_numbered all (map N all) j) v ∙ numbered-holds N all j v
        ∙ ap (λ b. b && same_int (N v) j) (sym (covered v)) ∙ ap (λ n. holds (all_members ps) v && same_int n j) (number-is v) ∙ sym (h v) ∙ ap (λ q. holds (items_of q) v) x.form))
        ∙ ap (node a_set) (of_list-to_list x.xs) ∙ sym x.form

    again : map part_at (run_from 1 (length ps)) ≡ ps
    again = go (run_from 1 (length ps)) ps m.parts (part-numbers 1 ps (no-overlap ps m.apart))
      where
        go : (js : List ℤ) (qs : List Value) → list_all (is_part (member d)) qs ≡ true → Along js qs (HasNumber 1 ps) → map part_at js ≡ qs
        go [] [] i h = refl
        go [] (q ∷ qs) i h = absurd h
        go (j ∷ js) [] i h = absurd h
        go (j ∷ js) (q ∷ qs) i h =
            ap (λ p. p ∷ map part_at js) (one-part j q (and-left (is_part (member d) q) (list_all (is_part (member d)) qs) i) h.0) ∙ ap (λ l. q ∷ l) (go js qs (and-right (is_part (member d) q) (list_all (is_part (member d)) qs) i) h.1)

    built : and_then (each_of all (λ x. g (code x ∷ []))) (λ ws. partition_from_numbers all ws (pos (length (to_list (of_list ps))))) ≡ Some (node a_partition (of_list ps))
    built =
        ap (λ o. and_then o (λ ws. partition_from_numbers all ws (pos (length (to_list (of_list ps)))))) (each-cell all (λ x. g (code x ∷ [])) N cells)
        ∙ ap (λ l. partition_from_numbers all (map N all) (pos (length l))) items
        ∙ ap (λ b. if b then partition_of (map part_at (run_from 1 (length ps))) else None) (all-numbers all (length ps) (λ z h. in-range z (length ps) (le_refl (length ps)) h))
        ∙ ap partition_of again ∙ partition-again ks d ps m

    -- ---- parts are numbered by their least members

    any-code : (zs : List Value) (p : ℤ → Bool) (y : Value) → holds zs y ≡ true → p (code y) ≡ true → list_any p (map code zs) ≡ true
    any-code [] p y h e = cc
    any-code (z ∷ zs) p y h e = go (same z y) refl h (λ k. any-code zs p y k e)
      where
        go : (b : Bool) → same z y ≡ b → b || holds zs y ≡ true → (holds zs y ≡ true → list_any p (map code zs) ≡ true) → p (code z) || list_any p (map code zs) ≡ true
        go true q h ih = ap (λ b. b || list_any p (map code zs)) (ap (λ w. p (code w)) (same-equal z y q) ∙ e)
        go false q h ih = ap (λ b. p (code z) || b) (ih h) ∙ or-yes (p (code z))

    abbrev first_or_next : ℤ → Bool
    first_or_next i = is_some_and (g (i ∷ [])) (same_int (pos 1)) || list_any (is_next_after g i) (codes_of d)

    in-domain : (v : Value) → holds all v ≡ true → member d v ≡ true
    in-domain v h = all-holds (member d) (all_members ps) v (all-inside (member d) ps m.parts) (covered v ∙ h)

    each-number : (x : Value) → holds all x ≡ true → first_or_next (code x) ≡ true
    each-number x h = go (earlier (member d) 1 ps m.parts m.rise (no-overlap ps m.apart) x (covered x ∙ h))
      where
        cx : g (code x ∷ []) ≡ Some (N x)
        cx = of-held all (λ x. g (index x) ≡ Some (N x)) x cells h

        go : (part_number 1 ps x ≡ pos 1) ⊎ Earlier 1 ps x → first_or_next (code x) ≡ true
        go (inl e) =
            ap (λ b. b || list_any (is_next_after g (code x)) (codes_of d)) (ap (λ o. is_some_and o (same_int (pos 1))) cx ∙ ap (same_int (pos 1)) (number-is x ∙ e) ∙ same_int-itself (pos 1))
        go (inr s) =
            let hy : holds all s.y ≡ true = sym (covered s.y) ∙ s.there in
            let cy = of-held all (λ x. g (index x) ≡ Some (N x)) s.y cells hy in
            let next : N x ≡ N s.y +ℤ pos 1 = number-is x ∙ s.next ∙ ap (λ n. n +ℤ pos 1) (sym (number-is s.y)) in
            ap (λ b. is_some_and (g (code x ∷ [])) (same_int (pos 1)) || b)
            (any-code all (is_next_after g (code x)) s.y hy
            (and-both (int_lt (code s.y) (code x)) (is_some_and (g (code x ∷ [])) (λ w. is_some_and (g (code s.y ∷ [])) (λ u. same_int w (u +ℤ pos 1))))
            (low-codes d finite.0 s.y x (in-domain s.y hy) (in-domain x h) s.low)
            (ap (λ o. is_some_and o (λ w. is_some_and (g (code s.y ∷ [])) (λ u. same_int w (u +ℤ pos 1)))) cx ∙ ap (λ o. is_some_and o (λ u. same_int (N x) (u +ℤ pos 1))) cy ∙ ap (λ n. same_int n (N s.y +ℤ pos 1)) next ∙ same_int-itself (N s.y +ℤ pos 1))))
            ∙ or-yes (is_some_and (g (code x ∷ [])) (same_int (pos 1)))

    by-least : numbered_by_least (codes_of d) g ≡ true
    by-least = go all (λ x h. each-number x h)
      where
        go : (zs : List Value) → ((z : Value) → holds zs z ≡ true → first_or_next (code z) ≡ true) → list_all first_or_next (map code zs) ≡ true
        go [] h = refl
        go (z ∷ zs) h =
            and-both (first_or_next (code z)) (list_all first_or_next (map code zs)) (h z (ap (λ b. b || holds zs z) (same-itself z))) (go zs (λ v k. h v (ap (λ b. same z v || b) k ∙ or-yes (same z v))))

    alone : Alone ReprKind.PartitionOccurrence (partitions ks d) numbers_own false false numbers_tables numbers_built numbers_asked always_tidy (node a_partition (of_list ps))
    alone = record {
      exact = (exact-items [] (pos (length (to_list (of_list ps))) ∷ []) refl, (argument-exact d axes index args differ N, tt));
      fit = and-both (is_cell (up_to (bound d)) (pos (length (to_list (of_list ps))))) (every_cell axes (is_cell (between (pos 1) (pos (bound d)))) g && true) count-fits (ap (λ b. b && true) fit);
      built = built;
      asked = and-both (numbered_by_least (codes_of d) g) _ by-least
          (ap (λ o. is_some_and o (λ v. is_partition_of ks d (items_of v))) built ∙ ap (is_partition_of ks d) items ∙ and-both (covers (members d) ps) (partition_attributes_hold ks ps) m.whole m.attributes);
    }

  -- Members of partitions as the numbers of their members' parts.
  pub partition-occurrence-members : MembersHaveCells (repr ReprKind.PartitionOccurrence no_reprs) (partitions ks d)
  partition-occurrence-members = record {
    wide = alone-wide ReprKind.PartitionOccurrence (partitions ks d) numbers_own false false numbers_tables numbers_built numbers_asked always_tidy refl refl;
    of_member = λ v h. let m = partition-member ks d v h in subst (HasCells (repr ReprKind.PartitionOccurrence no_reprs) (partitions ks d)) (sym m.1)
        (alone-cells ReprKind.PartitionOccurrence (partitions ks d) numbers_own false false numbers_tables numbers_built numbers_asked always_tidy refl refl (node a_partition (of_list m.0)) (alone m.0 m.2));
  }
