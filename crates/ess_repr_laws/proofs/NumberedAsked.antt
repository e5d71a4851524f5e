-- What is asked of the cells of a partition by part numbers: each member's number is in range and comes after the one before it, the
-- greatest is taken, and the parts have the attributes.
use Rattle.std.proofs.Common.{◌≡◌, refl, sym, ap, ◌∙◌, ℕ, ◌≤◌, Bool, true, false, ◌&&◌, ◌||◌, not, if◌then◌else◌, List, [], ◌∷◌, map, ℤ, pos, negsuc, ◌+ℤ◌, int_lt, nat_le, arith, Some, None}
use Rattle.std.proofs.lemmas.Bool.{le-leb, leb-true}
use Rattle.std.specs.List.{list_all, list_any}
use Rattle.ess_semantics.specs.declared.words.ReprKind.{ReprKind}
use Rattle.ess_semantics.specs.Lists.{and_then, each_of, is_some_and, when}
use Rattle.ess_semantics.specs.Values.{a_partition, Value, node, of_list, items_of}
use Rattle.ess_semantics.specs.Order.{same_int}
use Rattle.ess_semantics.specs.Collections.{sorted_once, has_empty_part, has_overlap, partition_of}
use Rattle.ess_semantics.specs.Trees.{Repr, repr, no_reprs}
use Rattle.ess_semantics.specs.Domains.{Attribute, Domain, partitions, members, member_list, between}
use Rattle.ess_semantics.specs.Attributes.{partition_attributes_hold}
use Rattle.ess_semantics.specs.Sizes.{bound}
use Rattle.ess_semantics.specs.Tables.{code, is_cell}
use Rattle.ess_semantics.specs.Cells.{Grid, every_cell}
use Rattle.ess_semantics.specs.Layers.{codes_of, up_to}
use Rattle.ess_semantics.specs.PartitionLayers.{is_partition_of, is_part_number, partition_from_numbers, is_next_after, numbered_by_least}
use Rattle.ess_semantics.specs.Representations.{value_of_cells}
use Rattle.ess_semantics.specs.CanonicalTest.{canonical}
use Rattle.ess_semantics.proofs.Orders.{to_list-of_list}
use Rattle.ess_semantics.proofs.Overlaps.{overlap-none}
use Rattle.ess_semantics.proofs.Sorting.{all-holds}
use Rattle.ess_semantics.proofs.Tests.{and-left, and-right, and-both, both-ways, not-true}
use Rattle.ess_repr_laws.proofs.CanonicalPlaces.{AllOf, all-of-map, all-of-list, list-of-all}
use Rattle.ess_repr_laws.proofs.NumberedParts.{numbered_parts, parts-apart, parts-cover, is_taken, is_numbered_on, is_numbered_well, well-by-least, taken-filled, filled-taken}
use Rattle.ess_repr_laws.proofs.Numberings.{ByLeast}
use Rattle.ess_repr_laws.proofs.PartNumbers.{each-cell}
use Rattle.ess_repr_laws.proofs.SlotsUsed.{all-map}
use Rattle.ess_repr_laws.proofs.StructureKeys.{all-equal}

-- Two tests that agree on each item find one or none.
any-equal : (zs : List Value) (f g : Value → Bool) → AllOf zs (λ z. f z ≡ g z) → list_any f zs ≡ list_any g zs
any-equal [] f g h = refl
any-equal (z ∷ zs) f g h = ap (λ b. b || list_any f zs) h.0 ∙ ap (λ b. g z || b) (any-equal zs f g h.1)

any-map : (f : ℤ → Bool) (zs : List Value) → list_any f (map code zs) ≡ list_any (λ z. f (code z)) zs
any-map f [] = refl
any-map f (z ∷ zs) = ap (λ b. f (code z) || b) (any-map f zs)

all-split : (f g : Value → Bool) (zs : List Value) → list_all (λ z. f z && g z) zs ≡ list_all f zs && list_all g zs
all-split f g [] = refl
all-split f g (z ∷ zs) = ap (λ b. (f z && g z) && b) (all-split f g zs) ∙ go (f z) (g z) (list_all f zs) (list_all g zs)
  where
    go : (a b c d : Bool) → (a && b) && (c && d) ≡ (a && c) && (b && d)
    go false b c d = refl
    go true true true d = refl
    go true true false d = refl
    go true false true d = refl
    go true false false d = refl

module _ (d : Domain) (ks : List Attribute) (w : Value → ℤ) (f g : Grid) (n : ℕ) (count : f [] ≡ Some (pos n)) (low : n ≤ bound d)
    (fits : every_cell [] (is_cell (up_to (bound d))) f ≡ true) (me : members d ≡ Some (member_list d))
    (cells : AllOf (member_list d) (λ x. g (code x ∷ []) ≡ Some (w x))) where
  abbrev xs : List Value
  xs = member_list d

  abbrev by_number : Repr
  by_number = repr ReprKind.PartitionOccurrence no_reprs

  -- The partition that the cells stand for, where they do.
  abbrev pub parts : List Value
  parts = numbered_parts xs w n

  abbrev in_range : Value → Bool
  in_range x = is_part_number n (w x)

  abbrev on : Value → Bool
  on x = is_numbered_on xs w x

  -- the test of cells by least members is that of members
  by-least : numbered_by_least (codes_of d) g ≡ list_all on xs
  by-least =
      all-map (λ i. is_some_and (g (i ∷ [])) (same_int (pos 1)) || list_any (is_next_after g i) (map code xs)) code xs
      ∙ all-equal xs (λ x. is_some_and (g (code x ∷ [])) (same_int (pos 1)) || list_any (is_next_after g (code x)) (map code xs)) on
      (all-of-map xs (λ x. g (code x ∷ []) ≡ Some (w x))
      (λ x. is_some_and (g (code x ∷ [])) (same_int (pos 1)) || list_any (is_next_after g (code x)) (map code xs) ≡ on x) each cells)
    where
      next : (x : Value) → g (code x ∷ []) ≡ Some (w x) → list_any (is_next_after g (code x)) (map code xs) ≡ list_any
          (λ y. int_lt (code y) (code x) && same_int (w x) (w y +ℤ pos 1)) xs
      next x c =
          any-map (is_next_after g (code x)) xs
          ∙ any-equal xs (λ y. is_next_after g (code x) (code y)) (λ y. int_lt (code y) (code x) && same_int (w x) (w y +ℤ pos 1))
          (all-of-map xs (λ y. g (code y ∷ []) ≡ Some (w y))
          (λ y. is_next_after g (code x) (code y) ≡ int_lt (code y) (code x) && same_int (w x) (w y +ℤ pos 1))
          (λ y e. ap (λ o. int_lt (code y) (code x) && is_some_and o (λ w. is_some_and (g (code y ∷ [])) (λ u. same_int w (u +ℤ pos 1)))) c
          ∙ ap (λ o. int_lt (code y) (code x) && is_some_and o (λ u. same_int (w x) (u +ℤ pos 1))) e) cells)

      each : (x : Value) → g (code x ∷ []) ≡ Some (w x) →
          is_some_and (g (code x ∷ [])) (same_int (pos 1)) || list_any (is_next_after g (code x)) (map code xs) ≡ on x
      each x c =
          ap (λ o. is_some_and o (same_int (pos 1)) || list_any (is_next_after g (code x)) (map code xs)) c
          ∙ ap (λ b. same_int (pos 1) (w x) || b) (next x c)

  -- numbers in range lie in the table's domain
  range-fits : list_all in_range xs ≡ true → every_cell (codes_of d ∷ []) (is_cell (between (pos 1) (pos (bound d)))) g ≡ true
  range-fits h =
      all-map (λ k. is_some_and (g (k ∷ [])) (is_cell (between (pos 1) (pos (bound d))))) code xs
      ∙ list-of-all xs (λ x. is_some_and (g (code x ∷ [])) (is_cell (between (pos 1) (pos (bound d)))))
      (both xs cells (all-of-list xs in_range h))
    where
      higher : (z : ℤ) → is_part_number n z ≡ true → is_part_number (bound d) z ≡ true
      higher (negsuc m) p = cc
      higher (pos m) p =
          and-both (nat_le 1 m) (nat_le m (bound d)) (and-left (nat_le 1 m) (nat_le m n) p)
          (le-leb m (bound d) (let a = leb-true m n (and-right (nat_le 1 m) (nat_le m n) p) in omega arith))

      both : (zs : List Value) → AllOf zs (λ x. g (code x ∷ []) ≡ Some (w x)) → AllOf zs (λ x. in_range x ≡ true) →
          AllOf zs (λ x. is_some_and (g (code x ∷ [])) (is_cell (between (pos 1) (pos (bound d)))) ≡ true)
      both [] c r = tt
      both (z ∷ zs) c r = (
        ap (λ o. is_some_and o (is_cell (between (pos 1) (pos (bound d))))) c.0 ∙ ap (λ b. b || false) (higher (w z) r.0),
        both zs c.1 r.1,
      )

  -- Where numbers come so, the greatest is taken exactly where no part is empty.
  taken-full : list_all in_range xs && list_all on xs ≡ true → is_taken xs w n ≡ not (has_empty_part parts)
  taken-full h =
      both-ways (is_taken xs w n) (not (has_empty_part parts)) (λ t. ap not (taken-filled xs w n least t))
      (λ e. filled-taken xs w n (not-true (has_empty_part parts) e))
    where
      least : ByLeast xs w
      least =
          well-by-least xs w n
          (λ x k. and-both (in_range x) (on x) (all-holds in_range xs x (and-left (list_all in_range xs) (list_all on xs) h) k)
          (all-holds on xs x (and-right (list_all in_range xs) (list_all on xs) h) k))

  -- what is asked of the partition
  abbrev attributes_ask : Value → Bool
  attributes_ask v = is_partition_of ks d (items_of v)

  found : value_of_cells by_number (partitions ks d) (f ∷ g ∷ []) ≡ (if list_all in_range xs then partition_of parts else None)
  found =
      ap (λ o. and_then o (λ n. and_then (each_of xs (λ x. g (code x ∷ []))) (λ ws. partition_from_numbers xs ws n))) count
      ∙ ap (λ o. and_then o (λ ws. partition_from_numbers xs ws (pos n))) (each-cell xs (λ x. g (code x ∷ [])) w cells)
      ∙ ap (λ b. if b then partition_of parts else None) (all-map (is_part_number n) w xs)

  shape : canonical by_number (partitions ks d) (f ∷ g ∷ []) ≡
      every_cell (codes_of d ∷ []) (is_cell (between (pos 1) (pos (bound d)))) g &&
      (list_all on xs && is_some_and (if list_all in_range xs then partition_of parts else None) attributes_ask)
  shape =
      ap (λ b. (((b && (own && true)) && true) && true) && (numbered_by_least (codes_of d) g && is_some_and (value_of_cells by_number
      (partitions ks d) (f ∷ g ∷ [])) attributes_ask)) fits
      ∙ tidy own (numbered_by_least (codes_of d) g && is_some_and (value_of_cells by_number (partitions ks d) (f ∷ g ∷ [])) attributes_ask)
      ∙ ap (λ b. own && (b && is_some_and (value_of_cells by_number (partitions ks d) (f ∷ g ∷ [])) attributes_ask)) by-least
      ∙ ap (λ o. own && (list_all on xs && is_some_and o attributes_ask)) found
    where
      own : Bool
      own = every_cell (codes_of d ∷ []) (is_cell (between (pos 1) (pos (bound d)))) g

      tidy : (a b : Bool) → (((true && (a && true)) && true) && true) && b ≡ a && b
      tidy true b = refl
      tidy false b = refl

  -- The value of the cells, where they are numbered well.
  pub numbered-value : list_all (is_numbered_well xs w n) xs && is_taken xs w n ≡ true →
      value_of_cells by_number (partitions ks d) (f ∷ g ∷ []) ≡ Some (node a_partition (of_list (sorted_once parts)))
  numbered-value h =
      let r = sym (all-split in_range on xs) ∙ and-left (list_all (is_numbered_well xs w n) xs) (is_taken xs w n) h in
      found ∙ ap (λ b. if b then partition_of parts else None) (and-left (list_all in_range xs) (list_all on xs) r)
      ∙ ap (λ b. when (b && not (has_overlap parts)) (node a_partition (of_list (sorted_once parts))))
      (sym (taken-full r) ∙ and-right (list_all (is_numbered_well xs w n) xs) (is_taken xs w n) h)
      ∙ ap (λ b. when b (node a_partition (of_list (sorted_once parts)))) (overlap-none parts (parts-apart xs w 1 n))

  -- What is asked of the cells.
  pub numbered-asked : canonical by_number (partitions ks d) (f ∷ g ∷ []) ≡
      (list_all (is_numbered_well xs w n) xs && is_taken xs w n) && partition_attributes_hold ks (sorted_once parts)
  numbered-asked =
      shape ∙ go (list_all in_range xs) (list_all on xs) refl refl
      ∙ ap (λ b. (b && is_taken xs w n) && partition_attributes_hold ks (sorted_once parts)) (sym (all-split in_range on xs))
    where
      own : Bool
      own = every_cell (codes_of d ∷ []) (is_cell (between (pos 1) (pos (bound d)))) g

      attributes : Bool
      attributes = partition_attributes_hold ks (sorted_once parts)

      none : (b c : Bool) → b && (c && false) ≡ false
      none true true = refl
      none true false = refl
      none false c = refl

      off : (b : Bool) → b && false ≡ false
      off true = refl
      off false = refl

      of-parts : list_all in_range xs ≡ true → is_some_and (partition_of parts) attributes_ask ≡ not (has_empty_part parts) && attributes
      of-parts r =
          ap (λ b. is_some_and (when (not (has_empty_part parts) && b) (node a_partition (of_list (sorted_once parts)))) attributes_ask)
          (overlap-none parts (parts-apart xs w 1 n))
          ∙ here (not (has_empty_part parts))
        where
          here : (b : Bool) → is_some_and (when (b && true) (node a_partition (of_list (sorted_once parts)))) attributes_ask ≡ b &&
              attributes
          here false = refl
          here true = ap (is_partition_of ks d) (to_list-of_list (sorted_once parts))
              ∙ ap (λ b. b && attributes) (parts-cover xs w n d me r)

      go : (a b : Bool) → list_all in_range xs ≡ a → list_all on xs ≡ b →
          own && (b && is_some_and (if a then partition_of parts else None) attributes_ask) ≡ ((a && b) && is_taken xs w n) && attributes
      go false b p q = none own b
      go true false p q = off own
      go true true p q =
          ap (λ c. c && is_some_and (partition_of parts) attributes_ask) (range-fits p) ∙ of-parts p
          ∙ ap (λ c. c && attributes) (sym (taken-full (ap (λ a. a && list_all on xs) p ∙ q)))
