-- Members of partitions as the set of their parts, and as the number of each member's part.
use Rattle.std.proofs.Common.{◌≡◌, refl, sym, ap, ◌∙◌, subst, ℕ, ◌≤◌, Bool, true, false, ◌&&◌, if◌then◌else◌, List, [], ◌∷◌, length, ℤ, Option, Some, None, arith}
use Rattle.std.specs.List.{list_all}
use Rattle.ess_semantics.specs.declared.words.ReprKind.{ReprKind}
use Rattle.ess_semantics.specs.declared.words.Key.{Key}
use Rattle.ess_semantics.specs.Lists.{is_some_and, or_else}
use Rattle.ess_semantics.specs.Values.{a_set, a_partition, Value, node, to_list, of_list, items_of, itself}
use Rattle.ess_semantics.specs.Collections.{rises, partition_of}
use Rattle.ess_semantics.specs.Numbers.{natural}
use Rattle.ess_semantics.specs.Trees.{Repr, repr, no_reprs, more_reprs}
use Rattle.ess_semantics.specs.Domains.{Attribute, Domain, sets, partitions, attribute, has, members}
use Rattle.ess_semantics.specs.Attributes.{size_holds, set_attributes_hold, partition_holds, parts_hold, part_sizes, partition_attributes_hold}
use Rattle.ess_semantics.specs.Membership.{is_part, covers, member}
use Rattle.ess_semantics.specs.Sizes.{bound, size_attributes, child_parts}
use Rattle.ess_semantics.specs.Cells.{Cells}
use Rattle.ess_semantics.specs.PartitionLayers.{is_partition_of, partition_from, partition_of_child}
use Rattle.ess_repr_laws.specs.Finite.{Bounded}
use Rattle.ess_semantics.proofs.Tests.{and-left, and-right, and-both}
use Rattle.ess_semantics.proofs.Orders.{to_list-of_list}
use Rattle.ess_repr_laws.proofs.CellsOfMembers.{HasCells, MembersHaveCells}
use Rattle.ess_repr_laws.proofs.Rooms.{attribute-said, exactly}
use Rattle.ess_repr_laws.proofs.CellsOfConversions.{converted-wide, converted-cells, sizes-hold, le-natural, natural-le}
use Rattle.ess_repr_laws.proofs.Parts.{PartitionMember, partition-member, part-of, parts-most, partition-again}

-- the inner domain of a set
abbrev inner_of : Domain → Domain
inner_of (sets ks d) = d
inner_of d = d

abbrev part_keys : List Attribute → List Attribute
part_keys ks = size_attributes (attribute Key.PartSize ks) (attribute Key.MinPartSize ks) (attribute Key.MaxPartSize ks)

abbrev many_keys : List Attribute → Domain → List Attribute
many_keys ks d = size_attributes (attribute Key.NumParts ks) (attribute Key.MinNumParts ks) (if has Key.NumParts ks then attribute Key.MaxNumParts ks else or_else (attribute Key.MaxNumParts ks) (Some (bound d)))

-- ---- as the set of the parts

module _ (r : Repr) (ks : List Attribute) (d : Domain) (bounded : Bounded d) (child : MembersHaveCells r (child_parts ks d)) where
  abbrev set_of_parts : Value → Value
  set_of_parts v = node a_set (of_list (items_of v))

  abbrev parts_asked : Cells → List (List Value) → Bool
  parts_asked c vss = is_some_and (partition_of_child vss) (λ v. is_partition_of ks d (items_of v))

  module _ (ps : List Value) (m : PartitionMember ks d ps) where
    abbrev f : Key → ℤ → Bool
    f k n = partition_holds k n ps

    abbrev g : Key → Bool
    g k = parts_hold k ps

    -- the size of each part
    sized : (qs : List Value) (key : ℤ → ℕ → Bool) (z : ℤ) → list_all (key z) (part_sizes qs) ≡ true → list_all (λ p. key z (length (items_of p))) qs ≡ true
    sized [] key z h = refl
    sized (q ∷ qs) key z h = and-both (key z (length (items_of q))) (list_all (λ p. key z (length (items_of p))) qs) (and-left (key z (length (items_of q))) (list_all (key z) (part_sizes qs)) h) (sized qs key z (and-right (key z (length (items_of q))) (list_all (key z) (part_sizes qs)) h))

    each-part : (qs : List Value) → list_all (is_part (member d)) qs ≡ true →
        ((n : ℕ) → attribute Key.PartSize ks ≡ Some n → (z : ℤ) × (natural z ≡ n) × (list_all (size_holds Key.Size z) (part_sizes qs) ≡ true)) →
        ((n : ℕ) → attribute Key.MinPartSize ks ≡ Some n → (z : ℤ) × (natural z ≡ n) × (list_all (size_holds Key.MinSize z) (part_sizes qs) ≡ true)) →
        ((n : ℕ) → attribute Key.MaxPartSize ks ≡ Some n → (z : ℤ) × (natural z ≡ n) × (list_all (size_holds Key.MaxSize z) (part_sizes qs) ≡ true)) →
        list_all (member (sets (part_keys ks) d)) qs ≡ true
    each-part [] h s a b = refl
    each-part (q ∷ qs) h s a b =
        let x = part-of (member d) q (and-left (is_part (member d) q) (list_all (is_part (member d)) qs) h) in
        let n : ℕ = length (to_list x.xs) in
        let items : length (items_of q) ≡ n = ap (λ p. length (items_of p)) x.form in
        and-both (member (sets (part_keys ks) d) q) (list_all (member (sets (part_keys ks) d)) qs)
        (ap (member (sets (part_keys ks) d)) x.form
        ∙ and-both (rises itself (to_list x.xs) && list_all (member d) (to_list x.xs)) (set_attributes_hold (part_keys ks) n) (and-both (rises itself (to_list x.xs)) (list_all (member d) (to_list x.xs)) x.rise x.inside)
        (sizes-hold (attribute Key.PartSize ks) (attribute Key.MinPartSize ks) (attribute Key.MaxPartSize ks) n (λ k. true)
        (λ i e. let y = s i e in sym items ∙ exactly y.0 i (length (items_of q)) y.1 (and-left (size_holds Key.Size y.0 (length (items_of q))) (list_all (size_holds Key.Size y.0) (part_sizes qs)) y.2))
        (λ i e. let y = a i e in let l = le-natural y.0 i (length (items_of q)) y.1 (and-left (size_holds Key.MinSize y.0 (length (items_of q))) (list_all (size_holds Key.MinSize y.0) (part_sizes qs)) y.2) in omega (arith, l, items))
        (λ i e. let y = b i e in let l = natural-le y.0 i (length (items_of q)) y.1 (and-left (size_holds Key.MaxSize y.0 (length (items_of q))) (list_all (size_holds Key.MaxSize y.0) (part_sizes qs)) y.2) in omega (arith, l, items))))
        (each-part qs (and-right (is_part (member d) q) (list_all (is_part (member d)) qs) h)
        (λ i e. let y = s i e in (y.0, y.1, and-right (size_holds Key.Size y.0 (length (items_of q))) (list_all (size_holds Key.Size y.0) (part_sizes qs)) y.2))
        (λ i e. let y = a i e in (y.0, y.1, and-right (size_holds Key.MinSize y.0 (length (items_of q))) (list_all (size_holds Key.MinSize y.0) (part_sizes qs)) y.2))
        (λ i e. let y = b i e in (y.0, y.1, and-right (size_holds Key.MaxSize y.0 (length (items_of q))) (list_all (size_holds Key.MaxSize y.0) (part_sizes qs)) y.2)))

    upper : (b : Bool) (o : Option ℕ) → attribute Key.MaxNumParts ks ≡ o → (n : ℕ) → (if b then o else or_else o (Some (bound d))) ≡ Some n → length ps ≤ n
    upper true o q n e = let y = attribute-said ks f g Key.MaxNumParts n m.attributes (q ∙ e) in natural-le y.0 n (length ps) y.1 y.2
    upper false (Some a) q n e = let y = attribute-said ks f g Key.MaxNumParts n m.attributes (q ∙ e) in natural-le y.0 n (length ps) y.1 y.2
    upper false None q n e = let w : bound d ≡ n = cc in let l = parts-most ks d bounded ps m in omega (arith, w, l)

    many : set_attributes_hold (many_keys ks d) (length ps) ≡ true
    many =
        sizes-hold (attribute Key.NumParts ks) (attribute Key.MinNumParts ks) (if has Key.NumParts ks then attribute Key.MaxNumParts ks else or_else (attribute Key.MaxNumParts ks) (Some (bound d))) (length ps) (λ k. true)
        (λ n e. let y = attribute-said ks f g Key.NumParts n m.attributes e in exactly y.0 n (length ps) y.1 y.2)
        (λ n e. let y = attribute-said ks f g Key.MinNumParts n m.attributes e in le-natural y.0 n (length ps) y.1 y.2)
        (upper (has Key.NumParts ks) (attribute Key.MaxNumParts ks) refl)

    inside : member (child_parts ks d) (node a_set (of_list ps)) ≡ true
    inside =
        ap (λ l. rises itself l && list_all (member (sets (part_keys ks) d)) l && set_attributes_hold (many_keys ks d) (length l)) (to_list-of_list ps)
        ∙ and-both (rises itself ps && list_all (member (sets (part_keys ks) d)) ps) (set_attributes_hold (many_keys ks d) (length ps))
        (and-both (rises itself ps) (list_all (member (sets (part_keys ks) d)) ps) m.rise
        (each-part ps m.parts (λ n e. attribute-said ks f g Key.PartSize n m.attributes e) (λ n e. attribute-said ks f g Key.MinPartSize n m.attributes e) (λ n e. attribute-said ks f g Key.MaxPartSize n m.attributes e)))
        many

    as-set-cells : HasCells (repr ReprKind.PartitionAsSet (more_reprs r no_reprs)) (partitions ks d) (node a_partition (of_list ps))
    as-set-cells =
        converted-cells ReprKind.PartitionAsSet r (partitions ks d) (child_parts ks d) set_of_parts partition_from parts_asked refl refl child (node a_partition (of_list ps))
        (ap (λ l. member (child_parts ks d) (node a_set (of_list l))) items ∙ inside) back
        (ap (λ o. is_some_and o (λ v. is_partition_of ks d (items_of v))) back ∙ ap (is_partition_of ks d) items ∙ and-both (covers (members d) ps) (partition_attributes_hold ks ps) m.whole m.attributes)
      where
        items : to_list (of_list ps) ≡ ps
        items = to_list-of_list ps

        back : partition_from (node a_set (of_list (to_list (of_list ps)))) ≡ Some (node a_partition (of_list ps))
        back = ap (λ l. partition_of (to_list (of_list l))) items ∙ ap partition_of items ∙ partition-again ks d ps m

  -- Members of partitions as sets of parts.
  pub partition-as-set-members : MembersHaveCells (repr ReprKind.PartitionAsSet (more_reprs r no_reprs)) (partitions ks d)
  partition-as-set-members = record {
    wide = converted-wide ReprKind.PartitionAsSet r (partitions ks d) (child_parts ks d) set_of_parts partition_from parts_asked refl refl child;
    of_member = λ v h. let m = partition-member ks d v h in subst (HasCells (repr ReprKind.PartitionAsSet (more_reprs r no_reprs)) (partitions ks d)) (sym m.1) (as-set-cells m.0 m.2);
  }
