-- So do those of relations and partitions.
use Rattle.std.proofs.Common.{◌≡◌, refl, sym, ap, ◌∙◌, Bool, true, false, ◌&&◌, ◌||◌, not, List, [], ◌∷◌, length}
use Rattle.std.specs.List.{list_all}
use Rattle.ess_semantics.specs.Lists.{is_empty}
use Rattle.ess_semantics.specs.Values.{a_set, a_relation, a_partition, Value, number, truth, item, node, nil, cons, to_list, of_list, tuple, itself}
use Rattle.ess_semantics.specs.Collections.{rises, has_overlap}
use Rattle.ess_semantics.specs.Domains.{Attribute, Domain, Domains, relations, partitions, no_domains, more_domains, members}
use Rattle.ess_semantics.specs.Attributes.{size_holds, relation_holds, relation_attributes_hold, partition_attributes_hold}
use Rattle.ess_semantics.specs.Membership.{member, tuple_member, is_part, covers}
use Rattle.ess_semantics.specs.Positions.{with_positions, all_with_positions, domain_with_positions, domains_with_positions}
use Rattle.ess_semantics.proofs.Tests.{and-left, and-right, and-both, or-yes}
use Rattle.ess_semantics.proofs.Orders.{to_list-of_list, of_list-to_list}
use Rattle.ess_repr_laws.proofs.CellsOfOccurrences.{relation-member}
use Rattle.ess_repr_laws.proofs.Parts.{partition-member, part-of}
use Rattle.ess_repr_laws.proofs.OrderOfPositions.{Agree, pairs-agree, parts-agree}
use Rattle.ess_repr_laws.proofs.ListsOfPositions.{with_each, parts-with, length-with, all-there, rises-with}
use Rattle.ess_repr_laws.proofs.MembersOfPositions.{members-with}
use Rattle.ess_repr_laws.proofs.AllMembersListed.{listed-inside}
use Rattle.ess_repr_laws.proofs.AttributesOfPositions.{each-same, pairs_of, relation-same}
use Rattle.ess_repr_laws.proofs.PartsOfPositions.{overlap-with, covers-with, parts-attributes}
use Rattle.ess_repr_laws.proofs.MatchedMembers.{Back, Matched, all-so, list-back, node-from, node-with, partition-made, relation-made}

-- ---- relations

-- A relation of pairs of one type.
pub pairs-attributes : (ks : List Attribute) (d e : Domain) → Agree (λ v. member d v || member e v) (λ v. member d v || member e v) →
    (ps : List Value) →
    list_all (tuple_member (more_domains d (more_domains e no_domains))) ps ≡ true →
    relation_attributes_hold ks (domains_with_positions (more_domains d (more_domains e no_domains)))
    (with_each ps) ≡ relation_attributes_hold ks (more_domains d (more_domains e no_domains)) ps
pairs-attributes ks d e agree ps h =
    each-same ks (λ k z. size_holds k z (length (with_each ps))) (λ k z. size_holds k z (length ps))
    (λ k. relation_holds k (members (domain_with_positions d)) (with_each ps)) (λ k. relation_holds k (members d) ps)
    (λ k z. ap (size_holds k z) (length-with ps))
    (λ k. ap (λ o. relation_holds k o (with_each ps)) (members-with d)
    ∙ relation-same f agree (pairs-agree f f f f agree agree) (members d)
    (λ vs q. all-so (member d) f (λ v j. ap (λ b. b || member e v) j) vs (listed-inside d vs q)) k ps
    (all-so (tuple_member (more_domains d (more_domains e no_domains))) (pairs_of f) pair ps h))
  where
    f : Value → Bool
    f v = member d v || member e v

    pair : (v : Value) → tuple_member (more_domains d (more_domains e no_domains)) v ≡ true → pairs_of f v ≡ true
    pair (tuple (cons a (cons b nil))) j =
        and-both (f a) (f b) (ap (λ x. x || member e a) (and-left (member d a) (member e b && true) j))
        (ap (λ x. member d b || x) (and-left (member e b) true (and-right (member d a) (member e b && true) j)) ∙ or-yes (member d b))
    pair (tuple (cons a (cons b (cons c vs)))) j =
        let z = and-right (member e b) false (and-right (member d a) (member e b && false) j) in cc
    pair (tuple (cons a nil)) j = let z = and-right (member d a) false j in cc
    pair (number n) j = cc
    pair (truth b) j = cc
    pair (item t k) j = cc
    pair (node k vs) j = cc

module _ (ks : List Attribute) (ds : Domains) (agree : Agree (tuple_member ds) (tuple_member ds))
    (m : Matched (tuple_member ds) (tuple_member (domains_with_positions ds)))
    (same : (ps : List Value) → list_all (tuple_member ds) ps ≡ true → relation_attributes_hold ks (domains_with_positions ds) (with_each ps) ≡ relation_attributes_hold ks ds ps) where
  -- Members of relations.
  pub relations-matched : Matched (member (relations ks ds)) (member (relations ks (domains_with_positions ds)))
  relations-matched = record { up = up; back = back }
    where
      up : (v : Value) → member (relations ks ds) v ≡ true → member (relations ks (domains_with_positions ds)) (with_positions v) ≡ true
      up v h =
          let x = relation-member ks ds v h in
          ap (member (relations ks (domains_with_positions ds))) (node-with a_relation x.0 v x.1)
          ∙ relation-made ks (domains_with_positions ds) (with_each x.0)
          (record {
            rise = rises-with (tuple_member ds) agree itself (λ v. refl) x.0 x.2.inside ∙ x.2.rise;
            inside = all-there (tuple_member ds) (tuple_member (domains_with_positions ds)) m.up x.0 x.2.inside;
            attributes = same x.0 x.2.inside ∙ x.2.attributes;
          })

      back : (w : Value) → member (relations ks (domains_with_positions ds)) w ≡ true → Back (member (relations ks ds)) w
      back w h =
          let x = relation-member ks (domains_with_positions ds) w h in
          let y = list-back (tuple_member ds) (tuple_member (domains_with_positions ds)) m x.0 x.2.inside in (
            node a_relation (of_list y.0),
            relation-made ks ds y.0
                (record {
                  rise = sym (rises-with (tuple_member ds) agree itself (λ v. refl) y.0 y.1) ∙ ap (rises itself) y.2 ∙ x.2.rise;
                  inside = y.1;
                  attributes = sym (same y.0 y.1) ∙ ap (relation_attributes_hold ks (domains_with_positions ds)) y.2 ∙ x.2.attributes;
                }),
            node-from a_relation y.0 x.0 w x.1 y.2,
          )

-- ---- partitions

-- A set of members that isn't empty is a part.
part-made : (f : Value → Bool) (xs : List Value) → rises itself xs ≡ true → not (is_empty xs) ≡ true → list_all f xs ≡ true →
    is_part f (node a_set (of_list xs)) ≡ true
part-made f xs a b c =
    ap (λ l. rises itself l && not (is_empty l) && list_all f l) (to_list-of_list xs)
    ∙ and-both (rises itself xs && not (is_empty xs)) (list_all f xs) (and-both (rises itself xs) (not (is_empty xs)) a b) c

empty-with : (xs : List Value) → is_empty (with_each xs) ≡ is_empty xs
empty-with [] = refl
empty-with (x ∷ xs) = refl

module _ (ks : List Attribute) (d : Domain) (agree : Agree (member d) (member d))
    (m : Matched (member d) (member (domain_with_positions d))) where
  parts : Matched (is_part (member d)) (is_part (member (domain_with_positions d)))
  parts = record { up = up; back = back }
    where
      up : (v : Value) → is_part (member d) v ≡ true → is_part (member (domain_with_positions d)) (with_positions v) ≡ true
      up v h =
          let x = part-of (member d) v h in
          let e = ap (node a_set) (sym (of_list-to_list (all_with_positions x.xs)) ∙ ap of_list (parts-with x.xs)) in
          ap (λ u. is_part (member (domain_with_positions d)) (with_positions u)) x.form ∙ ap (is_part (member (domain_with_positions d))) e
          ∙ part-made (member (domain_with_positions d)) (with_each (to_list x.xs))
          (rises-with (member d) agree itself (λ v. refl) (to_list x.xs) x.inside ∙ x.rise)
          (ap not (empty-with (to_list x.xs)) ∙ x.full)
          (all-there (member d) (member (domain_with_positions d)) m.up (to_list x.xs) x.inside)

      back : (w : Value) → is_part (member (domain_with_positions d)) w ≡ true → Back (is_part (member d)) w
      back w h =
          let x = part-of (member (domain_with_positions d)) w h in
          let y = list-back (member d) (member (domain_with_positions d)) m (to_list x.xs) x.inside in (
            node a_set (of_list y.0),
            part-made (member d) y.0 (sym (rises-with (member d) agree itself (λ v. refl) y.0 y.1) ∙ ap (rises itself) y.2 ∙ x.rise)
                (ap not (sym (empty-with y.0) ∙ ap is_empty y.2) ∙ x.full) y.1,
            node-from a_set y.0 (to_list x.xs) w (x.form ∙ ap (node a_set) (sym (of_list-to_list x.xs))) y.2,
          )

  -- Members of partitions.
  pub partitions-matched : Matched (member (partitions ks d)) (member (partitions ks (domain_with_positions d)))
  partitions-matched = record { up = up; back = back }
    where
      rising : Agree (is_part (member d)) (is_part (member d))
      rising = parts-agree (member d) (member d) agree

      whole : (ps : List Value) → list_all (is_part (member d)) ps ≡ true →
          covers (members (domain_with_positions d)) (with_each ps) ≡ covers (members d) ps
      whole ps h = ap (λ o. covers o (with_each ps)) (members-with d) ∙ covers-with (member d) agree ps h (members d) (listed-inside d)

      up : (v : Value) → member (partitions ks d) v ≡ true → member (partitions ks (domain_with_positions d)) (with_positions v) ≡ true
      up v h =
          let x = partition-member ks d v h in
          ap (member (partitions ks (domain_with_positions d))) (node-with a_partition x.0 v x.1)
          ∙ partition-made ks (domain_with_positions d) (with_each x.0)
          (record {
            rise = rises-with (is_part (member d)) rising itself (λ v. refl) x.0 x.2.parts ∙ x.2.rise;
            parts = all-there (is_part (member d)) (is_part (member (domain_with_positions d)))
                (λ u k. let e = parts in e.up u k) x.0 x.2.parts;
            apart = ap not (overlap-with (member d) agree x.0 x.2.parts) ∙ x.2.apart;
            whole = whole x.0 x.2.parts ∙ x.2.whole;
            attributes = parts-attributes (member d) agree x.0 x.2.parts ks ∙ x.2.attributes;
          })

      back : (w : Value) → member (partitions ks (domain_with_positions d)) w ≡ true → Back (member (partitions ks d)) w
      back w h =
          let x = partition-member ks (domain_with_positions d) w h in
          let y = list-back (is_part (member d)) (is_part (member (domain_with_positions d))) parts x.0 x.2.parts in (
            node a_partition (of_list y.0),
            partition-made ks d y.0
                (record {
                  rise = sym (rises-with (is_part (member d)) rising itself (λ v. refl) y.0 y.1) ∙ ap (rises itself) y.2 ∙ x.2.rise;
                  parts = y.1;
                  apart = sym (ap not (overlap-with (member d) agree y.0 y.1)) ∙ ap (λ l. not (has_overlap l)) y.2 ∙ x.2.apart;
                  whole = sym (whole y.0 y.1) ∙ ap (covers (members (domain_with_positions d))) y.2 ∙ x.2.whole;
                  attributes = sym (parts-attributes (member d) agree y.0 y.1 ks) ∙ ap (partition_attributes_hold ks) y.2 ∙ x.2.attributes;
                }),
            node-from a_partition y.0 x.0 w x.1 y.2,
          )
