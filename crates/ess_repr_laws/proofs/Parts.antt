-- The parts of a partition: what membership says of them, how many they are, and that they make the partition again.
use Rattle.std.proofs.Common.{◌≡◌, refl, sym, ap, ◌∙◌, ◌≤◌, Bool, true, false, ◌&&◌, ◌||◌, not, List, [], ◌∷◌, ◌++◌, length, Some, arith, length-append}
use Rattle.std.specs.List.{list_all}
use Rattle.ess_semantics.specs.Lists.{is_empty, when}
use Rattle.ess_semantics.specs.Values.{a_tuple, a_matrix, a_set, a_mset, a_function, a_relation, a_partition, a_record, Value, number, truth, item, node, Values, to_list, of_list, items_of, itself}
use Rattle.ess_semantics.specs.Collections.{sorted_once, rises, has_empty_part, has_overlap, partition_of}
use Rattle.ess_semantics.specs.Domains.{Attribute, Domain, partitions, members}
use Rattle.ess_semantics.specs.Attributes.{partition_attributes_hold}
use Rattle.ess_semantics.specs.Membership.{is_part, covers, member}
use Rattle.ess_semantics.specs.Sizes.{bound}
use Rattle.ess_repr_laws.specs.Finite.{Bounded}
use Rattle.ess_semantics.proofs.Tests.{and-left, and-right, and-both, not-true}
use Rattle.ess_semantics.proofs.Orders.{of_list-to_list}
use Rattle.ess_semantics.proofs.Sorting.{sorted_once-rises, sorted_once-length, sorted_once-itself, all-sorted_once}
use Rattle.ess_semantics.proofs.Overlaps.{all_members, no-overlap}

-- what membership of a partition says
pub record PartitionMember (ks : List Attribute) (d : Domain) (ps : List Value) : Type 0 where
  pub rise : rises itself ps ≡ true
  pub parts : list_all (is_part (member d)) ps ≡ true
  pub apart : not (has_overlap ps) ≡ true
  pub whole : covers (members d) ps ≡ true
  pub attributes : partition_attributes_hold ks ps ≡ true

-- A member of a domain of partitions is a partition of such parts.
pub partition-member : (ks : List Attribute) (d : Domain) (v : Value) → member (partitions ks d) v ≡ true → (ps : List Value) × (v ≡ node a_partition (of_list ps)) × PartitionMember ks d ps
partition-member ks d (node a_partition vs) h =
    let a : Bool = rises itself (to_list vs) in
    let b : Bool = list_all (is_part (member d)) (to_list vs) in
    let c : Bool = not (has_overlap (to_list vs)) in
    let e : Bool = covers (members d) (to_list vs) in
    let f : Bool = partition_attributes_hold ks (to_list vs) in (
      to_list vs,
      ap (λ w. node a_partition w) (sym (of_list-to_list vs)),
      record {
        rise = and-left a b (and-left (a && b) c (and-left (a && b && c) e (and-left (a && b && c && e) f h)));
        parts = and-right a b (and-left (a && b) c (and-left (a && b && c) e (and-left (a && b && c && e) f h)));
        apart = and-right (a && b) c (and-left (a && b && c) e (and-left (a && b && c && e) f h));
        whole = and-right (a && b && c) e (and-left (a && b && c && e) f h);
        attributes = and-right (a && b && c && e) f h;
      },
    )
partition-member ks d (number n) h = cc
partition-member ks d (truth b) h = cc
partition-member ks d (item t k) h = cc
partition-member ks d (node a_tuple vs) h = cc
partition-member ks d (node a_matrix vs) h = cc
partition-member ks d (node a_set vs) h = cc
partition-member ks d (node a_mset vs) h = cc
partition-member ks d (node a_function vs) h = cc
partition-member ks d (node a_relation vs) h = cc
partition-member ks d (node (a_record fs) vs) h = cc

-- a part is a rising set of members, with one at least
pub record Part (f : Value → Bool) (p : Value) : Type 0 where
  pub xs : Values
  pub form : p ≡ node a_set xs
  pub rise : rises itself (to_list xs) ≡ true
  pub full : not (is_empty (to_list xs)) ≡ true
  pub inside : list_all f (to_list xs) ≡ true

-- A part is a set that isn't empty.
pub part-of : (f : Value → Bool) (p : Value) → is_part f p ≡ true → Part f p
part-of f (node a_set xs) h =
    let a : Bool = rises itself (to_list xs) in
    let b : Bool = not (is_empty (to_list xs)) in
    let c : Bool = list_all f (to_list xs) in
    record {
      xs = xs;
      form = refl;
      rise = and-left a b (and-left (a && b) c h);
      full = and-right a b (and-left (a && b) c h);
      inside = and-right (a && b) c h;
    }
part-of f (number n) h = cc
part-of f (truth b) h = cc
part-of f (item t k) h = cc
part-of f (node a_tuple vs) h = cc
part-of f (node a_matrix vs) h = cc
part-of f (node a_mset vs) h = cc
part-of f (node a_function vs) h = cc
part-of f (node a_relation vs) h = cc
part-of f (node a_partition vs) h = cc
part-of f (node (a_record fs) vs) h = cc

-- No part is empty.
pub none-empty : (f : Value → Bool) (ps : List Value) → list_all (is_part f) ps ≡ true → has_empty_part ps ≡ false
none-empty f [] h = refl
none-empty f (p ∷ ps) h =
    let x = part-of f p (and-left (is_part f p) (list_all (is_part f) ps) h) in
    ap (λ b. b || has_empty_part ps) (ap (λ q. is_empty (items_of q)) x.form ∙ not-true (is_empty (to_list x.xs)) x.full) ∙ none-empty f ps (and-right (is_part f p) (list_all (is_part f) ps) h)

all-append : (f : Value → Bool) (xs ys : List Value) → list_all f xs ≡ true → list_all f ys ≡ true → list_all f (xs ++ ys) ≡ true
all-append f [] ys p q = q
all-append f (x ∷ xs) ys p q = and-both (f x) (list_all f (xs ++ ys)) (and-left (f x) (list_all f xs) p) (all-append f xs ys (and-right (f x) (list_all f xs) p) q)

-- The members of all parts are members.
pub all-inside : (f : Value → Bool) (ps : List Value) → list_all (is_part f) ps ≡ true → list_all f (all_members ps) ≡ true
all-inside f [] h = refl
all-inside f (p ∷ ps) h =
    let x = part-of f p (and-left (is_part f p) (list_all (is_part f) ps) h) in
    all-append f (items_of p) (all_members ps) (ap (λ q. list_all f (items_of q)) x.form ∙ x.inside) (all-inside f ps (and-right (is_part f p) (list_all (is_part f) ps) h))

parts-short : (f : Value → Bool) (ps : List Value) → list_all (is_part f) ps ≡ true → length ps ≤ length (all_members ps)
parts-short f [] h = omega arith
parts-short f (p ∷ ps) h =
    let x = part-of f p (and-left (is_part f p) (list_all (is_part f) ps) h) in
    let a = parts-short f ps (and-right (is_part f p) (list_all (is_part f) ps) h) in
    let b = length-append (items_of p) (all_members ps) in
    let c = one (to_list x.xs) x.full in
    let e = ap (λ q. length (items_of q)) x.form in omega (arith, a, b, c, e)
  where
    one : (xs : List Value) → not (is_empty xs) ≡ true → 1 ≤ length xs
    one [] h = cc
    one (x ∷ xs) h = omega arith

-- There are no more parts than members.
pub parts-most : (ks : List Attribute) (d : Domain) → Bounded d → (ps : List Value) → PartitionMember ks d ps → length ps ≤ bound d
parts-most ks d b ps m =
    let a = parts-short (member d) ps m.parts in
    let c = sorted_once-length (all_members ps) (no-overlap ps m.apart) in
    let e = b (sorted_once (all_members ps)) (sorted_once-rises (all_members ps)) (all-sorted_once (member d) (all_members ps) ∙ all-inside (member d) ps m.parts) in omega (arith, a, c, e)

-- The parts make the partition again.
pub partition-again : (ks : List Attribute) (d : Domain) (ps : List Value) → PartitionMember ks d ps → partition_of ps ≡ Some (node a_partition (of_list ps))
partition-again ks d ps m =
    ap (λ b. when b (node a_partition (of_list (sorted_once ps)))) (and-both (not (has_empty_part ps)) (not (has_overlap ps)) (ap not (none-empty (member d) ps m.parts)) m.apart)
    ∙ ap (λ l. Some (node a_partition (of_list l))) (sorted_once-itself ps m.rise)
