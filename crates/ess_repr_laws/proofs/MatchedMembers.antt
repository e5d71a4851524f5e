-- Members that match values with positions, and compound values made of members.
use Rattle.std.proofs.Common.{◌≡◌, refl, sym, ap, ◌∙◌, Bool, true, ◌&&◌, not, List, [], ◌∷◌, length}
use Rattle.std.specs.List.{list_all}
use Rattle.ess_semantics.specs.Values.{Kind, a_set, a_mset, a_function, a_relation, a_partition, Value, node, of_list, from_of, to_of, itself}
use Rattle.ess_semantics.specs.Collections.{rises, rises_weakly, has_overlap}
use Rattle.ess_semantics.specs.Domains.{Attribute, Domain, Domains, sets, msets, functions, relations, partitions, members}
use Rattle.ess_semantics.specs.Attributes.{set_attributes_hold, mset_attributes_hold, function_attributes_hold, relation_attributes_hold, partition_attributes_hold}
use Rattle.ess_semantics.specs.Membership.{member, tuple_member, is_pair, is_part, covers}
use Rattle.ess_semantics.specs.Positions.{with_positions}
use Rattle.ess_semantics.proofs.Tests.{and-left, and-right, and-both}
use Rattle.ess_semantics.proofs.Orders.{to_list-of_list}
use Rattle.ess_repr_laws.proofs.CellsOfOccurrences.{SetMember, RelationMember}
use Rattle.ess_repr_laws.proofs.Times.{MsetMember}
use Rattle.ess_repr_laws.proofs.FunctionPairs.{FunctionMember}
use Rattle.ess_repr_laws.proofs.Parts.{PartitionMember}
use Rattle.ess_repr_laws.proofs.ListsOfPositions.{with_each, list-with}

-- A value that p holds of has w as its value with positions.
abbrev pub Back : (Value → Bool) → Value → Type 0
Back p w = (v : Value) × (p v ≡ true) × (with_positions v ≡ w)

-- What p holds of has values with positions that q holds of, and each of these is one of such a value.
pub record Matched (p q : Value → Bool) : Type 0 where
  pub up : (v : Value) → p v ≡ true → q (with_positions v) ≡ true
  pub back : (w : Value) → q w ≡ true → Back p w

-- ---- lists

-- The values of a list.
pub list-back : (p q : Value → Bool) → Matched p q → (ws : List Value) → list_all q ws ≡ true →
    (vs : List Value) × (list_all p vs ≡ true) × (with_each vs ≡ ws)
list-back p q m [] h = ([], refl, refl)
list-back p q m (w ∷ ws) h =
    let x = m.back w (and-left (q w) (list_all q ws) h) in
    let y = list-back p q m ws (and-right (q w) (list_all q ws) h) in
    (x.0 ∷ y.0, and-both (p x.0) (list_all p y.0) x.1 y.1, ap (λ v. v ∷ with_each y.0) x.2 ∙ ap (λ l. w ∷ l) y.2)

-- A compound value of a list.
pub node-with : (k : Kind) (xs : List Value) (v : Value) → v ≡ node k (of_list xs) → with_positions v ≡ node k (of_list (with_each xs))
node-with k xs v e = ap with_positions e ∙ ap (node k) (list-with xs)

-- A compound value of values whose values with positions are these.
pub node-from : (k : Kind) (xs ys : List Value) (w : Value) → w ≡ node k (of_list ys) → with_each xs ≡ ys →
    with_positions (node k (of_list xs)) ≡ w
node-from k xs ys w e h = ap (node k) (list-with xs ∙ ap of_list h) ∙ sym e

-- Where one test gives another on each value.
pub all-so : (f g : Value → Bool) → ((v : Value) → f v ≡ true → g v ≡ true) → (xs : List Value) → list_all f xs ≡ true →
    list_all g xs ≡ true
all-so f g h [] a = refl
all-so f g h (x ∷ xs) a =
    and-both (g x) (list_all g xs) (h x (and-left (f x) (list_all f xs) a)) (all-so f g h xs (and-right (f x) (list_all f xs) a))

-- ---- members of their makings

-- A set of such members is one.
pub set-made : (ks : List Attribute) (d : Domain) (xs : List Value) → SetMember ks d xs →
    member (sets ks d) (node a_set (of_list xs)) ≡ true
set-made ks d xs m =
    ap (λ l. rises itself l && list_all (member d) l && set_attributes_hold ks (length l)) (to_list-of_list xs)
    ∙ and-both (rises itself xs && list_all (member d) xs) (set_attributes_hold ks (length xs))
    (and-both (rises itself xs) (list_all (member d) xs) m.rise m.inside) m.attributes

-- A multiset of such members is one.
pub mset-made : (ks : List Attribute) (d : Domain) (xs : List Value) → MsetMember ks d xs →
    member (msets ks d) (node a_mset (of_list xs)) ≡ true
mset-made ks d xs m =
    ap (λ l. rises_weakly l && list_all (member d) l && mset_attributes_hold ks l) (to_list-of_list xs)
    ∙ and-both (rises_weakly xs && list_all (member d) xs) (mset_attributes_hold ks xs)
    (and-both (rises_weakly xs) (list_all (member d) xs) m.rise m.inside) m.attributes

-- A pair of members.
abbrev pub is_entry : Domain → Domain → Value → Bool
is_entry d c p = is_pair p && member d (from_of p) && member c (to_of p)

-- A function of such pairs is one.
pub function-made : (ks : List Attribute) (d c : Domain) (ps : List Value) → FunctionMember ks d c ps →
    member (functions ks d c) (node a_function (of_list ps)) ≡ true
function-made ks d c ps m =
    ap (λ l. rises from_of l && list_all (is_entry d c) l && function_attributes_hold ks d c l) (to_list-of_list ps)
    ∙ and-both (rises from_of ps && list_all (is_entry d c) ps) (function_attributes_hold ks d c ps)
    (and-both (rises from_of ps) (list_all (is_entry d c) ps) m.rise m.pairs) m.attributes

-- A relation of such tuples is one.
pub relation-made : (ks : List Attribute) (ds : Domains) (xs : List Value) → RelationMember ks ds xs →
    member (relations ks ds) (node a_relation (of_list xs)) ≡ true
relation-made ks ds xs m =
    ap (λ l. rises itself l && list_all (tuple_member ds) l && relation_attributes_hold ks ds l) (to_list-of_list xs)
    ∙ and-both (rises itself xs && list_all (tuple_member ds) xs) (relation_attributes_hold ks ds xs)
    (and-both (rises itself xs) (list_all (tuple_member ds) xs) m.rise m.inside) m.attributes

-- A partition of such parts is one.
pub partition-made : (ks : List Attribute) (d : Domain) (ps : List Value) → PartitionMember ks d ps →
    member (partitions ks d) (node a_partition (of_list ps)) ≡ true
partition-made ks d ps m =
    ap (λ l. rises itself l && list_all (is_part (member d)) l && not (has_overlap l) && covers (members d) l && partition_attributes_hold ks l) (to_list-of_list ps)
    ∙ and-both (a && b && c && e) (partition_attributes_hold ks ps)
    (and-both (a && b && c) e (and-both (a && b) c (and-both a b m.rise m.parts) m.apart) m.whole) m.attributes
  where
    a : Bool
    a = rises itself ps

    b : Bool
    b = list_all (is_part (member d)) ps

    c : Bool
    c = not (has_overlap ps)

    e : Bool
    e = covers (members d) ps
