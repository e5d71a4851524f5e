-- What each attribute asks of a value, after the manual's sections on set, multiset, function, relation and partition
-- domains.
use Rattle.std.specs.Prelude.{ℕ, Bool, true, ◌&&◌, ◌||◌, not, List, [], ◌∷◌, map, length, ℤ, pos, int_le, Option, None, nat_eq}
use Rattle.std.specs.List.{list_all}
use Rattle.ess_semantics.specs.declared.words.Key.{Key}
use Rattle.ess_semantics.specs.Lists.{is_some_and}
use Rattle.ess_semantics.specs.Values.{Value, pair, from_of, to_of, items_of}
use Rattle.ess_semantics.specs.Order.{same}
use Rattle.ess_semantics.specs.Collections.{holds, count, no_twice}
use Rattle.ess_semantics.specs.Domains.{Attribute, numbered, flagged, Domain, Domains, no_domains, more_domains, members}

-- Whether an attribute holds: f says so of one with a number, g of one without.
abbrev pub attribute_holds : (Key → ℤ → Bool) → (Key → Bool) → Attribute → Bool
attribute_holds f g (numbered k n) = f k n
attribute_holds f g (flagged k) = g k

-- Each attribute of the list holds.
abbrev pub each_holds : List Attribute → (Key → ℤ → Bool) → (Key → Bool) → Bool
each_holds ks f g = list_all (attribute_holds f g) ks

-- Each attribute with a number holds, where none without one says anything.
abbrev pub each_number_holds : List Attribute → (Key → ℤ → Bool) → Bool
each_number_holds ks f = each_holds ks f (λ k. true)

-- m members, pairs or tuples, repeats counted.
abbrev pub size_holds : Key → ℤ → ℕ → Bool
size_holds Key.Size n m = int_le n (pos m) && int_le (pos m) n
size_holds Key.MinSize n m = int_le n (pos m)
size_holds Key.MaxSize n m = int_le (pos m) n
size_holds _ n m = true

-- How often each member occurs that occurs at all.
abbrev pub occurs_holds : Key → ℤ → List Value → Bool
occurs_holds Key.MinOccur n xs = list_all (λ x. int_le n (pos (count xs x))) xs
occurs_holds Key.MaxOccur n xs = list_all (λ x. int_le (pos (count xs x)) n) xs
occurs_holds _ n xs = true

-- No two arguments have one value.
abbrev pub is_injective : List Value → Bool
is_injective ps = no_twice to_of ps

-- Each of the values ys is taken.
abbrev pub is_surjective : Option (List Value) → List Value → Bool
is_surjective ys ps = is_some_and ys (λ vs. list_all (λ y. holds (map to_of ps) y) vs)

-- Each of the arguments xs has a value.
abbrev pub is_total : Option (List Value) → List Value → Bool
is_total xs ps = is_some_and xs (λ vs. list_all (λ x. holds (map from_of ps) x) vs)

-- A function with the pairs ps, between domains with the members xs and ys.
abbrev pub function_holds : Key → Option (List Value) → Option (List Value) → List Value → Bool
function_holds Key.Total xs ys ps = is_total xs ps
function_holds Key.Injective xs ys ps = is_injective ps
function_holds Key.Surjective xs ys ps = is_surjective ys ps
function_holds Key.Bijective xs ys ps = is_injective ps && is_surjective ys ps
function_holds _ xs ys ps = true

-- The pair of a and b is in the relation.
abbrev pub related : List Value → Value → Value → Bool
related ps a b = holds ps (pair a b)

-- A relation with the pairs ps, whose first component's domain has the members xs.
abbrev pub relation_holds : Key → Option (List Value) → List Value → Bool
relation_holds Key.Reflexive xs ps = is_some_and xs (λ vs. list_all (λ x. related ps x x) vs)
relation_holds Key.Irreflexive xs ps = list_all (λ p. not (same (from_of p) (to_of p))) ps
relation_holds Key.Symmetric xs ps = list_all (λ p. related ps (to_of p) (from_of p)) ps
relation_holds Key.AntiSymmetric xs ps = list_all (λ p. not (related ps (to_of p) (from_of p)) || same (from_of p) (to_of p)) ps
relation_holds Key.ASymmetric xs ps = list_all (λ p. not (related ps (to_of p) (from_of p))) ps
relation_holds Key.Transitive xs ps = list_all (λ p. list_all (λ q. not (same (to_of p) (from_of q)) || related ps (from_of p) (to_of q)) ps) ps
relation_holds _ xs ps = true

-- How many members each part has.
abbrev pub part_sizes : List Value → List ℕ
part_sizes ps = map (λ p. length (items_of p)) ps

-- All numbers are equal.
abbrev pub all_equal : List ℕ → Bool
all_equal [] = true
all_equal (n ∷ ns) = list_all (nat_eq n) ns

-- An attribute with a number of a partition with the parts ps.
abbrev pub partition_holds : Key → ℤ → List Value → Bool
partition_holds Key.NumParts n ps = size_holds Key.Size n (length ps)
partition_holds Key.MinNumParts n ps = size_holds Key.MinSize n (length ps)
partition_holds Key.MaxNumParts n ps = size_holds Key.MaxSize n (length ps)
partition_holds Key.PartSize n ps = list_all (size_holds Key.Size n) (part_sizes ps)
partition_holds Key.MinPartSize n ps = list_all (size_holds Key.MinSize n) (part_sizes ps)
partition_holds Key.MaxPartSize n ps = list_all (size_holds Key.MaxSize n) (part_sizes ps)
partition_holds _ n ps = true

-- An attribute without a number of a partition with the parts ps.
abbrev pub parts_hold : Key → List Value → Bool
parts_hold Key.Regular ps = all_equal (part_sizes ps)
parts_hold _ ps = true

-- ---- all attributes of a domain

-- Those of a set of m members.
abbrev pub set_attributes_hold : List Attribute → ℕ → Bool
set_attributes_hold ks m = each_number_holds ks (λ k n. size_holds k n m)

-- Those of a multiset of these members.
abbrev pub mset_attributes_hold : List Attribute → List Value → Bool
mset_attributes_hold ks xs = each_number_holds ks (λ k n. size_holds k n (length xs) && occurs_holds k n xs)

-- Those of a function from d to c with these pairs.
abbrev pub function_attributes_hold : List Attribute → Domain → Domain → List Value → Bool
function_attributes_hold ks d c ps = each_holds ks (λ k n. size_holds k n (length ps)) (λ k. function_holds k (members d) (members c) ps)

-- The members of the first component.
abbrev pub head_members : Domains → Option (List Value)
head_members no_domains = None
head_members (more_domains d ds) = members d

-- Those of a relation over these components with these tuples.
abbrev pub relation_attributes_hold : List Attribute → Domains → List Value → Bool
relation_attributes_hold ks ds ps = each_holds ks (λ k n. size_holds k n (length ps)) (λ k. relation_holds k (head_members ds) ps)

-- Those of a partition with these parts.
abbrev pub partition_attributes_hold : List Attribute → List Value → Bool
partition_attributes_hold ks ps = each_holds ks (λ k n. partition_holds k n ps) (λ k. parts_hold k ps)
