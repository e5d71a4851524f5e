-- Worked examples: the same for relations and partitions.
use Rattle.std.specs.Prelude.{◌≡◌, refl, ℕ, Bool, true, false, List, [], ◌∷◌, map, filter, pos}
use Rattle.ess_semantics.specs.declared.words.Key.{Key}
use Rattle.ess_semantics.specs.declared.words.ReprKind.{ReprKind}
use Rattle.ess_semantics.specs.Values.{a_partition, Value, node, of_list, pair}
use Rattle.ess_semantics.specs.Collections.{set_of, relation_of}
use Rattle.ess_semantics.specs.Lists.{is_some_and}
use Rattle.ess_semantics.specs.Canonical.{tables_of_value}
use Rattle.ess_semantics.specs.Choice.{alone, over_child}
use Rattle.ess_semantics.specs.Domains.{Attribute, numbered, flagged, Domain, relations, partitions, sets}
use Rattle.ess_semantics.specs.Membership.{member}
use Rattle.ess_semantics.proofs.CellWords.{n, upto, with, of2, atom, both, key, set, some_of, is_canonical, checked}

-- ---- relations of int(1..2) and int(1..2)

abbrev on_two : List Attribute → Domain
on_two ks = relations ks (both (upto 2) (upto 2))

abbrev all_relations : List Value
all_relations = map relation_of (some_of (pair (n 1) (n 1) ∷ pair (n 1) (n 2) ∷ pair (n 2) (n 1) ∷ pair (n 2) (n 2) ∷ []))

abbrev as_matrix : List Attribute → ℕ × ℕ × Bool
as_matrix ks = checked (alone ReprKind.RelationAsMatrix) (on_two ks) (filter (member (on_two ks)) all_relations)

any_relation : as_matrix [] ≡ (16, 16, true)
any_relation = refl

reflexive : as_matrix (key Key.Reflexive) ≡ (16, 4, true)
reflexive = refl

irreflexive : as_matrix (key Key.Irreflexive) ≡ (16, 4, true)
irreflexive = refl

symmetric : as_matrix (key Key.Symmetric) ≡ (16, 8, true)
symmetric = refl

antisymmetric : as_matrix (key Key.AntiSymmetric) ≡ (16, 12, true)
antisymmetric = refl

asymmetric : as_matrix (key Key.ASymmetric) ≡ (16, 3, true)
asymmetric = refl

transitive : as_matrix (key Key.Transitive) ≡ (16, 13, true)
transitive = refl

of_one_tuple : as_matrix (with Key.Size 1) ≡ (16, 4, true)
of_one_tuple = refl

-- as a set of at most one tuple
abbrev one_at_most : List Attribute → Domain
one_at_most ks = on_two (numbered Key.MaxSize (pos 1) ∷ ks)

abbrev as_set : List Attribute → ℕ × ℕ × Bool
as_set ks =
    checked (over_child ReprKind.RelationAsSet (over_child ReprKind.ExplicitVarSizeWithMarker (of2 ReprKind.Tuple atom atom))) (one_at_most ks)
    (filter (member (one_at_most ks)) all_relations)

one_tuple : as_set [] ≡ (18, 5, true)
one_tuple = refl

one_tuple_symmetric : as_set (key Key.Symmetric) ≡ (18, 3, true)
one_tuple_symmetric = refl

one_tuple_irreflexive : as_set (key Key.Irreflexive) ≡ (18, 3, true)
one_tuple_irreflexive = refl

-- ---- partitions from int(1..3)

abbrev parts : List (List ℕ) → Value
parts ls = node a_partition (of_list (map set ls))

abbrev of_three : List Attribute → Domain
of_three ks = partitions ks (upto 3)

abbrev all_partitions : List Value
all_partitions =
    parts ((1 ∷ 2 ∷ 3 ∷ []) ∷ []) ∷ parts ((1 ∷ []) ∷ (2 ∷ 3 ∷ []) ∷ []) ∷ parts ((1 ∷ 2 ∷ []) ∷ (3 ∷ []) ∷ []) ∷
    parts ((1 ∷ 3 ∷ []) ∷ (2 ∷ []) ∷ []) ∷ parts ((1 ∷ []) ∷ (2 ∷ []) ∷ (3 ∷ []) ∷ []) ∷ []

abbrev by_number : List Attribute → ℕ × ℕ × Bool
by_number ks = checked (alone ReprKind.PartitionOccurrence) (of_three ks) (filter (member (of_three ks)) all_partitions)

any_partition : by_number [] ≡ (108, 5, true)
any_partition = refl

regular : by_number (key Key.Regular) ≡ (108, 2, true)
regular = refl

two_parts : by_number (with Key.NumParts 2) ≡ (108, 3, true)
two_parts = refl

at_least_two_parts : by_number (with Key.MinNumParts 2) ≡ (108, 4, true)
at_least_two_parts = refl

at_most_one_part : by_number (with Key.MaxNumParts 1) ≡ (108, 1, true)
at_most_one_part = refl

parts_of_one : by_number (with Key.PartSize 1) ≡ (108, 1, true)
parts_of_one = refl

parts_of_two_or_more : by_number (with Key.MinPartSize 2) ≡ (108, 1, true)
parts_of_two_or_more = refl

parts_of_two_at_most : by_number (with Key.MaxPartSize 2) ≡ (108, 4, true)
parts_of_two_at_most = refl

-- ---- partitions from int(1..2) as sets

abbrev of_two : List Attribute → Domain
of_two ks = partitions ks (upto 2)

abbrev two_partitions : List Value
two_partitions = parts ((1 ∷ 2 ∷ []) ∷ []) ∷ parts ((1 ∷ []) ∷ (2 ∷ []) ∷ []) ∷ []

abbrev as_sets : ReprKind → List Attribute → ℕ × ℕ × Bool
as_sets k ks =
    checked (over_child ReprKind.PartitionAsSet (over_child k (alone ReprKind.Occurrence))) (of_two ks) (filter (member (of_two ks)) two_partitions)

sets_of_parts : as_sets ReprKind.ExplicitVarSizeWithMarker [] ≡ (48, 2, true)
sets_of_parts = refl

-- with `numParts` the set of the parts has no bound of its own
sized_sets_of_parts : as_sets ReprKind.Explicit (with Key.NumParts 2) ≡ (16, 1, true)
sized_sets_of_parts = refl

regular_sets_of_parts : as_sets ReprKind.ExplicitVarSizeWithFlags (key Key.Regular) ≡ (64, 2, true)
regular_sets_of_parts = refl

more_parts_than_members : as_sets ReprKind.Explicit (with Key.NumParts 3) ≡ (64, 0, true)
more_parts_than_members = refl

-- the set of the parts doesn't say that they have one size, the partition does
abbrev regular_of_three : List (List ℕ) → Bool
regular_of_three ls =
    is_some_and (tables_of_value (over_child ReprKind.PartitionAsSet (over_child ReprKind.ExplicitVarSizeWithMarker (alone ReprKind.Occurrence))) (of_three []) (parts ls))
    (is_canonical (over_child ReprKind.PartitionAsSet (over_child ReprKind.ExplicitVarSizeWithMarker (alone ReprKind.Occurrence))) (of_three (key Key.Regular)))

parts_of_one_size : map regular_of_three (((1 ∷ []) ∷ (2 ∷ []) ∷ (3 ∷ []) ∷ []) ∷ ((1 ∷ 2 ∷ []) ∷ (3 ∷ []) ∷ []) ∷ []) ≡ true ∷ false ∷ []
parts_of_one_size = refl

-- a set of partitions
golfers : checked (over_child ReprKind.Explicit (alone ReprKind.PartitionOccurrence)) (sets (with Key.Size 1) (partitions (flagged Key.Regular ∷ numbered Key.NumParts (pos 2) ∷ numbered Key.PartSize (pos 1) ∷ []) (upto 2)))
    (set_of (parts ((1 ∷ []) ∷ (2 ∷ []) ∷ []) ∷ []) ∷ []) ≡ (12, 1, true)
golfers = refl

-- out of use, all members have the part 0
parts_out_of_use : checked (over_child ReprKind.ExplicitVarSizeWithMarker (alone ReprKind.PartitionOccurrence)) (sets (with Key.MaxSize 1) (partitions [] (upto 2)))
    (set_of [] ∷ map (λ p. set_of (p ∷ [])) two_partitions) ≡ (54, 3, true)
parts_out_of_use = refl
