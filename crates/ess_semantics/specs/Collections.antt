-- Canonical values: a set is kept as a strictly rising list, a multiset as a rising one, a function as pairs whose
-- first parts rise strictly, a relation as a set of tuples, a partition as a set of disjoint sets that aren't empty.
use Rattle.std.specs.Prelude.{ℕ, suc, Bool, true, false, ◌&&◌, ◌||◌, not, if◌then◌else◌, List, [], ◌∷◌, map, Option, Some, None}
use Rattle.std.specs.List.{list_any}
use Rattle.std.specs.declared.cmp.Ordering.{Ordering}
use Rattle.std.specs.declared.cmp.Ordering.TheVariants.{Less, Equal, Greater}
use Rattle.ess_semantics.specs.Lists.{when, is_empty, append_all}
use Rattle.ess_semantics.specs.Values.{a_set, a_mset, a_function, a_relation, a_partition, Value, node, of_list, from_of, to_of, items_of, itself}
use Rattle.ess_semantics.specs.Order.{order, same, below}

-- Whether v is in the list.
abbrev pub holds : List Value → Value → Bool
holds [] v = false
holds (x ∷ xs) v = same x v || holds xs v

-- How often v is in the list.
abbrev pub count : List Value → Value → ℕ
count [] v = 0
count (x ∷ xs) v = if same x v then suc (count xs v) else count xs v

-- The next step of `place`, by the order of two values.
abbrev pub place_by : Ordering → Value → Value → List Value → List Value → List Value
place_by Less v x xs rest = v ∷ x ∷ xs
place_by Equal v x xs rest = x ∷ xs
place_by Greater v x xs rest = x ∷ rest

-- v put into a strictly rising list.
abbrev pub place : Value → List Value → List Value
place v [] = v ∷ []
place v (x ∷ xs) = place_by (order v x) v x xs (place v xs)

-- The next step of `add`, by the order of two values.
abbrev pub add_by : Ordering → Value → Value → List Value → List Value → List Value
add_by Greater v x xs rest = x ∷ rest
add_by _ v x xs rest = v ∷ x ∷ xs

-- v put into a rising list.
abbrev pub add : Value → List Value → List Value
add v [] = v ∷ []
add v (x ∷ xs) = add_by (order v x) v x xs (add v xs)

-- The items in rising order, with repeats.
abbrev pub sorted : List Value → List Value
sorted [] = []
sorted (x ∷ xs) = add x (sorted xs)

-- The items in rising order, without repeats.
abbrev pub sorted_once : List Value → List Value
sorted_once [] = []
sorted_once (x ∷ xs) = place x (sorted_once xs)

-- Whether the list rises strictly, compared by f.
abbrev pub rises : (Value → Value) → List Value → Bool
rises f [] = true
rises f (x ∷ []) = true
rises f (x ∷ y ∷ ys) = below (f x) (f y) && rises f (y ∷ ys)

-- Whether the list rises, with repeats.
abbrev pub rises_weakly : List Value → Bool
rises_weakly [] = true
rises_weakly (x ∷ []) = true
rises_weakly (x ∷ y ∷ ys) = not (below y x) && rises_weakly (y ∷ ys)

-- Whether no two items are equal, compared by f.
abbrev pub no_twice : (Value → Value) → List Value → Bool
no_twice f [] = true
no_twice f (x ∷ xs) = not (list_any (λ y. same (f x) (f y)) xs) && no_twice f xs

-- The set of these members.
abbrev pub set_of : List Value → Value
set_of xs = node a_set (of_list (sorted_once xs))

-- The multiset of these members.
abbrev pub mset_of : List Value → Value
mset_of xs = node a_mset (of_list (sorted xs))

-- The relation of these tuples.
abbrev pub relation_of : List Value → Value
relation_of xs = node a_relation (of_list (sorted_once xs))

-- Whether two pairs have one first part and differ.
abbrev pub has_double_argument : List Value → Bool
has_double_argument ps = not (no_twice from_of (sorted_once ps))

-- The function of these pairs, where no two of them have one first part and differ.
abbrev pub function_of : List Value → Option Value
function_of ps = when (not (has_double_argument ps)) (node a_function (of_list (sorted_once ps)))

-- The value of a function, given by its pairs, at an argument.
abbrev pub value_at : List Value → Value → Option Value
value_at [] x = None
value_at (p ∷ ps) x = if same (from_of p) x then Some (to_of p) else value_at ps x

-- Whether some part has no member.
abbrev pub has_empty_part : List Value → Bool
has_empty_part parts = list_any (λ p. is_empty (items_of p)) parts

-- Whether two places of the list share a member.
abbrev pub has_overlap : List Value → Bool
has_overlap parts = not (no_twice itself (append_all (map items_of parts)))

-- The partition with these parts, where none is empty and no two share a member.
abbrev pub partition_of : List Value → Option Value
partition_of parts =
    when (not (has_empty_part parts) && not (has_overlap parts)) (node a_partition (of_list (sorted_once parts)))
