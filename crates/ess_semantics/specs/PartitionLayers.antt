-- The representations of partitions: the number of each member's part, or the set of the parts.
use Rattle.std.specs.Prelude.{ℕ, suc, Bool, ◌&&◌, ◌||◌, if◌then◌else◌, List, [], ◌∷◌, map, length, ℤ, pos, negsuc, ◌+ℤ◌, int_le, int_lt, Option, Some, None}
use Rattle.std.specs.List.{list_any, list_all}
use Rattle.ess_semantics.specs.Lists.{and_then, each_of, is_some_and, only_of}
use Rattle.ess_semantics.specs.Values.{a_set, Value, node, to_list, of_list, items_of}
use Rattle.ess_semantics.specs.Order.{same_int}
use Rattle.ess_semantics.specs.Collections.{holds, set_of, partition_of}
use Rattle.ess_semantics.specs.Numbers.{one_to}
use Rattle.ess_semantics.specs.Domains.{Attribute, Domain, member_list, members, between}
use Rattle.ess_semantics.specs.Attributes.{partition_attributes_hold}
use Rattle.ess_semantics.specs.Membership.{covers}
use Rattle.ess_semantics.specs.Sizes.{bound, child_parts}
use Rattle.ess_semantics.specs.Tables.{code, one_cell, row_of}
use Rattle.ess_semantics.specs.Cells.{Grid, Cells, first_grid, other_grids, first_of_grids, only_grid}
use Rattle.ess_semantics.specs.Layers.{Layer, codes_of, up_to, fixed_table, widened_table, plain_layer, only_child}

-- What is asked of a partition of d with the parts ps: they cover d, and the attributes hold.
abbrev pub is_partition_of : List Attribute → Domain → List Value → Bool
is_partition_of ks d ps = covers (members d) ps && partition_attributes_hold ks ps

-- The members whose number is k.
abbrev pub members_numbered : List Value → List ℤ → ℤ → List Value
members_numbered (x ∷ xs) (w ∷ ws) k = if same_int w k then x ∷ members_numbered xs ws k else members_numbered xs ws k
members_numbered _ _ k = []

-- A number from 1 to n.
abbrev pub is_part_number : ℕ → ℤ → Bool
is_part_number n w = int_le (pos 1) w && int_le w (pos n)

-- The partition of the members xs with the part numbers ws, where the numbers in use are exactly 1 to n.
abbrev pub partition_from_numbers : List Value → List ℤ → ℤ → Option Value
partition_from_numbers xs ws (negsuc n) = None
partition_from_numbers xs ws (pos n) =
    if list_all (is_part_number n) ws then partition_of (map (λ k. set_of (members_numbered xs ws k)) (one_to n)) else None

-- The partition of d that the number of parts and the numbers of the members' parts stand for.
abbrev pub numbered_parts : Domain → Cells → Option Value
numbered_parts d c =
    first_of_grids c (λ f fs. only_grid fs (λ g. and_then (f []) (λ n.
    and_then (each_of (member_list d) (λ x. g (code x ∷ []))) (λ ws. partition_from_numbers (member_list d) ws n))))

-- Whether the part of i has a number one above that of the part of an earlier j.
abbrev pub is_next_after : Grid → ℤ → ℤ → Bool
is_next_after g i j = int_lt j i && is_some_and (g (i ∷ [])) (λ w. is_some_and (g (j ∷ [])) (λ u. same_int w (u +ℤ pos 1)))

-- Parts are numbered by their least member: a number above 1 comes after the number before it.
abbrev pub numbered_by_least : List ℤ → Grid → Bool
numbered_by_least is g = list_all (λ i. is_some_and (g (i ∷ [])) (same_int (pos 1)) || list_any (is_next_after g i) is) is

-- The number of the part with x, where the parts are counted from k.
abbrev pub part_number : ℕ → List Value → Value → ℤ
part_number k [] x = pos 0
part_number k (p ∷ ps) x = if holds (items_of p) x then pos k else part_number (suc k) ps x

-- The number of parts, and the number of each member's part.
abbrev pub partition_occurrence_layer : List Attribute → Domain → Layer
partition_occurrence_layer ks d = record (plain_layer (λ c vss. numbered_parts d c)) {
  own = fixed_table [] (up_to (bound d)) ∷ widened_table (codes_of d ∷ []) (between (pos 1) (pos (bound d))) ∷ [];
  own_tables = λ v ss.
      one_cell (pos (length (items_of v))) ∷ row_of (codes_of d) (map (part_number 1 (items_of v)) (member_list d)) ∷ [];
  is_canonical = λ c vss.
      numbered_by_least (codes_of d) (first_grid (other_grids c)) && is_some_and (numbered_parts d c) (λ v. is_partition_of ks d (items_of v));
}

-- The partition of the members of a set.
abbrev pub partition_from : Value → Option Value
partition_from (node a_set ps) = partition_of (to_list ps)
partition_from _ = None

-- The partition that the only inner value stands for.
abbrev pub partition_of_child : List (List Value) → Option Value
partition_of_child vss = and_then (only_of (only_child vss)) partition_from

-- The partition whose parts are a set of sets, and nothing where one is empty or two of them share a member.
abbrev pub partition_as_set_layer : List Attribute → Domain → Layer
partition_as_set_layer ks d = record (plain_layer (λ c vss. partition_of_child vss)) {
  children = child_parts ks d ∷ [];
  contents = λ v. (Some (node a_set (of_list (items_of v))) ∷ []) ∷ [];
  is_canonical = λ c vss. is_some_and (partition_of_child vss) (λ v. is_partition_of ks d (items_of v));
}
