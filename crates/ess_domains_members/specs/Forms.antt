-- What membership asks of a compound value beside that its parts are members of the inner domains.
use Rattle.std.specs.Prelude.{Bool, true, false, ◌&&◌, not, List, length, map, Option}
use Rattle.std.specs.List.{list_all}
use Rattle.ess_semantics.specs.Lists.{is_empty, is_some_and, when, append_all}
use Rattle.ess_semantics.specs.Values.{Value, node, a_set, a_tuple, to_list, from_of, itself}
use Rattle.ess_semantics.specs.Collections.{rises, rises_weakly, no_twice, sorted_once}
use Rattle.ess_semantics.specs.Domains.{Attribute, Domain, Domains}
use Rattle.ess_semantics.specs.Attributes.{set_attributes_hold, mset_attributes_hold, function_attributes_hold, relation_attributes_hold, partition_attributes_hold}
use Rattle.ess_semantics.specs.Membership.{same_list}
use Rattle.ess_values.specs.Parts.{set_members}

-- These are the members of a set in canonical form, and the attributes allow them.
abbrev pub set_form : List Attribute → List Value → Bool
set_form ks vs = rises itself vs && set_attributes_hold ks (length vs)

-- These are the members of a multiset in canonical form, and the attributes allow them.
abbrev pub mset_form : List Attribute → List Value → Bool
mset_form ks vs = rises_weakly vs && mset_attributes_hold ks vs

-- These are the pairs of a function in canonical form, and the attributes allow them.
abbrev pub function_form : List Attribute → Domain → Domain → List Value → Bool
function_form ks d c ps = rises from_of ps && function_attributes_hold ks d c ps

-- These are the tuples of a relation in canonical form, and the attributes allow them.
abbrev pub relation_form : List Attribute → Domains → List Value → Bool
relation_form ks ds ts = rises itself ts && relation_attributes_hold ks ds ts

-- Whether a value is a tuple.
abbrev pub is_tuple : Value → Bool
is_tuple (node a_tuple vs) = true
is_tuple _ = false

-- Whether a value is a set in canonical form that isn't empty.
abbrev pub is_filled : Value → Bool
is_filled (node a_set xs) = rises itself (to_list xs) && not (is_empty (to_list xs))
is_filled _ = false

-- Whether no two places of these sets share a member.
abbrev pub are_disjoint : List Value → Bool
are_disjoint ps = no_twice itself (append_all (map set_members ps))

-- Whether each of these members stands in one of the sets, and nothing else.
abbrev pub are_covered : Option (List Value) → List Value → Bool
are_covered o ps = is_some_and o (λ vs. same_list (sorted_once vs) (sorted_once (append_all (map set_members ps))))

-- These are the parts of a partition, in canonical form, of these members, and the attributes allow them.
abbrev pub partition_form : List Attribute → Option (List Value) → List Value → Bool
partition_form ks o ps =
    rises itself ps && list_all is_filled ps && are_disjoint ps && are_covered o ps && partition_attributes_hold ks ps

-- The members of all parts, where they are those of such a partition.
abbrev pub part_members : List Attribute → Option (List Value) → List Value → Option (List Value)
part_members ks o ps = when (partition_form ks o ps) (append_all (map set_members ps))
