-- Membership in a domain, after the manual's sections on each kind of domain. A member has the canonical form of its kind: the list of a set rises strictly, and so on.
use Rattle.std.specs.Prelude.{Bool, true, false, ◌&&◌, not, List, [], ◌∷◌, map, length, ℤ, pos, int_le, Option, nat_le, nat_eq}
use Rattle.std.specs.List.{list_all, list_any}
use Rattle.std.specs.Ordering.{is_eq}
use Rattle.ess_semantics.specs.Lists.{is_empty, is_some_and, is_none_or, append_all}
use Rattle.ess_semantics.specs.Values.{a_set, a_mset, a_function, a_relation, a_partition, a_record, Value, number, truth, item, node, Values, nil, cons, to_list, of_list, tuple, pair, matrix, from_of, to_of, items_of, itself}
use Rattle.ess_semantics.specs.Order.{orders, same_text, same_texts}
use Rattle.ess_semantics.specs.Collections.{sorted_once, rises, rises_weakly, has_overlap}
use Rattle.ess_semantics.specs.Domains.{Span, Attribute, Domain, Domains, booleans, integers, named, tuples, records, matrices, sets, msets, functions, relations, partitions, no_domains, more_domains, members}
use Rattle.ess_semantics.specs.Attributes.{each_number_holds, set_attributes_hold, mset_attributes_hold, function_attributes_hold, relation_attributes_hold, partition_attributes_hold}

-- Whether a range holds the number.
abbrev pub in_span : ℤ → Span → Bool
in_span n s = is_none_or s.low (λ a. int_le a n) && is_none_or s.high (λ b. int_le n b)

-- Some range holds the number; without a range, all do.
abbrev pub in_spans : List Span → ℤ → Bool
in_spans [] n = true
in_spans (s ∷ ss) n = list_any (in_span n) (s ∷ ss)

-- Whether two lists of values are equal.
abbrev pub same_list : List Value → List Value → Bool
same_list xs ys = is_eq (orders (of_list xs) (of_list ys))

-- A matrix over these index domains, nested, whose elements have the property f. Its indices are all members, rising.
abbrev pub nested_matrix : Domains → (Value → Bool) → Value → Bool
nested_matrix no_domains f v = f v
nested_matrix (more_domains i is) f (matrix ix xs) =
    is_some_and (members i) (λ vs. same_list vs (to_list ix)) &&
    nat_eq (length (to_list ix)) (length (to_list xs)) &&
    list_all (nested_matrix is f) (to_list xs)
nested_matrix (more_domains i is) f _ = false

-- Whether a value is a tuple of two.
abbrev pub is_pair : Value → Bool
is_pair (pair a b) = true
is_pair _ = false

-- Whether a value is a set.
abbrev pub is_set : Value → Bool
is_set (node a_set xs) = true
is_set _ = false

-- A set of f's that isn't empty.
abbrev pub is_part : (Value → Bool) → Value → Bool
is_part f p = is_set p && rises itself (items_of p) && not (is_empty (items_of p)) && list_all f (items_of p)

-- Each of the domain's members stands in some part, and nothing else.
abbrev pub covers : Option (List Value) → List Value → Bool
covers o ps = is_some_and o (λ vs. same_list (sorted_once vs) (sorted_once (append_all (map items_of ps))))

abbrev mutual
  -- Whether the value is a member of the domain.
  pub member : Domain → Value → Bool
  member booleans (truth b) = true
  member (integers ss) (number n) = in_spans ss n
  member (named a n) (item t k) = same_text a t && nat_le 1 k && nat_le k n
  member (tuples ds) (tuple vs) = member_of_each ds vs
  member (records fs ds) (node (a_record gs) vs) = same_texts fs gs && member_of_each ds vs
  member (matrices is d) v = nested_matrix is (member d) v
  member (sets ks d) (node a_set xs) =
      rises itself (to_list xs) && list_all (member d) (to_list xs) &&
      set_attributes_hold ks (length (to_list xs))
  member (msets ks d) (node a_mset xs) =
      rises_weakly (to_list xs) && list_all (member d) (to_list xs) &&
      mset_attributes_hold ks (to_list xs)
  member (functions ks d c) (node a_function xs) =
      rises from_of (to_list xs) && list_all (λ p. is_pair p && member d (from_of p) && member c (to_of p)) (to_list xs) &&
      function_attributes_hold ks d c (to_list xs)
  member (relations ks ds) (node a_relation xs) =
      rises itself (to_list xs) && list_all (tuple_member ds) (to_list xs) &&
      relation_attributes_hold ks ds (to_list xs)
  member (partitions ks d) (node a_partition ps) =
      rises itself (to_list ps) && list_all (is_part (member d)) (to_list ps) &&
      not (has_overlap (to_list ps)) && covers (members d) (to_list ps) &&
      partition_attributes_hold ks (to_list ps)
  member _ v = false

  -- Each component is a member of its domain.
  pub member_of_each : Domains → Values → Bool
  member_of_each no_domains nil = true
  member_of_each (more_domains d ds) (cons v vs) = member d v && member_of_each ds vs
  member_of_each _ vs = false

  -- A tuple of members.
  pub tuple_member : Domains → Value → Bool
  tuple_member no_domains (tuple nil) = true
  tuple_member (more_domains d ds) (tuple (cons v vs)) = member d v && member_of_each ds vs
  tuple_member _ v = false

-- ---- what is asked of the attributes of a declaration

abbrev mutual
  -- f of the attribute list of each layer of the domain.
  pub each_layer : (List Attribute → Bool) → Domain → Bool
  each_layer f (tuples ds) = each_layer_of_all f ds
  each_layer f (records fs ds) = each_layer_of_all f ds
  each_layer f (matrices is d) = each_layer_of_all f is && each_layer f d
  each_layer f (sets ks d) = f ks && each_layer f d
  each_layer f (msets ks d) = f ks && each_layer f d
  each_layer f (functions ks d c) = f ks && each_layer f d && each_layer f c
  each_layer f (relations ks ds) = f ks && each_layer_of_all f ds
  each_layer f (partitions ks d) = f ks && each_layer f d
  each_layer f d = true

  -- The same of several domains.
  pub each_layer_of_all : (List Attribute → Bool) → Domains → Bool
  each_layer_of_all f no_domains = true
  each_layer_of_all f (more_domains d ds) = each_layer f d && each_layer_of_all f ds

-- No attribute value is below 0.
abbrev pub no_negative_attribute : Domain → Bool
no_negative_attribute d = each_layer (λ ks. each_number_holds ks (λ k n. int_le (pos 0) n)) d
