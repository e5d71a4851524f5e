-- Values of a domain's form: at each depth a value is what the domain is of. It needn't be a member, and a number stands for anything
-- that a cell may hold.
use Rattle.std.specs.Prelude.{Bool, true, false, ◌&&◌}
use Rattle.std.specs.List.{list_all}
use Rattle.ess_semantics.specs.Values.{Value, Values, node, nil, cons, matrix, pair, to_list, a_tuple, a_record, a_set, a_mset, a_function, a_relation, a_partition}
use Rattle.ess_semantics.specs.Domains.{Domain, Domains, booleans, integers, named, tuples, records, matrices, sets, msets, functions, relations, partitions, no_domains, more_domains}

-- Whether it is a pair, of which f and g hold.
abbrev pub is_pair_of : (Value → Bool) → (Value → Bool) → Value → Bool
is_pair_of f g (pair a b) = f a && g b
is_pair_of f g v = false

-- Whether it is a tuple whose components are so.
abbrev pub is_tuple_of : (Values → Bool) → Value → Bool
is_tuple_of f (node a_tuple vs) = f vs
is_tuple_of f v = false

-- Whether it is a set whose members are so.
abbrev pub is_set_of : (Value → Bool) → Value → Bool
is_set_of f (node a_set vs) = list_all f (to_list vs)
is_set_of f v = false

abbrev mutual
  -- Whether the value has the domain's form.
  pub has_form : Domain → Value → Bool
  has_form booleans v = true
  has_form (integers ss) v = true
  has_form (named t n) v = true
  has_form (tuples ds) (node a_tuple vs) = have_forms ds vs
  has_form (records fs ds) (node (a_record gs) vs) = have_forms ds vs
  has_form (matrices is d) v = has_matrix_form is (has_form d) v
  has_form (sets ks d) (node a_set vs) = list_all (has_form d) (to_list vs)
  has_form (msets ks d) (node a_mset vs) = list_all (has_form d) (to_list vs)
  has_form (functions ks d c) (node a_function vs) = list_all (is_pair_of (has_form d) (has_form c)) (to_list vs)
  has_form (relations ks ds) (node a_relation vs) = list_all (is_tuple_of (have_forms ds)) (to_list vs)
  has_form (partitions ks d) (node a_partition vs) = list_all (is_set_of (has_form d)) (to_list vs)
  has_form d v = false

  -- The same of components.
  pub have_forms : Domains → Values → Bool
  have_forms no_domains nil = true
  have_forms (more_domains d ds) (cons v vs) = has_form d v && have_forms ds vs
  have_forms ds vs = false

  -- The same of a matrix over these index domains, where f holds of its elements.
  pub has_matrix_form : Domains → (Value → Bool) → Value → Bool
  has_matrix_form no_domains f v = f v
  has_matrix_form (more_domains i is) f (matrix ix xs) = list_all (has_form i) (to_list ix) && list_all (has_matrix_form is f) (to_list xs)
  has_matrix_form (more_domains i is) f v = false
