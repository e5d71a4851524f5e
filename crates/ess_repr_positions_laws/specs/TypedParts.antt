-- Types put back part by part: as `with_types` where a value is of the domain's form, and nothing where its kind isn't the domain's.
use Rattle.std.specs.Prelude.{List, [], ◌∷◌, Option, Some, None, option_map}
use Rattle.ess_semantics.specs.Lists.{and_then, each_of}
use Rattle.ess_semantics.specs.Values.{Kind, a_tuple, a_record, a_set, a_mset, a_function, a_relation, a_partition, Value, number, node, pair, matrix, of_list, to_list}
use Rattle.ess_semantics.specs.Domains.{Domain, Domains, booleans, integers, named, tuples, records, matrices, sets, msets, functions, relations, partitions, no_domains, more_domains}
use Rattle.ess_semantics.specs.Tables.{item_of_type}

-- A compound value of these parts, where they are there.
abbrev pub made_of : Kind → Option (List Value) → Option Value
made_of k o = option_map (λ vs. node k (of_list vs)) o

-- A matrix of these indices and items, where both are there.
abbrev pub matrix_of : Option (List Value) → Option (List Value) → Option Value
matrix_of o p = and_then o (λ is. option_map (λ xs. matrix (of_list is) (of_list xs)) p)

-- f of the argument and g of the value of a pair.
abbrev pub typed_pair : (Value → Option Value) → (Value → Option Value) → Value → Option Value
typed_pair f g (pair a b) = and_then (f a) (λ x. option_map (pair x) (g b))
typed_pair f g v = None

-- f of the components of a tuple.
abbrev pub typed_tuple : (List Value → Option (List Value)) → Value → Option Value
typed_tuple f (node a_tuple vs) = made_of a_tuple (f (to_list vs))
typed_tuple f v = None

-- f of the members of a set.
abbrev pub typed_set : (List Value → Option (List Value)) → Value → Option Value
typed_set f (node a_set vs) = made_of a_set (f (to_list vs))
typed_set f v = None

abbrev mutual
  -- The value with types in place of positions; nothing where its kind isn't the domain's.
  pub typed : Domain → Value → Option Value
  typed booleans v = Some v
  typed (integers ss) v = Some v
  typed (named t n) (number k) = item_of_type t n k
  typed (tuples ds) (node a_tuple vs) = made_of a_tuple (typed_each ds (to_list vs))
  typed (records fs ds) (node (a_record gs) vs) = made_of (a_record gs) (typed_each ds (to_list vs))
  typed (matrices is d) v = typed_matrix is (typed d) v
  typed (sets ks d) (node a_set vs) = made_of a_set (each_of (to_list vs) (typed d))
  typed (msets ks d) (node a_mset vs) = made_of a_mset (each_of (to_list vs) (typed d))
  typed (functions ks d c) (node a_function vs) = made_of a_function (each_of (to_list vs) (typed_pair (typed d) (typed c)))
  typed (relations ks ds) (node a_relation vs) = made_of a_relation (each_of (to_list vs) (typed_tuple (typed_each ds)))
  typed (partitions ks d) (node a_partition vs) = made_of a_partition (each_of (to_list vs) (typed_set (λ xs. each_of xs (typed d))))
  typed d v = None

  -- The same of as many values as there are domains.
  pub typed_each : Domains → List Value → Option (List Value)
  typed_each no_domains [] = Some []
  typed_each (more_domains d ds) (v ∷ vs) = and_then (typed d v) (λ w. option_map (λ ws. w ∷ ws) (typed_each ds vs))
  typed_each ds vs = None

  -- The same of a matrix over these index domains, with f of its elements.
  pub typed_matrix : Domains → (Value → Option Value) → Value → Option Value
  typed_matrix no_domains f v = f v
  typed_matrix (more_domains i is) f (matrix ix xs) = matrix_of (each_of (to_list ix) (typed i)) (each_of (to_list xs) (typed_matrix is f))
  typed_matrix (more_domains i is) f v = None
