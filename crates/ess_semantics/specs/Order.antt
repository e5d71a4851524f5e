-- The order of values of one type: numbers by size, false below true, values of a named type by position, all else
-- lexicographic over the lists that the value holds, where a prefix is lower. The manual orders numbers, truth values and
-- enumerated types alone; the rest is this project's own.
use Rattle.std.specs.Prelude.{ℕ, Bool, List, [], ℤ}
use Rattle.std.specs.Ordering.{nat_cmp, int_cmp, bool_cmp, ordering_then, is_eq, is_lt}
use Rattle.std.specs.Cmp.Lexicographic.{slice_cmp}
use Rattle.std.specs.declared.cmp.Ordering.{Ordering}
use Rattle.std.specs.declared.cmp.Ordering.TheVariants.{Less, Equal, Greater}
use Rattle.ess_semantics.specs.Values.{Text, Kind, a_tuple, a_matrix, a_set, a_mset, a_function, a_relation, a_partition, a_record, Value, number, truth, item, node, Values, nil, cons}

-- The order of two names by their bytes; a prefix is lower.
abbrev pub order_text : Text → Text → Ordering
order_text = slice_cmp nat_cmp

-- The order of two lists of names.
abbrev pub order_texts : List Text → List Text → Ordering
order_texts = slice_cmp order_text

-- The order of two lists of numbers.
abbrev pub order_ints : List ℤ → List ℤ → Ordering
order_ints = slice_cmp int_cmp

-- Values of different kinds never have one type; the ranks make the order total all the same.
abbrev pub kind_rank : Kind → ℕ
kind_rank a_tuple = 0
kind_rank (a_record fs) = 1
kind_rank a_matrix = 2
kind_rank a_set = 3
kind_rank a_mset = 4
kind_rank a_function = 5
kind_rank a_relation = 6
kind_rank a_partition = 7

-- A record's fields.
abbrev pub kind_fields : Kind → List Text
kind_fields (a_record fs) = fs
kind_fields _ = []

-- The order of two kinds.
abbrev pub order_kind : Kind → Kind → Ordering
order_kind k l = ordering_then (nat_cmp (kind_rank k) (kind_rank l)) (order_texts (kind_fields k) (kind_fields l))

-- The rank of the form of a value.
abbrev pub rank : Value → ℕ
rank (number n) = 0
rank (truth b) = 1
rank (item t k) = 2
rank (node k xs) = 3

abbrev mutual
  -- The order of two values.
  pub order : Value → Value → Ordering
  order (number a) (number b) = int_cmp a b
  order (truth a) (truth b) = bool_cmp a b
  order (item t a) (item u b) = ordering_then (order_text t u) (nat_cmp a b)
  order (node k xs) (node l ys) = ordering_then (order_kind k l) (orders xs ys)
  order a b = nat_cmp (rank a) (rank b)

  -- The order of two lists of values; a prefix is lower.
  pub orders : Values → Values → Ordering
  orders nil nil = Equal
  orders nil (cons y ys) = Less
  orders (cons x xs) nil = Greater
  orders (cons x xs) (cons y ys) = ordering_then (order x y) (orders xs ys)

-- Whether two values are equal.
abbrev pub same : Value → Value → Bool
same a b = is_eq (order a b)

-- Whether a value is below another one.
abbrev pub below : Value → Value → Bool
below a b = is_lt (order a b)

-- Whether two numbers are equal.
abbrev pub same_int : ℤ → ℤ → Bool
same_int a b = is_eq (int_cmp a b)

-- Whether two lists of numbers are equal.
abbrev pub same_ints : List ℤ → List ℤ → Bool
same_ints a b = is_eq (order_ints a b)

-- Whether two names are equal.
abbrev pub same_text : Text → Text → Bool
same_text a b = is_eq (order_text a b)

-- Whether two lists of names are equal.
abbrev pub same_texts : List Text → List Text → Bool
same_texts a b = is_eq (order_texts a b)

-- Whether two kinds are equal.
abbrev pub same_kind : Kind → Kind → Bool
same_kind k l = is_eq (order_kind k l)
