-- Literals: the values that files spell. A literal has no operator but `-` before a number; a name in it is one of a value
-- of an enumerated type, or `T_k` for the k-th value of the unnamed type T.
use Rattle.std.specs.Prelude.{ℕ, suc, Bool, true, false, ◌&&◌, not, if◌then◌else◌, List, [], ◌∷◌, ◌++◌, neg_ℤ, Option, Some, None, pos, nat_le, is_some, codes}
use Rattle.std.specs.List.{list_all}
use Rattle.ess_semantics.specs.declared.words.Op1.{Op1}
use Rattle.ess_semantics.specs.Lists.{and_then, or_else, when, all_some, is_some_and, is_empty}
use Rattle.ess_semantics.specs.Values.{Text, Value, number, truth, item}
use Rattle.ess_semantics.specs.Order.{same_text}
use Rattle.ess_semantics.specs.Names.{all_distinct}
use Rattle.ess_semantics.specs.Trees.{Op, unary, tuple_literal, set_literal, mset_literal, function_literal, relation_literal, partition_literal, matrix_literal, record_literal, Ends, one_value, both_ends, Ex, Exs, number_ex, truth_ex, name_ex, node_ex, matrix_ex, no_exs, more_exs, Dom, bool_dom, int_dom, name_dom}
use Rattle.ess_semantics.specs.Types.{Ty, named_ty, join, type_of_dom, join_all, compound2}
use Rattle.ess_semantics.specs.OperatorTypes.{type_of_op}
use Rattle.ess_semantics.specs.Values.{a_matrix}
use Rattle.ess_semantics.specs.Operators.{value_of_op}
use Rattle.ess_semantics.specs.Meaning.{Env, TypeEntry, members_in, matrix_value, domain_of}
use Rattle.ess_semantics.specs.NameTokens.{are_digits, value_after}
use Rattle.ess_semantics.specs.Judgements.{after_prefix}
use Rattle.ess_semantics.specs.Assignments.{unnamed_name}

-- ---- names of values

-- The value of an unnamed type whose name is `T_k`, with k in digits as it is printed.
abbrev pub unnamed_item : TypeEntry → Text → Option Value
unnamed_item t a =
    and_then (after_prefix (t.name ++ codes "_") a) (λ ds.
    let k : ℕ = value_after 0 ds in
    when (are_digits ds && same_text a (unnamed_name t.name k) && nat_le 1 k && nat_le k t.count) (item t.name k))

-- The value of an enumerated type with this name, where the names are counted from k.
abbrev pub named_item : Text → ℕ → List Text → Text → Option Value
named_item t k [] a = None
named_item t k (n ∷ ns) a = if same_text n a then Some (item t k) else named_item t (suc k) ns a

-- The value that a name names.
abbrev pub item_of_name : List TypeEntry → Text → Option Value
item_of_name [] a = None
item_of_name (t ∷ ts) a = or_else (if is_empty t.names then unnamed_item t a else named_item t.name 1 t.names a) (item_of_name ts a)

-- The type of a value of a named type.
abbrev pub type_of_item : Option Value → Option Ty
type_of_item (Some (item t k)) = Some (named_ty t)
type_of_item o = None

-- ---- literals

-- Whether the node is a literal. A record literal has each field once.
abbrev pub is_literal_op : Op → Bool
is_literal_op tuple_literal = true
is_literal_op set_literal = true
is_literal_op mset_literal = true
is_literal_op function_literal = true
is_literal_op relation_literal = true
is_literal_op partition_literal = true
is_literal_op matrix_literal = true
is_literal_op (record_literal fs) = all_distinct fs
is_literal_op op = false

-- A number without a sign, or `-` before one.
abbrev pub is_number_literal : Ex → Bool
is_number_literal (number_ex (pos n)) = true
is_number_literal (node_ex b (unary Op1.Minus) (more_exs (number_ex (pos n)) no_exs)) = true
is_number_literal e = false

-- The same of all expressions.
abbrev pub are_number_literals : Exs → Bool
are_number_literals no_exs = true
are_number_literals (more_exs e es) = is_number_literal e && are_number_literals es

-- A range of one value or with both bounds.
abbrev pub is_one_or_both : Ends → Bool
is_one_or_both one_value = true
is_one_or_both both_ends = true
is_one_or_both r = false

-- The index domain of a matrix literal: bool, a named type, or ranges of numbers.
abbrev pub is_literal_index : Dom → Bool
is_literal_index bool_dom = true
is_literal_index (name_dom a) = true
is_literal_index (int_dom rs es) = not (is_empty rs) && list_all is_one_or_both rs && are_number_literals es
is_literal_index d = false

abbrev mutual
  -- The type of a literal, where it is one.
  pub type_of_literal : Ex → Env → Option Ty
  type_of_literal (number_ex (pos n)) env = Some Ty.int_ty
  type_of_literal (truth_ex b) env = Some Ty.bool_ty
  type_of_literal (name_ex a) env = type_of_item (item_of_name env.types a)
  type_of_literal (node_ex b (unary Op1.Minus) es) env = when (is_number_literal (node_ex b (unary Op1.Minus) es)) Ty.int_ty
  type_of_literal (node_ex b op es) env = if is_literal_op op then and_then (all_some (types_of_literals es env)) (type_of_op op) else None
  type_of_literal (matrix_ex es d) env =
      if is_literal_index d then and_then (all_some (types_of_literals es env)) (λ ts. and_then (join_all ts) (λ t. Some (compound2 a_matrix (type_of_dom d) t))) else None
  type_of_literal e env = None

  -- The types of several literals.
  pub types_of_literals : Exs → Env → List (Option Ty)
  types_of_literals no_exs env = []
  types_of_literals (more_exs e es) env = type_of_literal e env ∷ types_of_literals es env

-- The negative of a number.
abbrev pub minus_number : Exs → Option Value
minus_number (more_exs (number_ex (pos n)) no_exs) = Some (number (neg_ℤ (pos n)))
minus_number es = None

abbrev mutual
  -- The value of a literal, or nothing where it is none or has no value.
  pub value_of_literal : Ex → Env → Option Value
  value_of_literal (number_ex (pos n)) env = Some (number (pos n))
  value_of_literal (truth_ex b) env = Some (truth b)
  value_of_literal (name_ex a) env = item_of_name env.types a
  value_of_literal (node_ex b (unary Op1.Minus) es) env = minus_number es
  value_of_literal (node_ex b op es) env = and_then (all_some (values_of_literals es env)) (value_of_op op)
  value_of_literal (matrix_ex es d) env = and_then (all_some (values_of_literals es env)) (matrix_value (members_in (domain_of d env)))
  value_of_literal e env = None

  -- The values of several literals.
  pub values_of_literals : Exs → Env → List (Option Value)
  values_of_literals no_exs env = []
  values_of_literals (more_exs e es) env = value_of_literal e env ∷ values_of_literals es env

-- The value of an expression that is a literal of this type, and nothing for any other one.
abbrev pub literal_value : Ex → Ty → Env → Option Value
literal_value e t env = if is_some_and (type_of_literal e env) (λ u. is_some (join u t)) then value_of_literal e env else None
