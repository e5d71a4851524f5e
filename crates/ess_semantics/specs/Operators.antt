-- What each operator gives for the values of its operands, after the manual's chapter on expressions. `None` stands for
-- a value that isn't there: an undefined term in the sense of Frisch and Stuckey (2009).
use Rattle.std.specs.Prelude.{ℕ, zero, suc, Bool, true, false, ◌&&◌, ◌||◌, not, if◌then◌else◌, List, [], ◌∷◌, ◌++◌, map, length, filter, ℤ, pos, ◌+ℤ◌, ◌-ℤ◌, ◌*ℤ◌, neg_ℤ, nat_abs, Option, Some, None, nat_le, option_map}
use Rattle.std.specs.List.{list_all, list_any}
use Rattle.ess_semantics.specs.declared.words.Op1.{Op1}
use Rattle.ess_semantics.specs.declared.words.Op2.{Op2}
use Rattle.ess_semantics.specs.declared.words.Fun.{Fun}
use Rattle.ess_semantics.specs.Lists.{and_then, or_default, all_some, append_all, zip}
use Rattle.ess_semantics.specs.Values.{Text, a_function, a_relation, a_record, Value, number, truth, node, Values, cons, to_list, of_list, tuple, matrix, from_of, to_of, items_of}
use Rattle.ess_semantics.specs.Order.{same, below, same_text}
use Rattle.ess_semantics.specs.Collections.{holds, value_at, count, sorted_once, set_of, mset_of, relation_of, function_of, partition_of}
use Rattle.ess_semantics.specs.Names.{Names, keys, by_name}
use Rattle.ess_semantics.specs.Trees.{Step, by_value, to_component, to_field, Op, unary, binary, word, index, application, tuple_literal, set_literal, mset_literal, function_literal, relation_literal, partition_literal, matrix_literal, record_literal}
use Rattle.ess_semantics.specs.Numbers.{div_down, mod_down, power_of}

-- ---- numbers and truth values

-- What an operator gives for operands of a wrong number or shape, which no well-typed tree has. So an operator is without
-- a value only where the language says so.
abbrev pub misfit : Value
misfit = truth false

-- The whole number that an operator reads: 0 for any other value.
abbrev pub number_in : Value → ℤ
number_in (number n) = n
number_in _ = pos 0

-- The whole number of a value, where it is one.
abbrev pub int_of : Value → Option ℤ
int_of (number n) = Some n
int_of _ = None

-- The truth value that an operator reads: false for any other value.
abbrev pub truth_in : Value → Bool
truth_in (truth b) = b
truth_in _ = false

-- A truth value.
abbrev pub yes_no : Bool → Option Value
yes_no b = Some (truth b)

-- A whole number.
abbrev pub whole : ℤ → Option Value
whole n = Some (number n)

-- f of two numbers.
abbrev pub on_ints : (ℤ → ℤ → Option ℤ) → Value → Value → Option Value
on_ints f a b = option_map number (f (number_in a) (number_in b))

-- Whether a implies b.
abbrev pub implies : Bool → Bool → Bool
implies a b = not a || b

-- Whether a and b are equal.
abbrev pub iff : Bool → Bool → Bool
iff a b = if a then b else not b

-- ---- lists of values

-- Every member of a occurs in b at least as often.
abbrev pub within : Value → Value → Bool
within a b = list_all (λ x. nat_le (count (items_of a) x) (count (items_of b) x)) (items_of a)

-- As many numbers as the list has items, from k on.
abbrev pub numbers_from : ℕ → List Value → List Value
numbers_from k [] = []
numbers_from k (x ∷ xs) = number (pos k) ∷ numbers_from (suc k) xs

-- A list is a matrix whose index begins at 1.
abbrev pub list_value : List Value → Value
list_value xs = matrix (of_list (numbers_from 1 xs)) (of_list xs)

-- The sum of numbers.
abbrev pub sum_of : List Value → ℤ
sum_of [] = pos 0
sum_of (x ∷ xs) = number_in x +ℤ sum_of xs

-- The product of numbers.
abbrev pub product_of : List Value → ℤ
product_of [] = pos 1
product_of (x ∷ xs) = number_in x *ℤ product_of xs

-- The least value.
abbrev pub least : List Value → Option Value
least [] = None
least (x ∷ []) = Some x
least (x ∷ xs) = option_map (λ m. if below m x then m else x) (least xs)

-- The greatest value.
abbrev pub greatest : List Value → Option Value
greatest [] = None
greatest (x ∷ []) = Some x
greatest (x ∷ xs) = option_map (λ m. if below x m then m else x) (greatest xs)

-- No two items are equal.
abbrev pub all_different : List Value → Bool
all_different [] = true
all_different (x ∷ xs) = not (holds xs x) && all_different xs

-- All items are true.
abbrev pub all_true : List Value → Bool
all_true xs = list_all truth_in xs

-- Some item is true.
abbrev pub any_true : List Value → Bool
any_true xs = list_any truth_in xs

-- The item of a matrix at an index.
abbrev pub item_at : Values → Values → Value → Option Value
item_at (cons i is) (cons x xs) v = if same i v then Some x else item_at is xs v
item_at _ _ v = None

-- The part with x.
abbrev pub part_with : List Value → Value → Option Value
part_with [] x = None
part_with (p ∷ ps) x = if holds (items_of p) x then Some p else part_with ps x

-- The members, as a value of the kind of v.
abbrev pub of_same_kind : Value → List Value → Value
of_same_kind (node k ys) xs = node k (of_list xs)
of_same_kind v xs = v

-- The items as a tuple, which is ordered as a list.
abbrev pub as_list : Value → Value
as_list v = tuple (of_list (items_of v))

-- ---- operators

-- The value of an operator on one operand.
abbrev pub value_of_unary : Op1 → Value → Option Value
value_of_unary Op1.Minus a = whole (neg_ℤ (number_in a))
value_of_unary Op1.Not a = yes_no (not (truth_in a))
value_of_unary Op1.Bar (node k xs) = whole (pos (length (to_list xs)))
value_of_unary Op1.Bar a = whole (pos (nat_abs (number_in a)))

-- The value of an operator on two operands.
abbrev pub value_of_binary : Op2 → Value → Value → Option Value
value_of_binary Op2.Pow a b = on_ints power_of a b
value_of_binary Op2.Times a b = whole (number_in a *ℤ number_in b)
value_of_binary Op2.Div a b = on_ints div_down a b
value_of_binary Op2.Mod a b = on_ints mod_down a b
value_of_binary Op2.Intersect a b = Some (of_same_kind a (filter (λ x. holds (items_of b) x) (items_of a)))
value_of_binary Op2.Plus a b = whole (number_in a +ℤ number_in b)
value_of_binary Op2.Minus (node k xs) b = Some (node k (of_list (filter (λ x. not (holds (items_of b) x)) (to_list xs))))
value_of_binary Op2.Minus a b = whole (number_in a -ℤ number_in b)
value_of_binary Op2.Union a b = Some (of_same_kind a (sorted_once (items_of a ++ items_of b)))
value_of_binary Op2.Eq a b = yes_no (same a b)
value_of_binary Op2.Ne a b = yes_no (not (same a b))
value_of_binary Op2.Lt a b = yes_no (below a b)
value_of_binary Op2.Le a b = yes_no (not (below b a))
value_of_binary Op2.Gt a b = yes_no (below b a)
value_of_binary Op2.Ge a b = yes_no (not (below a b))
value_of_binary Op2.LexLt a b = yes_no (below (as_list a) (as_list b))
value_of_binary Op2.LexLe a b = yes_no (not (below (as_list b) (as_list a)))
value_of_binary Op2.LexGt a b = yes_no (below (as_list b) (as_list a))
value_of_binary Op2.LexGe a b = yes_no (not (below (as_list a) (as_list b)))
value_of_binary Op2.Member a b = yes_no (holds (items_of b) a)
value_of_binary Op2.SubsetEq a b = yes_no (within a b)
value_of_binary Op2.Subset a b = yes_no (within a b && not (same a b))
value_of_binary Op2.SupsetEq a b = yes_no (within b a)
value_of_binary Op2.Supset a b = yes_no (within b a && not (same a b))
value_of_binary Op2.And a b = yes_no (truth_in a && truth_in b)
value_of_binary Op2.Or a b = yes_no (truth_in a || truth_in b)
value_of_binary Op2.Implies a b = yes_no (implies (truth_in a) (truth_in b))
value_of_binary Op2.Iff a b = yes_no (iff (truth_in a) (truth_in b))

-- The value of a function word on one operand.
abbrev pub value_of_word1 : Fun → Value → Option Value
value_of_word1 Fun.Sum v = whole (sum_of (items_of v))
value_of_word1 Fun.Product v = whole (product_of (items_of v))
value_of_word1 Fun.And v = yes_no (all_true (items_of v))
value_of_word1 Fun.Or v = yes_no (any_true (items_of v))
value_of_word1 Fun.Min v = least (items_of v)
value_of_word1 Fun.Max v = greatest (items_of v)
value_of_word1 Fun.AllDiff v = yes_no (all_different (items_of v))
value_of_word1 Fun.ToInt v = whole (pos (if truth_in v then 1 else 0))
value_of_word1 Fun.Defined v = Some (set_of (map from_of (items_of v)))
value_of_word1 Fun.Range v = Some (set_of (map to_of (items_of v)))
value_of_word1 Fun.ToSet v = Some (set_of (items_of v))
value_of_word1 Fun.ToMSet v = Some (mset_of (items_of v))
value_of_word1 Fun.ToRelation v = Some (relation_of (items_of v))
value_of_word1 Fun.Parts v = Some (set_of (items_of v))
value_of_word1 Fun.Participants v = Some (set_of (append_all (map items_of (items_of v))))
value_of_word1 _ v = Some misfit

-- The value of a function word on two operands.
abbrev pub value_of_word2 : Fun → Value → Value → Option Value
value_of_word2 Fun.Image f x = value_at (items_of f) x
value_of_word2 Fun.PreImage f y = Some (set_of (map from_of (filter (λ p. same (to_of p) y) (items_of f))))
value_of_word2 Fun.Freq m x = whole (pos (count (items_of m) x))
value_of_word2 Fun.Party x p = part_with (items_of p) x
value_of_word2 Fun.Together s p = yes_no (list_any (λ q. within s q) (items_of p))
value_of_word2 _ a b = Some misfit

-- The value of a function word.
abbrev pub value_of_word : Fun → List Value → Option Value
value_of_word f (a ∷ []) = value_of_word1 f a
value_of_word f (a ∷ b ∷ []) = value_of_word2 f a b
value_of_word f _ = Some misfit

-- A function at an argument, or whether a tuple is in a relation.
abbrev pub value_of_application : Value → List Value → Option Value
value_of_application (node a_function ps) (x ∷ []) = value_at (to_list ps) x
value_of_application (node a_relation ps) xs = yes_no (holds (to_list ps) (tuple (of_list xs)))
value_of_application _ xs = None

-- The fields stand in the order of their names.
abbrev pub record_value : Names Value → Value
record_value fs = node (a_record (keys fs)) (of_list (map (λ f. f.1) fs))

-- ---- indices

-- The n-th component, from 1.
abbrev pub component : Values → ℕ → Option Value
component (cons v vs) (suc zero) = Some v
component (cons v vs) (suc n) = component vs n
component _ _ = None

-- The value of a field.
abbrev pub field_at : List Text → Values → Text → Option Value
field_at (f ∷ fs) (cons v vs) a = if same_text f a then Some v else field_at fs vs a
field_at _ _ a = None

-- The item of a matrix at an index, where the index is one of the matrix.
abbrev pub at_index : Value → Value → Option Value
at_index (matrix is xs) i = item_at is xs i
at_index v i = None

-- A component of a tuple.
abbrev pub at_component : Value → ℕ → Value
at_component (tuple vs) k = or_default (component vs k) misfit
at_component v k = misfit

-- A field of a record.
abbrev pub at_field : Value → Text → Value
at_field (node (a_record fs) vs) a = or_default (field_at fs vs a) misfit
at_field v a = misfit

-- The value behind a list of steps, with the values of the steps by value.
abbrev pub path_value : Value → List Step → List Value → Option Value
path_value v [] [] = Some v
path_value v (by_value ∷ qs) (i ∷ is) = and_then (at_index v i) (λ w. path_value w qs is)
path_value v (to_component k ∷ qs) is = path_value (at_component v k) qs is
path_value v (to_field a ∷ qs) is = path_value (at_field v a) qs is
path_value v _ _ = Some misfit

-- ---- nodes

-- The value of an operator or literal whose operands have values.
abbrev pub value_of_op : Op → List Value → Option Value
value_of_op (unary o) (a ∷ []) = value_of_unary o a
value_of_op (binary o) (a ∷ b ∷ []) = value_of_binary o a b
value_of_op (word f) xs = value_of_word f xs
value_of_op (index qs) (v ∷ is) = path_value v qs is
value_of_op application (f ∷ xs) = value_of_application f xs
value_of_op tuple_literal xs = Some (tuple (of_list xs))
value_of_op (record_literal fs) xs = Some (record_value (by_name (zip fs xs)))
value_of_op set_literal xs = Some (set_of xs)
value_of_op mset_literal xs = Some (mset_of xs)
value_of_op function_literal xs = function_of xs
value_of_op relation_literal xs = Some (relation_of xs)
value_of_op partition_literal xs = partition_of xs
value_of_op matrix_literal xs = Some (list_value xs)
value_of_op _ xs = Some misfit

-- The truth value, and false for nothing.
abbrev pub as_truth : Option Value → Bool
as_truth (Some (truth b)) = b
as_truth _ = false

-- f of the only truth value.
abbrev pub on_one : (Bool → Bool) → List Bool → Bool
on_one f (a ∷ []) = f a
on_one f _ = false

-- f of the two truth values.
abbrev pub on_two : (Bool → Bool → Bool) → List Bool → Bool
on_two f (a ∷ b ∷ []) = f a b
on_two f _ = false

-- What a connective makes of the truth values of its operands.
abbrev pub connective : Op → Option (List Bool → Bool)
connective (unary Op1.Not) = Some (on_one not)
connective (binary Op2.And) = Some (on_two ◌&&◌)
connective (binary Op2.Or) = Some (on_two ◌||◌)
connective (binary Op2.Implies) = Some (on_two implies)
connective (binary Op2.Iff) = Some (on_two iff)
connective _ = None

-- The value of a node whose operands each have a value or none. A connective reads an operand without a value as false;
-- any other operator has no value where an operand has none.
abbrev pub value_of_node : Op → List (Option Value) → Option Value
value_of_node op os = elim (connective op) [ Some f ↦ yes_no (f (map as_truth os)) | None ↦ and_then (all_some os) (value_of_op op) ]

-- A Boolean always has a truth value: where its terms have nothing it is false.
abbrev pub false_where_undefined : Bool → Option Value → Option Value
false_where_undefined true o = Some (truth (as_truth o))
false_where_undefined false o = o
