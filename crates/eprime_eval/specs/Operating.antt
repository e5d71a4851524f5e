-- What words over lists give for the items of a list.
use Rattle.std.specs.Prelude.{List, Option}
use Rattle.ess_semantics.specs.Lists.{and_then}
use Rattle.ess_semantics.specs.Values.{Value}
use Rattle.ess_semantics.specs.Trees.{word, is_truth_op, is_truth_op2}
use Rattle.ess_semantics.specs.Operators.{yes_no, whole, sum_of, product_of, all_true, any_true, all_different, least, greatest, list_value, value_of_binary, false_where_undefined}
use Rattle.eprime_tree.specs.declared.words.PFun.{PFun}
use Rattle.eprime_tree.specs.declared.words.POp2.{POp2}
use Rattle.eprime_tree.specs.Views.{pure_fun, pure_op2}

-- The value of a word over these items.
abbrev pub fold_of : PFun → List Value → Option Value
fold_of PFun.And xs = yes_no (all_true xs)
fold_of PFun.Or xs = yes_no (any_true xs)
fold_of PFun.Sum xs = whole (sum_of xs)
fold_of PFun.Product xs = whole (product_of xs)
fold_of PFun.Min xs = least xs
fold_of PFun.Max xs = greatest xs
fold_of PFun.AllDiff xs = yes_no (all_different xs)

-- The value of a word over a list, where it is there; a Boolean is false where it isn't.
abbrev pub folded : PFun → Option (List Value) → Option Value
folded f o = false_where_undefined (is_truth_op (word (pure_fun f))) (and_then o (fold_of f))

-- The value of a sign between two lists with these items.
abbrev pub lex_of : POp2 → List Value → List Value → Option Value
lex_of o xs ys = value_of_binary (pure_op2 o) (list_value xs) (list_value ys)

-- The value of a sign between two lists, where both are there; a Boolean is false where one isn't.
abbrev pub compared : POp2 → Option (List Value) → Option (List Value) → Option Value
compared o p q = false_where_undefined (is_truth_op2 (pure_op2 o)) (and_then p (λ xs. and_then q (λ ys. lex_of o xs ys)))
