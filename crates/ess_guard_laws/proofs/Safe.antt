-- Operators that have a value wherever their operands have one.
use Rattle.std.proofs.Common.{◌≡◌, refl, Bool, true, false, List, [], ◌∷◌, map, Option, Some, None, option_map, is_some}
use Rattle.std.specs.List.{list_all}
use Rattle.ess_semantics.specs.declared.words.Op1.{Op1}
use Rattle.ess_semantics.specs.declared.words.Op2.{Op2}
use Rattle.ess_semantics.specs.declared.words.Fun.{Fun}
use Rattle.ess_semantics.specs.Lists.{and_then, all_some}
use Rattle.ess_semantics.specs.Values.{Value, number, truth, item, node}
use Rattle.ess_semantics.specs.Trees.{Step, by_value, to_component, to_field, Op, unary, binary, word, index, application, tuple_literal, set_literal, mset_literal, function_literal, relation_literal, partition_literal, matrix_literal, record_literal}
use Rattle.ess_semantics.specs.Operators.{as_truth, connective, yes_no, value_of_node, value_of_op, value_of_unary, value_of_binary, value_of_word, path_value, at_component, at_field}

-- No step is by a value.
abbrev pub no_values : List Step → Bool
no_values [] = true
no_values (by_value ∷ qs) = false
no_values (q ∷ qs) = no_values qs

-- The operators that ask for nothing.
abbrev pub is_safe : Op → Bool
is_safe (binary Op2.Div) = false
is_safe (binary Op2.Mod) = false
is_safe (binary Op2.Pow) = false
is_safe (word Fun.Min) = false
is_safe (word Fun.Max) = false
is_safe (word Fun.Image) = false
is_safe (word Fun.Party) = false
is_safe (index qs) = no_values qs
is_safe application = false
is_safe function_literal = false
is_safe partition_literal = false
is_safe op = true

unary-some : (o : Op1) (a : Value) → is_some (value_of_unary o a) ≡ true
unary-some Op1.Minus a = refl
unary-some Op1.Not a = refl
unary-some Op1.Bar (number n) = refl
unary-some Op1.Bar (truth b) = refl
unary-some Op1.Bar (item t k) = refl
unary-some Op1.Bar (node k vs) = refl

binary-some : (o : Op2) (a b : Value) → is_safe (binary o) ≡ true → is_some (value_of_binary o a b) ≡ true
binary-some Op2.Div a b e = cc
binary-some Op2.Mod a b e = cc
binary-some Op2.Pow a b e = cc
binary-some Op2.Minus (number n) b e = refl
binary-some Op2.Minus (truth t) b e = refl
binary-some Op2.Minus (item t k) b e = refl
binary-some Op2.Minus (node k vs) b e = refl
binary-some o a b e = refl

word-some : (f : Fun) (xs : List Value) → is_safe (word f) ≡ true → is_some (value_of_word f xs) ≡ true
word-some Fun.Min xs e = cc
word-some Fun.Max xs e = cc
word-some Fun.Image xs e = cc
word-some Fun.Party xs e = cc
word-some f [] e = refl
word-some f (a ∷ []) e = refl
word-some f (a ∷ b ∷ []) e = refl
word-some f (a ∷ b ∷ c ∷ xs) e = refl

path-some : (qs : List Step) (v : Value) (is : List Value) → no_values qs ≡ true → is_some (path_value v qs is) ≡ true
path-some [] v [] e = refl
path-some [] v (i ∷ is) e = refl
path-some (by_value ∷ qs) v is e = cc
path-some (to_component k ∷ qs) v is e = path-some qs (at_component v k) is e
path-some (to_field a ∷ qs) v is e = path-some qs (at_field v a) is e

op-some : (op : Op) (xs : List Value) → is_safe op ≡ true → is_some (value_of_op op xs) ≡ true
op-some (unary o) [] e = refl
op-some (unary o) (a ∷ []) e = unary-some o a
op-some (unary o) (a ∷ b ∷ xs) e = refl
op-some (binary o) [] e = refl
op-some (binary o) (a ∷ []) e = refl
op-some (binary o) (a ∷ b ∷ []) e = binary-some o a b e
op-some (binary o) (a ∷ b ∷ c ∷ xs) e = refl
op-some (word f) xs e = word-some f xs e
op-some (index qs) [] e = refl
op-some (index qs) (v ∷ is) e = path-some qs v is e
op-some application xs e = cc
op-some function_literal xs e = cc
op-some partition_literal xs e = cc
op-some (record_literal fs) xs e = refl
op-some tuple_literal xs e = refl
op-some set_literal xs e = refl
op-some mset_literal xs e = refl
op-some relation_literal xs e = refl
op-some matrix_literal xs e = refl

-- All operands are there.
pub all-there : (os : List (Option Value)) → list_all is_some os ≡ true → is_some (all_some os) ≡ true
all-there [] e = refl
all-there (None ∷ os) e = cc
all-there (Some v ∷ os) e = go (all_some os) (all-there os e)
  where
    go : (o : Option (List Value)) → is_some o ≡ true → is_some (option_map (λ vs. v ∷ vs) o) ≡ true
    go None e = cc
    go (Some xs) e = refl

-- A node of a safe operator.
pub node-some : (op : Op) (os : List (Option Value)) → is_safe op ≡ true → list_all is_some os ≡ true → is_some (value_of_node op os) ≡ true
node-some op os s e = go (connective op) (all_some os) (all-there os e)
  where
    go : (c : Option (List Bool → Bool)) (o : Option (List Value)) → is_some o ≡ true → is_some (elim c [ Some f ↦ yes_no (f (map as_truth os)) | None ↦ and_then o (value_of_op op) ]) ≡ true
    go (Some f) o e = refl
    go None None e = cc
    go None (Some xs) e = op-some op xs s
