-- Function words on more than two operands, which no well-typed tree has.
use Rattle.std.proofs.Common.{◌≡◌, Bool, true, false, List, [], ◌∷◌, Option, Some, None, refl, map, option_map}
use Rattle.std.specs.Prelude.{is_some}
use Rattle.ess_semantics.specs.declared.words.Fun.{Fun}
use Rattle.ess_semantics.specs.Values.{Value}
use Rattle.ess_semantics.specs.Lists.{all_some, and_then}
use Rattle.ess_core.specs.ValueViews.{pure_val}
use Rattle.ess_core.specs.declared.values.Val.{Val}
use Rattle.ess_semantics.specs.Trees.{word}
use Rattle.ess_semantics.specs.Operators.{value_of_node, value_of_word, misfit}

with_rest : (f : Fun) (x y z : Value) (o : Option (List Value))
    → true ≡ is_some (option_map (λ xs. x ∷ xs) (option_map (λ ys. y ∷ ys) (option_map (λ zs. z ∷ zs) o)))
    → and_then (option_map (λ xs. x ∷ xs) (option_map (λ ys. y ∷ ys) (option_map (λ zs. z ∷ zs) o))) (value_of_word f) ≡ Some misfit
with_rest f x y z None h = cc
with_rest f x y z (Some os) h = refl

without_rest : (f : Fun) (x y z : Value) (o : Option (List Value))
    → false ≡ is_some (option_map (λ xs. x ∷ xs) (option_map (λ ys. y ∷ ys) (option_map (λ zs. z ∷ zs) o)))
    → and_then (option_map (λ xs. x ∷ xs) (option_map (λ ys. y ∷ ys) (option_map (λ zs. z ∷ zs) o))) (value_of_word f) ≡ None
without_rest f x y z None h = refl
without_rest f x y z (Some os) h = cc

-- Where each operand has a value.
pub many_operands : (f : Fun) (a b c : Option Value) (os : List (Option Value)) → true ≡ is_some (all_some (a ∷ b ∷ c ∷ os))
    → value_of_node (word f) (a ∷ b ∷ c ∷ os) ≡ Some misfit
many_operands f None b c os h = cc
many_operands f (Some x) None c os h = cc
many_operands f (Some x) (Some y) None os h = cc
many_operands f (Some x) (Some y) (Some z) os h = with_rest f x y z (all_some os) h

-- Where one has none.
pub missing_operand : (f : Fun) (a b c : Option Value) (os : List (Option Value)) → false ≡ is_some (all_some (a ∷ b ∷ c ∷ os))
    → value_of_node (word f) (a ∷ b ∷ c ∷ os) ≡ None
missing_operand f None b c os h = refl
missing_operand f (Some x) None c os h = refl
missing_operand f (Some x) (Some y) None os h = refl
missing_operand f (Some x) (Some y) (Some z) os h = without_rest f x y z (all_some os) h

there_before : (x : Value) (o : Option (List Value)) → is_some (option_map (λ xs. x ∷ xs) o) ≡ is_some o
there_before x None = refl
there_before x (Some xs) = refl

-- An operand that has a value decides nothing.
pub there_more : (v : Val) (os : List (Option Val)) → is_some (all_some (map (option_map pure_val) (Some v ∷ os))) ≡ is_some (all_some (map (option_map pure_val) os))
there_more v os = there_before (pure_val v) (all_some (map (option_map pure_val) os))
