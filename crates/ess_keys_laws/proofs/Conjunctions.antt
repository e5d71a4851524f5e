-- A long conjunction means the same as a list under `and`.
use Rattle.std.proofs.Common.{◌≡◌, refl, ap, ◌∙◌, Bool, true, false, ◌&&◌, not, List, [], ◌∷◌, Option, Some, None, option_map}
use Rattle.ess_semantics.specs.declared.words.Op2.{Op2}
use Rattle.ess_semantics.specs.declared.words.Fun.{Fun}
use Rattle.ess_semantics.specs.Lists.{and_then, or_default, when, all_some}
use Rattle.ess_semantics.specs.Values.{Value, number, truth, item, node}
use Rattle.ess_semantics.specs.Trees.{binary, word, matrix_literal, Ex, node_ex, more_exs, ex2, fun1}
use Rattle.ess_semantics.specs.Operators.{as_truth, implies, list_value, value_of_op, value_of_node, false_where_undefined}
use Rattle.ess_semantics.specs.Meaning.{Env, meaning, meanings}
use Rattle.ess_keys_laws.specs.Chains.{is_of_flat_form, chain, all_under_and, has_many, conjuncts_of, conjunction_fold}

-- ---- values

-- A literal of one item is the list of it.
pub single : (o : Option Value) → value_of_node matrix_literal (o ∷ []) ≡ option_map list_value (option_map (λ v. v ∷ []) o)
single None = refl
single (Some v) = refl

-- The fold of a list that is there or not.
abbrev pub Fold : Fun → Option (List Value) → Option Value
Fold f x = false_where_undefined true (value_of_node (word f) (option_map list_value x ∷ []))

-- What a connective makes of two values.
abbrev pub Under : Op2 → Option Value → Option Value → Option Value
Under o c r = false_where_undefined true (value_of_node (binary o) (c ∷ r ∷ []))

-- `and` of one value is its truth value.
pub and-alone : (o : Option Value) → Fold Fun.And (option_map (λ v. v ∷ []) o) ≡ Some (truth (as_truth o))
and-alone None = refl
and-alone (Some (truth true)) = refl
and-alone (Some (truth false)) = refl
and-alone (Some (number n)) = refl
and-alone (Some (item t k)) = refl
and-alone (Some (node k xs)) = refl

-- Values as a list under `and`.
abbrev pub All : List (Option Value) → Option Value
All os = false_where_undefined true (value_of_node (word Fun.And) (value_of_node matrix_literal os ∷ []))

-- One of them.
pub all-alone : (o : Option Value) → All (o ∷ []) ≡ Some (truth (as_truth o))
all-alone o = ap (λ x. false_where_undefined true (value_of_node (word Fun.And) (x ∷ []))) (single o) ∙ and-alone o

-- The same of their values, where all are there.
abbrev AllOf : Option (List Value) → Option Value
AllOf x = false_where_undefined true (value_of_node (word Fun.And) (and_then x (value_of_op matrix_literal) ∷ []))

-- One more of them is one more conjunct.
pub all-more : (o r : Option Value) (os : List (Option Value)) → All os ≡ Some (truth (as_truth r))
    → All (o ∷ os) ≡ Some (truth (as_truth (Under Op2.And o r)))
all-more o r os h = go o (all_some os) h
  where
    go : (o : Option Value) (x : Option (List Value)) → AllOf x ≡ Some (truth (as_truth r))
        → AllOf (and_then o (λ v. option_map (λ vs. v ∷ vs) x)) ≡ Some (truth (as_truth (Under Op2.And o r)))
    go None x h = refl
    go (Some (truth true)) None h = h
    go (Some (truth true)) (Some vs) h = h
    go (Some (truth false)) None h = refl
    go (Some (truth false)) (Some vs) h = refl
    go (Some (number n)) None h = refl
    go (Some (number n)) (Some vs) h = refl
    go (Some (item t k)) None h = refl
    go (Some (item t k)) (Some vs) h = refl
    go (Some (node k xs)) None h = refl
    go (Some (node k xs)) (Some vs) h = refl

curried : (p q t s : Bool) → Some (truth (implies q t)) ≡ Some (truth s) → Some (truth (implies (p && q) t)) ≡ Some (truth (implies p s))
curried true q t s h = h
curried false q t s h = refl

-- What holds under several holds under one more where it does under that.
pub implied-more : (o r m : Option Value) (os : List (Option Value)) → Under Op2.Implies (All os) m ≡ Some (truth (as_truth r))
    → Under Op2.Implies (All (o ∷ os)) m ≡ Some (truth (as_truth (Under Op2.Implies o r)))
implied-more o r m os h =
    ap (λ x. Under Op2.Implies x m) (all-more o (All os) os refl) ∙ curried (as_truth o) (as_truth (All os)) (as_truth m) (as_truth r) h

-- ---- trees

chain-means : (e : Ex) (env : Env) → All (meanings (chain e) env) ≡ Some (truth (as_truth (meaning e env)))
chain-means (ex2 true Op2.And a r) env = all-more (meaning a env) (meaning r env) (meanings (chain r) env) (chain-means r env)
chain-means e env = all-alone (meaning e env)

-- The conjuncts of a tree mean what it means.
conjuncts_of-means : (e : Ex) (env : Env) → All (meanings (conjuncts_of e) env) ≡ Some (truth (as_truth (meaning e env)))
conjuncts_of-means (fun1 true Fun.And (node_ex false matrix_literal es)) env = refl
conjuncts_of-means e env = chain-means e env

listed-means : (b : Bool) (a r : Ex) (env : Env)
    → meaning (or_default (when b (all_under_and (more_exs a (conjuncts_of r)))) (ex2 true Op2.And a r)) env
    ≡ meaning (ex2 true Op2.And a r) env
listed-means true a r env = all-more (meaning a env) (meaning r env) (meanings (conjuncts_of r) env) (conjuncts_of-means r env)
listed-means false a r env = refl

-- What is left of a conjunction means the same.
pub conjunction-means : (a r : Ex) (env : Env)
    → meaning (or_default (conjunction_fold a r) (ex2 true Op2.And a r)) env ≡ meaning (ex2 true Op2.And a r) env
conjunction-means a r env = listed-means (has_many r && not (is_of_flat_form a && is_of_flat_form r)) a r env
