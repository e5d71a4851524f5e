-- What connectives and quantifiers mean, from what their operands mean.
use Rattle.std.proofs.Common.{◌≡◌, refl, ap, ◌∙◌, Bool, true, ◌&&◌, ◌||◌, not, List, [], ◌∷◌, ◌++◌, Option, Some, option_map}
use Rattle.std.specs.List.{list_all, list_any}
use Rattle.ess_semantics.specs.declared.words.Op1.{Op1}
use Rattle.ess_semantics.specs.declared.words.Op2.{Op2}
use Rattle.ess_semantics.specs.declared.words.Fun.{Fun}
use Rattle.ess_semantics.specs.Lists.{and_then}
use Rattle.ess_semantics.specs.Values.{Value, truth}
use Rattle.ess_semantics.specs.Trees.{binary, word, Ex, comp_ex, ex1, ex2, fun1, Gens}
use Rattle.ess_semantics.specs.Operators.{as_truth, implies, iff, all_true, any_true, list_value, value_of_node, false_where_undefined}
use Rattle.ess_semantics.specs.Meaning.{Env, meaning, items_under, collect}
use Rattle.ess_semantics.specs.Contexts.{Each}
use Rattle.ess_semantics.proofs.Orders.{to_list-of_list}

-- ---- connectives

module _ (env : Env) (a b : Ex) (x y : Bool) (p : meaning a env ≡ Some (truth x)) (q : meaning b env ≡ Some (truth y)) where
  -- `a /\ b` of truth values.
  pub and-means : meaning (ex2 true Op2.And a b) env ≡ Some (truth (x && y))
  and-means = ap (λ o. Some (truth (as_truth o && as_truth (meaning b env)))) p ∙ ap (λ o. Some (truth (x && as_truth o))) q

  -- `a \/ b`.
  pub or-means : meaning (ex2 true Op2.Or a b) env ≡ Some (truth (x || y))
  or-means = ap (λ o. Some (truth (as_truth o || as_truth (meaning b env)))) p ∙ ap (λ o. Some (truth (x || as_truth o))) q

  -- `a -> b`.
  pub implies-means : meaning (ex2 true Op2.Implies a b) env ≡ Some (truth (implies x y))
  implies-means = ap (λ o. Some (truth (implies (as_truth o) (as_truth (meaning b env))))) p ∙ ap (λ o. Some (truth (implies x (as_truth o)))) q

  -- `a <-> b`.
  pub iff-means : meaning (ex2 true Op2.Iff a b) env ≡ Some (truth (iff x y))
  iff-means = ap (λ o. Some (truth (iff (as_truth o) (as_truth (meaning b env))))) p ∙ ap (λ o. Some (truth (iff x (as_truth o)))) q

-- `!a` of a truth value.
pub not-means : (env : Env) (a : Ex) (x : Bool) → meaning a env ≡ Some (truth x) → meaning (ex1 true Op1.Not a) env ≡ Some (truth (not x))
not-means env a x p = ap (λ o. Some (truth (not (as_truth o)))) p

-- An operator on two operands that have values.
pub binary-means : (env : Env) (t : Bool) (o : Op2) (a b : Ex) (x y : Value) → meaning a env ≡ Some x → meaning b env ≡ Some y →
    meaning (ex2 t o a b) env ≡ false_where_undefined t (value_of_node (binary o) (Some x ∷ Some y ∷ []))
binary-means env t o a b x y p q = ap (λ z. false_where_undefined t (value_of_node (binary o) (z ∷ meaning b env ∷ []))) p ∙ ap (λ z. false_where_undefined t (value_of_node (binary o) (Some x ∷ z ∷ []))) q

-- ---- quantifiers

-- `and` of a comprehension whose items are there.
pub all-means : (env : Env) (e : Ex) (gs : Gens) (xs : List Value) → items_under gs env (λ here. option_map (λ v. v ∷ []) (meaning e here)) ≡ Some xs →
    meaning (fun1 true Fun.And (comp_ex e gs)) env ≡ Some (truth (all_true xs))
all-means env e gs xs p = ap (λ o. false_where_undefined true (value_of_node (word Fun.And) (option_map list_value o ∷ []))) p ∙ ap (λ l. Some (truth (all_true l))) (to_list-of_list xs)

-- The same of `or`.
pub any-means : (env : Env) (e : Ex) (gs : Gens) (xs : List Value) → items_under gs env (λ here. option_map (λ v. v ∷ []) (meaning e here)) ≡ Some xs →
    meaning (fun1 true Fun.Or (comp_ex e gs)) env ≡ Some (truth (any_true xs))
any-means env e gs xs p = ap (λ o. false_where_undefined true (value_of_node (word Fun.Or) (option_map list_value o ∷ []))) p ∙ ap (λ l. Some (truth (any_true l))) (to_list-of_list xs)

-- ---- lists of truth values

-- The truth values of a test, one for each value.
abbrev pub bits : (Value → Bool) → List Value → List Value
bits f [] = []
bits f (v ∷ vs) = truth (f v) ∷ bits f vs

-- One truth value at each value collects these.
pub collect-bits : (vs : List Value) (F : Value → Option (List Value)) (f : Value → Bool) → Each vs (λ v. F v ≡ Some (truth (f v) ∷ [])) → collect vs F ≡ Some (bits f vs)
collect-bits [] F f h = refl
collect-bits (v ∷ vs) F f h =
    ap (λ o. and_then o (λ xs. option_map (λ ys. xs ++ ys) (collect vs F))) h.0 ∙ ap (option_map (λ ys. truth (f v) ∷ ys)) (collect-bits vs F f h.1)

-- All of them are true where the test holds of all values.
pub all-bits : (f : Value → Bool) (vs : List Value) → all_true (bits f vs) ≡ list_all f vs
all-bits f [] = refl
all-bits f (v ∷ vs) = ap (λ b. f v && b) (all-bits f vs)

-- Some of them is true where the test holds of some value.
pub any-bits : (f : Value → Bool) (vs : List Value) → any_true (bits f vs) ≡ list_any f vs
any-bits f [] = refl
any-bits f (v ∷ vs) = ap (λ b. f v || b) (any-bits f vs)
