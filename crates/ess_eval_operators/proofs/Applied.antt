-- Functions and relations that are applied.
use Rattle.std.proofs.Common.{◌≡◌, refl, sym, ap, ◌∙◌, List, [], ◌∷◌, map, length, get_or, Option, Some, None, option_map}
use Rattle.ess_semantics.specs.Lists.{and_then, all_some}
use Rattle.ess_semantics.specs.Values.{Value, of_list, tuple, truth}
use Rattle.ess_semantics.specs.Trees.{application}
use Rattle.ess_semantics.specs.Collections.{value_at, holds}
use Rattle.ess_semantics.specs.Operators.{value_of_node, value_of_op, value_of_application}
use Rattle.ess_semantics.proofs.Orders.{to_list-of_list}
use Rattle.ess_core.specs.declared.values.Val.{Val}
use Rattle.ess_core.specs.declared.values.Pair.{Pair}
use Rattle.ess_core.specs.declared.values.Val.TheVariants as variant
use Rattle.ess_core.specs.ValueViews.{pure_val, pure_pair}
use Rattle.ess_core.proofs.ValueEquations.{pure_function, pure_relation}

-- A node of an application whose operands have values.
pub node_applied : (f : Value) (os : List (Option Value)) (xs : List Value) → Some xs ≡ all_some os
    → value_of_node application (Some f ∷ os) ≡ value_of_application f xs
node_applied f os xs e = sym (ap (λ o. and_then (option_map (λ ys. f ∷ ys) o) (value_of_op application)) e)

-- One of whose arguments has none.
pub node_not_applied : (f : Value) (os : List (Option Value)) → None ≡ all_some os → value_of_node application (Some f ∷ os) ≡ None
node_not_applied f os e = sym (ap (λ o. and_then (option_map (λ ys. f ∷ ys) o) (value_of_op application)) e)

pub function_applied : (v : Val) (ps : List Pair) (xs : List Val) (x : Val) → v ≡ variant.Function ps → length xs ≡ 1 → x ≡ get_or xs 0 x
    → value_of_application (pure_val v) (map pure_val xs) ≡ value_at (map pure_pair ps) (pure_val x)
function_applied v ps [] x e l h = cc
function_applied v ps (y ∷ []) x e l h =
    ap (λ w. value_of_application (pure_val w) (pure_val y ∷ [])) e ∙ ap (λ w. value_of_application w (pure_val y ∷ [])) (pure_function ps)
    ∙ ap (λ l. value_at l (pure_val y)) (to_list-of_list (map pure_pair ps)) ∙ ap (λ z. value_at (map pure_pair ps) (pure_val z)) (sym h)
function_applied v ps (y ∷ z ∷ xs) x e l h = cc

pub function_not_applied : (v : Val) (ps : List Pair) (xs : List Val) → v ≡ variant.Function ps → (length xs ≡ 1 → ⊥)
    → value_of_application (pure_val v) (map pure_val xs) ≡ None
function_not_applied v ps [] e l = ap (λ w. value_of_application (pure_val w) []) e ∙ ap (λ w. value_of_application w []) (pure_function ps)
function_not_applied v ps (y ∷ []) e l = absurd (l refl)
function_not_applied v ps (y ∷ z ∷ xs) e l =
    ap (λ w. value_of_application (pure_val w) (pure_val y ∷ pure_val z ∷ map pure_val xs)) e
    ∙ ap (λ w. value_of_application w (pure_val y ∷ pure_val z ∷ map pure_val xs)) (pure_function ps)

pub relation_applied : (v : Val) (ts xs : List Val) → v ≡ variant.Relation ts
    → value_of_application (pure_val v) (map pure_val xs) ≡ Some (truth (holds (map pure_val ts) (tuple (of_list (map pure_val xs)))))
relation_applied v ts xs e =
    ap (λ w. value_of_application (pure_val w) (map pure_val xs)) e ∙ ap (λ w. value_of_application w (map pure_val xs)) (pure_relation ts)
    ∙ ap (λ l. Some (truth (holds l (tuple (of_list (map pure_val xs)))))) (to_list-of_list (map pure_val ts))

pub ruleset applied = (node_applied, node_not_applied, function_applied, function_not_applied, relation_applied)
