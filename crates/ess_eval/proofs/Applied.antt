-- Functions and relations whose items rise, applied.
use Rattle.std.proofs.Common.{◌≡◌, refl, ap, ◌∙◌, List, [], ◌∷◌, map, Option, Some, None, option_map}
use Rattle.ess_semantics.specs.Lists.{and_then, all_some}
use Rattle.ess_semantics.specs.Values.{Value, node, a_function, a_relation, of_list, tuple, truth}
use Rattle.ess_semantics.specs.Trees.{application, tuple_literal}
use Rattle.ess_semantics.specs.Collections.{value_at, holds}
use Rattle.ess_semantics.specs.Operators.{value_of_node, value_of_op}
use Rattle.ess_semantics.proofs.Orders.{to_list-of_list}
use Rattle.ess_core.specs.declared.values.Val.{Val}
use Rattle.ess_core.specs.declared.values.Pair.{Pair}
use Rattle.ess_core.specs.declared.values.Val.TheVariants as variant
use Rattle.ess_core.specs.ValueViews.{pure_val, pure_pair}
use Rattle.ess_core.proofs.ValueEquations.{pure_function, pure_relation}
use Rattle.ess_eval.specs.Operands.{value_of_function, value_of_relation}

-- A function at operands.
at-operands : (ps : List Value) (os : List (Option Value))
    → value_of_node application (Some (node a_function (of_list ps)) ∷ os) ≡ value_of_function ps os
at-operands ps [] = refl
at-operands ps (None ∷ []) = refl
at-operands ps (Some x ∷ []) = ap (λ l. value_at l x) (to_list-of_list ps)
at-operands ps (None ∷ o ∷ os) = refl
at-operands ps (Some x ∷ None ∷ os) = refl
at-operands ps (Some x ∷ Some y ∷ os) = go (all_some os)
  where
    go : (o : Option (List Value))
        → and_then (option_map (λ zs. node a_function (of_list ps) ∷ zs) (option_map (λ zs. x ∷ zs) (option_map (λ zs. y ∷ zs) o)))
        (value_of_op application) ≡ None
    go None = refl
    go (Some zs) = refl

pub function_at : (v : Val) (ps : List Pair) (os : List (Option Value)) → v ≡ variant.Function ps
    → value_of_node application (Some (pure_val v) ∷ os) ≡ value_of_function (map pure_pair ps) os
function_at v ps os e =
    ap (λ w. value_of_node application (Some (pure_val w) ∷ os)) e ∙ ap (λ w. value_of_node application (Some w ∷ os)) (pure_function ps)
    ∙ at-operands (map pure_pair ps) os

-- A relation at operands: whether the tuple of them is in it.
pub relation_at : (v : Val) (ts : List Val) (os : List (Option Value)) → v ≡ variant.Relation ts
    → value_of_node application (Some (pure_val v) ∷ os) ≡ value_of_relation (map pure_val ts) os
relation_at v ts os e =
    ap (λ w. value_of_node application (Some (pure_val w) ∷ os)) e ∙ ap (λ w. value_of_node application (Some w ∷ os)) (pure_relation ts)
    ∙ go (all_some os)
  where
    go : (o : Option (List Value))
        → and_then (option_map (λ xs. node a_relation (of_list (map pure_val ts)) ∷ xs) o) (value_of_op application)
        ≡ option_map (λ t. truth (holds (map pure_val ts) t)) (and_then o (value_of_op tuple_literal))
    go None = refl
    go (Some xs) = ap (λ l. Some (truth (holds l (tuple (of_list xs))))) (to_list-of_list (map pure_val ts))

pub ruleset applied = (function_at, relation_at)
