-- An index of several steps means what its first step and the others mean.
use Rattle.std.proofs.Common.{◌≡◌, refl, ap, ℕ, List, [], ◌∷◌, Option, Some, None, option_map}
use Rattle.ess_semantics.specs.Lists.{and_then, all_some}
use Rattle.ess_semantics.specs.Values.{Text, Value}
use Rattle.ess_semantics.specs.Trees.{Step, by_value, to_component, to_field, index, Ex, node_ex, more_exs}
use Rattle.ess_semantics.specs.Operators.{at_index, path_value, value_of_op, value_of_node, false_where_undefined}
use Rattle.ess_semantics.specs.Meaning.{Env, meaning, meanings}
use Rattle.ess_rules_laws.specs.IndexSteps.{step_apart}
use Rattle.ess_rules_laws.specs.ViewLaws.{StepsComeApart}
use Rattle.ess_rules_laws.proofs.RuleAnswers.{AnswerKeeps, fires}

-- ---- what the steps give

-- Into a matrix.
by-value : (qs : List Step) (m i : Option Value) (os : List (Option Value)) →
    value_of_node (index (by_value ∷ qs)) (m ∷ i ∷ os) ≡
    value_of_node (index qs) (value_of_node (index (by_value ∷ [])) (m ∷ i ∷ []) ∷ os)
by-value qs None i os = refl
by-value qs (Some v) None os = refl
by-value qs (Some v) (Some w) os = go (at_index v w) (all_some os)
  where
    go : (o : Option Value) (p : Option (List Value)) →
        and_then (option_map (λ xs. v ∷ xs) (option_map (λ xs. w ∷ xs) p)) (value_of_op (index (by_value ∷ qs))) ≡
        and_then (and_then (and_then (at_index v w) (λ u. Some u)) (λ x. option_map (λ xs. x ∷ xs) p)) (value_of_op (index qs))
    go o None = last (at_index v w)
      where
        last : (o : Option Value) → None ≡ and_then (and_then (and_then o (λ u. Some u)) (λ x. option_map (λ xs. x ∷ xs) None))
            (value_of_op (index qs))
        last None = refl
        last (Some u) = refl
    go o (Some xs) = last (at_index v w)
      where
        last : (o : Option Value) → and_then o (λ u. path_value u qs xs) ≡
            and_then (and_then (and_then o (λ u. Some u)) (λ x. option_map (λ xs. x ∷ xs) (Some xs))) (value_of_op (index qs))
        last None = refl
        last (Some u) = refl

-- Into a tuple.
to-component : (k : ℕ) (qs : List Step) (t : Option Value) (os : List (Option Value)) →
    value_of_node (index (to_component k ∷ qs)) (t ∷ os) ≡ value_of_node (index qs)
    (value_of_node (index (to_component k ∷ [])) (t ∷ []) ∷ os)
to-component k qs None os = refl
to-component k qs (Some v) os = go (all_some os)
  where
    go : (p : Option (List Value)) → and_then (option_map (λ xs. v ∷ xs) p) (value_of_op (index (to_component k ∷ qs))) ≡
        and_then (and_then (path_value v (to_component k ∷ []) []) (λ x. option_map (λ xs. x ∷ xs) p)) (value_of_op (index qs))
    go None = refl
    go (Some xs) = refl

-- Into a record.
to-field : (a : Text) (qs : List Step) (t : Option Value) (os : List (Option Value)) →
    value_of_node (index (to_field a ∷ qs)) (t ∷ os) ≡ value_of_node (index qs) (value_of_node (index (to_field a ∷ [])) (t ∷ []) ∷ os)
to-field a qs None os = refl
to-field a qs (Some v) os = go (all_some os)
  where
    go : (p : Option (List Value)) → and_then (option_map (λ xs. v ∷ xs) p) (value_of_op (index (to_field a ∷ qs))) ≡
        and_then (and_then (path_value v (to_field a ∷ []) []) (λ x. option_map (λ xs. x ∷ xs) p)) (value_of_op (index qs))
    go None = refl
    go (Some xs) = refl

-- ---- the rule

apart-answer : (e : Ex) (env : Env) → AnswerKeeps (step_apart e) e env
apart-answer (node_ex b (index (by_value ∷ q ∷ qs)) (more_exs m (more_exs i es))) env = λ h. (
  ap (false_where_undefined b) (by-value (q ∷ qs) (meaning m env) (meaning i env) (meanings es env)),
  ((h.0, (h.1.0, tt)), h.1.1),
)
apart-answer (node_ex b (index (to_component k ∷ q ∷ qs)) (more_exs t es)) env = λ h. (
  ap (false_where_undefined b) (to-component k (q ∷ qs) (meaning t env) (meanings es env)),
  ((h.0, tt), h.1),
)
apart-answer (node_ex b (index (to_field a ∷ q ∷ qs)) (more_exs t es)) env = λ h. (
  ap (false_where_undefined b) (to-field a (q ∷ qs) (meaning t env) (meanings es env)),
  ((h.0, tt), h.1),
)
apart-answer _ env = tt

-- Steps come apart.
pub steps-apart : StepsComeApart
steps-apart e f q env = fires (step_apart e) e f env (apart-answer e env) q
