-- What comes of the tree of a node comes of that of the expression that it stands for.
use Rattle.std.proofs.Common.{◌≡◌, subst, List, map, Option, Some, None, IfOk}
use Rattle.std.specs.Prelude.{Result, option_map}
use Rattle.std.proofs.lemmas.Result.{IfOk-weaker}
use Rattle.ess_semantics.specs.Values.{Text}
use Rattle.ess_semantics.specs.Trees.{Ex}
use Rattle.ess_grammar.specs.Models.{Scope}
use Rattle.eprime_tree.specs.declared.expressions.PEx.{PEx}
use Rattle.eprime_tree.specs.Views.{pure_ex}
use Rattle.conjure_model_laws.specs.Shown.{Shows}
use Rattle.ess_model_written.specs.Answered.{AreAnswered}
use Rattle.ess_model_written.specs.RulesWritten.{ConstraintComes, ConditionComes, ObjectiveComes, BothCome, NoneComes, no_condition, no_objective}

module _ (s : Scope) (taken : List Text) (sh : Shows) (n e : Ex) (is : n ≡ e) where
  -- An objective, and the rule that it has a value.
  pub both_come : (f r : Ex) → ConditionComes s taken sh n (Some r) → ObjectiveComes s taken sh n (Some f) → BothCome s taken sh e f r
  both_come f r h k = record {
    condition = subst (λ x. ConditionComes s taken sh x (Some r)) is h;
    objective = subst (λ x. ObjectiveComes s taken sh x (Some f)) is k;
  }

  -- No rule comes.
  pub no_rule : ConditionComes s taken sh n None → NoneComes s taken sh e
  no_rule h = no_condition (subst (λ x. ConditionComes s taken sh x None) is h)

  -- No objective comes.
  pub no_goal_comes : ObjectiveComes s taken sh n None → NoneComes s taken sh e
  no_goal_comes h = no_objective (subst (λ x. ObjectiveComes s taken sh x None) is h)

-- What comes of constraints comes of those that they are.
pub answered_for : {E : Type 0} (r : Result (Option (List PEx)) E) (s : Scope) (taken : List Text) (sh : Shows) (ns es : List Ex) → ns ≡ es
    → IfOk r (λ o. AreAnswered (ConstraintComes s taken sh) ns (option_map (map (pure_ex s)) o))
    → IfOk r (λ o. AreAnswered (ConstraintComes s taken sh) es (option_map (map (pure_ex s)) o))
answered_for r s taken sh ns es is h =
    IfOk-weaker r (λ o. AreAnswered (ConstraintComes s taken sh) ns (option_map (map (pure_ex s)) o))
    (λ o. AreAnswered (ConstraintComes s taken sh) es (option_map (map (pure_ex s)) o))
    (λ o w. subst (λ l. AreAnswered (ConstraintComes s taken sh) l (option_map (map (pure_ex s)) o)) is w) h
