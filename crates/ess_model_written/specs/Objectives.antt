-- The objective that the code answers.
use Rattle.std.specs.Prelude.{List, map, Option, Some, None}
use Rattle.ess_semantics.specs.Values.{Text}
use Rattle.ess_semantics.specs.Trees.{Ex}
use Rattle.ess_semantics.specs.ModelTrees.{Goal}
use Rattle.ess_grammar.specs.Models.{Scope}
use Rattle.eprime_tree.specs.Views.{pure_ex, pure_goal}
use Rattle.conjure_model_laws.specs.Shown.{Shows}
use Rattle.ess_model_written.specs.declared.objectives.Objective.{Objective}
use Rattle.ess_model_written.specs.declared.objectives.Both.{Both}
use Rattle.ess_model_written.specs.RulesWritten.{BothCome, NoneComes, GoalComes, GoalLacks}

module _ (s : Scope) (taken : List Text) (sh : Shows) where
  -- What comes of an expression that is an objective, and of the rule that it has a value.
  abbrev pub BothAnswered : Ex → Option Both → Type 0
  BothAnswered e (Some b) = BothCome s taken sh e (pure_ex s b.objective) (pure_ex s b.condition)
  BothAnswered e None = NoneComes s taken sh e

  -- What comes of an objective in its direction.
  abbrev pub GoalAnswered : Goal → Option Objective → Type 0
  GoalAnswered g (Some b) = GoalComes s taken sh g (pure_goal s b.goal) (map (pure_ex s) b.rules)
  GoalAnswered g None = GoalLacks s taken sh g
