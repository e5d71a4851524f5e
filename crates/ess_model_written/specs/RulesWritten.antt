-- What comes of the parts of a specification that become rules of its model.
use Rattle.std.specs.Prelude.{◌≡◌, ℕ, Bool, false, if◌then◌else◌, List, [], ◌∷◌, Option, Some, None}
use Rattle.ess_semantics.specs.Values.{Text}
use Rattle.ess_semantics.specs.Trees.{Ex, truth_ex}
use Rattle.ess_semantics.specs.ModelTrees.{Goal, no_goal, least, greatest}
use Rattle.ess_grammar.specs.Models.{Scope}
use Rattle.conjure_model_laws.specs.ToldApart.{told, told_apart}
use Rattle.conjure_model_laws.specs.Shown.{Shows}
use Rattle.conjure_model_laws.specs.IsBuiltFrom.{constraint_tree, condition_tree, objective_tree}
use Rattle.ess_model_trees.specs.Written.{ComesFrom, next_behind}

-- Whether an expression is `true`.
abbrev pub is_true : Ex → Bool
is_true (truth_ex b) = b
is_true e = false

-- The rules for an expression: none for `true`.
abbrev pub unless_true : Ex → List Ex
unless_true e = if is_true e then [] else e ∷ []

module _ (s : Scope) (taken : List Text) where
  -- What comes of a tree over tables whose bound names are told apart first, with reserved names from the n-th on.
  abbrev pub TreeComes : ℕ → Ex → Option Ex → Type 0
  TreeComes n t o = ComesFrom s taken (told t [] n).1 (told_apart n t) o

  module _ (sh : Shows) where
    -- What comes of a constraint of the specification.
    abbrev pub ConstraintComes : Ex → Option Ex → Type 0
    ConstraintComes e o = ComesFrom s taken (next_behind sh e) (constraint_tree sh e) o

    -- What comes of the rule that an objective has a value.
    abbrev pub ConditionComes : Ex → Option Ex → Type 0
    ConditionComes e o = ComesFrom s taken (next_behind sh e) (condition_tree sh e) o

    -- What comes of an objective.
    abbrev pub ObjectiveComes : Ex → Option Ex → Type 0
    ObjectiveComes e o = ComesFrom s taken (next_behind sh e) (objective_tree sh e) o

    -- What comes of an objective with its rule.
    pub record BothCome (e f r : Ex) : Type 0 where
      pub condition : ConditionComes e (Some r)
      pub objective : ObjectiveComes e (Some f)

    -- The objective of the model comes of that of the specification, with the rule that it has a value.
    abbrev pub GoalComes : Goal → Goal → List Ex → Type 0
    GoalComes no_goal no_goal rs = rs ≡ []
    GoalComes (least e) (least f) (r ∷ []) = BothCome e f r
    GoalComes (greatest e) (greatest f) (r ∷ []) = BothCome e f r
    GoalComes g h rs = ⊥

    -- Of one of them comes nothing.
    pub data NoneComes (e : Ex) : Type 0 where
      no_condition : ConditionComes e None → NoneComes e
      no_objective : ObjectiveComes e None → NoneComes e

    -- The same of an objective in its direction.
    abbrev pub GoalLacks : Goal → Type 0
    GoalLacks no_goal = ⊥
    GoalLacks (least e) = NoneComes e
    GoalLacks (greatest e) = NoneComes e
