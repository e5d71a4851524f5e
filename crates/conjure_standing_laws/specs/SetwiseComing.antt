-- The law of what comes of constraints and objectives over scalars, ranges and nested sets, stated at a function that does nothing.
use Rattle.std.specs.Prelude.{◌≡◌, ℕ, ◌+◌, ◌≤◌, ◌^◌, Bool, true, List, Option, Some, None}
use Rattle.ess_semantics.specs.Values.{Text}
use Rattle.ess_semantics.specs.Trees.{Ex}
use Rattle.ess_grammar.specs.Models.{Scope}
use Rattle.ess_seen_laws.specs.Seen.{Kind, counted_axes}
use Rattle.ess_lowered_laws.specs.Laws.{Declares}
use Rattle.ess_mixed_models_laws.specs.ess_setwise_laws.Setwise.{setwise_mark, is_setwise_number}
use Rattle.ess_mixed_models_laws.specs.ess_setwise_laws.Laws.{ShowsSets}
use Rattle.conjure_model_laws.specs.Printed.{binders}
use Rattle.conjure_model_laws.specs.Shown.{Shows}
use Rattle.conjure_modelling.specs.ess_model_written.RulesWritten.{ConstraintComes, ObjectiveComes, ConditionComes}

-- The scalars are single cells and the sets views, over tables that earlier lines declare: something comes of each constraint, of each
-- objective, and of the rule that it has a value. There are numbers for the names that they take.
pub record SetwiseTreesCome : Type 0 where
  pub of_constraints : (sh : Shows) (marks : Text → Option Bool) (sets : Text → Option Kind) (cells : Text → Option (Bool × List ℕ)) →
      ShowsSets sh marks sets cells → (e : Ex) (m : Bool) → setwise_mark marks sets e ≡ Some m → sh.next + binders e ≤ 2 ^ 64 →
      (taken : List Text) (s : Scope) → Declares s (counted_axes cells) → ConstraintComes s taken sh e None → ⊥
  pub of_objectives : (sh : Shows) (marks : Text → Option Bool) (sets : Text → Option Kind) (cells : Text → Option (Bool × List ℕ)) →
      ShowsSets sh marks sets cells → (e : Ex) → is_setwise_number marks sets e ≡ true → sh.next + binders e ≤ 2 ^ 64 →
      (taken : List Text) (s : Scope) → Declares s (counted_axes cells) → ObjectiveComes s taken sh e None → ⊥
  pub of_conditions : (sh : Shows) (marks : Text → Option Bool) (sets : Text → Option Kind) (cells : Text → Option (Bool × List ℕ)) →
      ShowsSets sh marks sets cells → (e : Ex) → is_setwise_number marks sets e ≡ true → sh.next + binders e ≤ 2 ^ 64 →
      (taken : List Text) (s : Scope) → Declares s (counted_axes cells) → ConditionComes s taken sh e None → ⊥
