-- The first judgement that a statement fails, as the code answers it.
use Rattle.std.specs.Prelude.{◌≡◌, Option, option_map}
use Rattle.ess_semantics.specs.Trees.{Stm}
use Rattle.ess_semantics.specs.Scopes.{Scope}
use Rattle.ess_semantics.specs.Judgements.{judgements, first_failed, put_in_scope}
use Rattle.ess_types_judging_laws.specs.Verdicts.{findings, first_found}
use Rattle.ess_types.specs.declared.refusal.Judgement.{Judgement}
use Rattle.ess_types.specs.Refusals.{pure_judgement}

-- The answer is the first that what is found of a statement, as it was written (w) and with lettings put in (t), fails.
pub record IsFirstFound (w t : Stm) (s : Scope) (o : Option Judgement) : Type 0 where
  pub first : option_map pure_judgement o ≡ first_found judgements w t (findings w s) (findings t s) s

-- The answer is the first judgement that a statement fails in a scope.
pub record IsJudged (w : Stm) (s : Scope) (o : Option Judgement) : Type 0 where
  pub first : option_map pure_judgement o ≡ first_failed judgements w (put_in_scope w s) s
