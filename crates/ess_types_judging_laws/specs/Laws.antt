-- Laws of judging in one pass, each stated at a function that does nothing, so that its proof is checked with the code.
use Rattle.std.specs.Prelude.{◌≡◌}
use Rattle.ess_semantics.specs.Trees.{Stm}
use Rattle.ess_semantics.specs.Scopes.{Scope}
use Rattle.ess_semantics.specs.Judgements.{judgements, first_failed}
use Rattle.ess_types_judging_laws.specs.Verdicts.{findings, first_found}

-- The first judgement that a statement fails is the first that what is found of it fails.
abbrev pub FailedIsFound : Type 0
FailedIsFound = (w t : Stm) (s : Scope) → first_failed judgements w t s ≡ first_found judgements w t (findings w s) (findings t s) s
