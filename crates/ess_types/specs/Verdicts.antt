-- The verdict on a specification, gathered statement by statement.
use Rattle.std.specs.Prelude.{ℕ, List, [], ◌++◌, Option}
use Rattle.ess_semantics.specs.Names.{Names}
use Rattle.ess_semantics.specs.Trees.{Stm}
use Rattle.ess_semantics.specs.Types.{Ty}
use Rattle.ess_semantics.specs.Scopes.{Scope, empty_scope}
use Rattle.ess_semantics.specs.Lettings.{put_all}
use Rattle.ess_semantics.specs.Prepared.{resolve_all}
use Rattle.ess_semantics.specs.Judgements.{Judgement, first_fault, types_from}

-- The first fault, the declared names with their types, and the statements as they are prepared.
pub record Verdict : Type 0 where
  pub fault : Option (Judgement × ℕ)
  pub names : Names Ty
  pub stms : List Stm

-- The verdict where the statements ws, of which the first has the number k, are left, behind names and prepared statements.
abbrev pub verdict_from : ℕ → List Stm → Scope → Names Ty → List Stm → Verdict
verdict_from k ws s ns ts =
    record { fault = first_fault k ws s; names = ns ++ types_from ws s; stms = ts ++ resolve_all (put_all ws s.lets s.tys) s.tys }

-- The verdict on a specification.
abbrev pub verdict : List Stm → Verdict
verdict S = verdict_from 1 S empty_scope [] []
