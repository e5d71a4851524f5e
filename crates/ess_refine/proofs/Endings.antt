-- What is known where there are no more passes.
use Rattle.std.proofs.Common.{◌≡◌, subst, ℕ, false, []}
use Rattle.ess_semantics.specs.Names.{Names}
use Rattle.ess_semantics.specs.Trees.{Ex}
use Rattle.ess_semantics.specs.Types.{Ty}
use Rattle.ess_semantics.specs.Refined.{is_refined}
use Rattle.ess_rules.specs.Ruled.{IsRuled}
use Rattle.ess_refine.specs.Chains.{Leads}
use Rattle.ess_refine.specs.Passes.{Passes}
use Rattle.ess_refine.specs.Settled.{Settled}
use Rattle.ess_refine.specs.Refinements.{IsGivenUp, IsEnded}
use Rattle.ess_refine.specs.declared.passing.Turns.{Turns}

-- What passes count before the first one.
abbrev pub at_first : ℕ → Turns
at_first n = record { next = n; fired = false; everywhere = false }

-- Rules led there.
pub ended_leads : (n m : ℕ) (old new : Ex) → IsEnded n old new m → Leads IsRuled n [] old new m
ended_leads n m old new w = w.leads

-- Where something abstract is left, refining is given up.
pub ended_stuck : (n m : ℕ) (old new : Ex) → IsEnded n old new m → is_refined new ≡ false → IsGivenUp new m
ended_stuck n m old new w e = record { abstract_left = e; settled = w.settled }

-- Passes lead to where no rule fires.
pub passes_settled : (o n : Turns) (g : Names Ty) (a b : Ex) → Passes o [] a b n → g ≡ [] → Settled n.next g b
    → IsEnded o.next a b n.next
passes_settled o n g a b w e h = record { leads = w; settled = subst (λ g. Settled n.next g b) e h }
