use Rattle.std.proofs.Common.{◌≡◌, map, drop}
use Rattle.std.specs.List.{list_any}
use Rattle.ess_semantics.specs.Names.{is_among}
use Rattle.ess_semantics.specs.Judgements.{declares}
use Rattle.ess_semantics.specs.Parameters.{all_declared}
use Rattle.ess_core.specs.StatementViews.{pure_stm}
use Rattle.ess_domains.proofs.declared.is_declared.Given as goal

abbrev pub invariant-loop-stm : goal.invariant-loop-stm
invariant-loop-stm l = is_among (all_declared (map pure_stm l.stms)) l.name ≡ list_any (λ s. is_among (declares (pure_stm s)) l.name) (drop l.stm-index l.stms)
