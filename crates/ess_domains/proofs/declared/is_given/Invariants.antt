use Rattle.std.proofs.Common.{◌≡◌, map, drop}
use Rattle.std.specs.List.{list_any}
use Rattle.ess_semantics.specs.Names.{is_among}
use Rattle.ess_semantics.specs.Parameters.{given_of, givens}
use Rattle.ess_core.specs.StatementViews.{pure_stm}
use Rattle.ess_domains.proofs.declared.is_given.Given as goal

abbrev pub invariant-loop-stm : goal.invariant-loop-stm
invariant-loop-stm l = is_among (givens (map pure_stm l.stms)) l.name ≡ list_any (λ s. is_among (given_of (pure_stm s)) l.name) (drop l.stm-index l.stms)
