use Rattle.std.proofs.Common.{◌≡◌, drop}
use Rattle.ess_types_judging.specs.ScopeViews.{pure_scope}
use Rattle.ess_types_judging.proofs.OrderLemmas.{ordered}
use Rattle.ess_types_judging.proofs.finishing.are_ordered.Given as goal

abbrev pub invariant-loop-i : goal.invariant-loop-i
invariant-loop-i l = ordered l.tys (pure_scope l.scope) ≡ ordered (drop l.i l.tys) (pure_scope l.scope)
