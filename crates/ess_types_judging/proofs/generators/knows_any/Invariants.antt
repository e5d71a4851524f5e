use Rattle.std.proofs.Common.{◌≡◌, drop}
use Rattle.ess_semantics.specs.Scopes.{names_in_scope}
use Rattle.ess_types_judging.specs.ScopeViews.{pure_scope}
use Rattle.ess_types_judging.proofs.ScopeLemmas.{any_among}
use Rattle.ess_types_judging.proofs.generators.knows_any.Given as goal

abbrev pub invariant-loop-i : goal.invariant-loop-i
invariant-loop-i l =
    any_among (names_in_scope (pure_scope l.scope)) l.names ≡ any_among (names_in_scope (pure_scope l.scope)) (drop l.i l.names)
