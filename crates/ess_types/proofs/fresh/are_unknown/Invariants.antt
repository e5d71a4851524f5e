use Rattle.std.proofs.Common.{◌≡◌, drop}
use Rattle.std.specs.List.{list_any}
use Rattle.ess_semantics.specs.Names.{is_among}
use Rattle.ess_semantics.specs.Scopes.{names_in_scope}
use Rattle.ess_types_judging.specs.ScopeViews.{pure_scope}
use Rattle.ess_types.proofs.fresh.are_unknown.Given as goal

abbrev pub invariant-loop-name : goal.invariant-loop-name
invariant-loop-name l =
    list_any (is_among (names_in_scope (pure_scope l.scope))) (drop l.name-index l.names)
    ≡ list_any (is_among (names_in_scope (pure_scope l.scope))) l.names
