use Rattle.std.proofs.Common.{◌≡◌, drop}
use Rattle.ess_semantics.specs.Names.{is_among}
use Rattle.ess_types_judging.specs.Bounds.{finds_under, draws_under}
use Rattle.ess_types_judging.proofs.bounds.draws.Given as goal

abbrev pub invariant-loop-i : goal.invariant-loop-i
invariant-loop-i l = is_among (finds_under l.bound l.finds) l.name ≡ draws_under (drop l.i l.bound) l.name l.found
