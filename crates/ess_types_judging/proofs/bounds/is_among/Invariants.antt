use Rattle.std.proofs.Common.{◌≡◌, drop}
use Rattle.ess_semantics.specs.Names.{is_among}
use Rattle.ess_types_judging.proofs.bounds.is_among.Given as goal

abbrev pub invariant-loop-i : goal.invariant-loop-i
invariant-loop-i l = is_among l.names l.name ≡ is_among (drop l.i l.names) l.name
