use Rattle.std.proofs.Common.{◌≡◌, drop}
use Rattle.ess_semantics.specs.Names.{all_distinct}
use Rattle.ess_types_judging.proofs.bounds.all_distinct.Given as goal

abbrev pub invariant-loop-i : goal.invariant-loop-i
invariant-loop-i l = all_distinct l.names ≡ all_distinct (drop l.i l.names)
