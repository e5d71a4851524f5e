use Rattle.std.proofs.Common.{◌≡◌, ◌^◌}
use Rattle.ess_repr_closed.proofs.bounds.power.Given as goal

abbrev pub invariant-loop-k : goal.invariant-loop-k
invariant-loop-k l = l.power ≡ l.base ^ l.k
