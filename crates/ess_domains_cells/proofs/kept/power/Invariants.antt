use Rattle.std.proofs.Common.{◌≡◌, ◌^◌}
use Rattle.ess_domains_cells.specs.Kept.{kept}
use Rattle.ess_domains_cells.proofs.kept.power.Given as goal

abbrev pub invariant-loop-k : goal.invariant-loop-k
invariant-loop-k l = l.power ≡ kept (l.base ^ l.k)
