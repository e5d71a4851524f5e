use Rattle.std.proofs.Common.{◌≡◌, map, take, ◌++◌}
use Rattle.ess_domains_members.proofs.matrices.add_copies.Given as goal

abbrev pub invariant-loop-val : goal.invariant-loop-val
invariant-loop-val l = l.all ≡ l.initial.all ++ take l.val-index l.vals
