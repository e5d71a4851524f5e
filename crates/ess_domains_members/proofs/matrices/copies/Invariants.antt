use Rattle.std.proofs.Common.{◌≡◌, map, take}
use Rattle.ess_domains_members.proofs.matrices.copies.Given as goal

abbrev pub invariant-loop-val : goal.invariant-loop-val
invariant-loop-val l = l.row ≡ take l.val-index l.vals
