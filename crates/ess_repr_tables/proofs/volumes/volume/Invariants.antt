use Rattle.std.proofs.Common.{◌≡◌, ◌-◌, drop, length}
use Rattle.ess_semantics.specs.Tables.{volume}
use Rattle.ess_repr_tables.proofs.volumes.volume.Given as goal

abbrev pub invariant-loop-k : goal.invariant-loop-k
invariant-loop-k l = l.volume ≡ volume (drop (length l.axes - l.k) l.axes)
