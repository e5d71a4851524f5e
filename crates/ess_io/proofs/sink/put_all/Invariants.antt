-- The first `went` bytes are in the sink, and its count of faults has not fallen.
use Rattle.std.proofs.Common.{length, ◌-◌, ◌≡◌, ◌≤◌, take}
use Rattle.ess_io.specs.Sinks.{grown}
use Rattle.ess_io.proofs.sink.put_all.Given as goal

abbrev pub invariant-loop-went : goal.invariant-loop-went
invariant-loop-went g l =
    (l.went ≤ length l.bytes) × (g.S.Sink.bytes l.sink ≡ grown (g.S.Sink.bytes l.initial.sink) (take l.went l.bytes))
    × (g.S.Sink.faults l.initial.sink ≤ g.S.Sink.faults l.sink)

abbrev pub decreases-loop-went : goal.decreases-loop-went
decreases-loop-went g l = length l.bytes - l.went
