use Rattle.eprime_verdicts.proofs.Volumes.{RoomBehind}
use Rattle.eprime_verdicts.proofs.fitting.room.Given as goal

abbrev pub invariant-loop-axis : goal.invariant-loop-axis
invariant-loop-axis l = RoomBehind l.axes l.axis-index l.room
