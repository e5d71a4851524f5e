use Rattle.std.proofs.Common.{◌+◌, ◌≡◌, ◌<◌, ◌≤◌, ◌++◌, drop, length}
use Rattle.std.specs.Fmt.{decimal}
use Rattle.ess_rows.proofs.text.digits.write.Given as goal

-- what is left to write, before what is written
abbrev pub invariant-loop-left : goal.invariant-loop-left
invariant-loop-left l =
    (decimal l.left ++ drop (l.start + 1) l.buffer ≡ decimal l.fn.number)
    × (length (decimal l.left) ≤ l.start)
    × (l.start < 21)

abbrev pub decreases-loop-left : goal.decreases-loop-left
decreases-loop-left l = l.left
