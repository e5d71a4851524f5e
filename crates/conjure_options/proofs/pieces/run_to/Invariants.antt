use Rattle.std.proofs.Common.{◌≡◌, ◌+◌, drop}
use Rattle.conjure_options.specs.Pieces.{run_to}
use Rattle.conjure_options.proofs.pieces.run_to.Given as goal

abbrev pub invariant-loop-i : goal.invariant-loop-i
invariant-loop-i l = run_to l.byte l.text ≡ l.i + run_to l.byte (drop l.i l.text)
