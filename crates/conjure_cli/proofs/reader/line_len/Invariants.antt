use Rattle.std.proofs.Common.{◌≡◌, ◌+◌, drop}
use Rattle.conjure_cli.specs.Reading.{run_len, is_in_line}
use Rattle.conjure_cli.proofs.reader.line_len.Given as goal

abbrev pub invariant-loop-i : goal.invariant-loop-i
invariant-loop-i l = run_len is_in_line l.text ≡ l.i + run_len is_in_line (drop l.i l.text)
