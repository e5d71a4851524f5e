use Rattle.std.proofs.Common.{◌≡◌, ◌+◌, drop}
use Rattle.conjure_cli_laws.specs.SmallGrammar.{is_digit}
use Rattle.conjure_cli.specs.Reading.{run_len}
use Rattle.conjure_cli.proofs.reader.digits_len.Given as goal

abbrev pub invariant-loop-i : goal.invariant-loop-i
invariant-loop-i l = run_len is_digit l.text ≡ l.i + run_len is_digit (drop l.i l.text)
