use Rattle.std.proofs.Common.{◌≡◌, length}
use Rattle.conjure_cli_laws.specs.SmallGrammar.{lines_of}
use Rattle.conjure_cli.specs.Reading.{read_lines}
use Rattle.conjure_cli.specs.Lines.{statements}
use Rattle.conjure_cli.proofs.LineLaws.{in_front}
use Rattle.conjure_cli.proofs.reader.read_lines.Given as goal

abbrev pub invariant-loop-rest : goal.invariant-loop-rest
invariant-loop-rest l = read_lines (lines_of l.text) ≡ in_front (statements l.lines.items) (read_lines (lines_of l.rest))

abbrev pub decreases-loop-rest : goal.decreases-loop-rest
decreases-loop-rest l = length l.rest
