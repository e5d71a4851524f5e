use Rattle.std.proofs.Common.{◌≡◌, ◌++◌, take}
use Rattle.conjure_cli_laws.specs.ModelText.{header_find}
use Rattle.conjure_cli.specs.Writing.{find_lines}
use Rattle.conjure_cli.specs.Lines.{statements}
use Rattle.conjure_cli.proofs.writer.put_header_finds.Given as goal

abbrev pub invariant-loop-line : goal.invariant-loop-line
invariant-loop-line l = l.text.items ≡ l.initial.text.items ++ find_lines header_find (statements (take l.line-index l.lines))
