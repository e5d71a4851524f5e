use Rattle.std.proofs.Common.{take}
use Rattle.conjure_cli.proofs.WritingLaws.{Written, constraints}
use Rattle.conjure_cli.proofs.writer.put_constraints.Given as goal

abbrev pub invariant-loop-line : goal.invariant-loop-line
invariant-loop-line l = Written l.initial.text.items l.text.items l.some (constraints (take l.line-index l.lines))
