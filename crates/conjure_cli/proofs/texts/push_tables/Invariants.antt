use Rattle.std.proofs.Common.{◌≡◌, ◌++◌}
use Rattle.conjure_cli.specs.Texts.{upto}
use Rattle.conjure_cli.specs.CellTexts.{table_lines}
use Rattle.conjure_cli.proofs.texts.push_tables.Given as goal

abbrev pub invariant-loop-before : goal.invariant-loop-before
invariant-loop-before l = l.text ≡ l.initial.text ++ upto (table_lines l.number) l.before
