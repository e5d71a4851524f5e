use Rattle.std.proofs.Common.{◌≡◌, ◌++◌}
use Rattle.conjure_cli.specs.Texts.{upto}
use Rattle.conjure_cli.specs.CellTexts.{item_of, value_at}
use Rattle.conjure_cli.proofs.texts.push_numbers.Given as goal

abbrev pub invariant-loop-before : goal.invariant-loop-before
invariant-loop-before l = l.text ≡ l.initial.text ++ upto (item_of (value_at l.number l.place)) l.before
