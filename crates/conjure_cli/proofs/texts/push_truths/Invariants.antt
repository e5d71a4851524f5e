use Rattle.std.proofs.Common.{◌≡◌, ◌++◌}
use Rattle.conjure_cli.specs.Texts.{upto}
use Rattle.conjure_cli.specs.CellTexts.{item_of, truth_at}
use Rattle.conjure_cli.proofs.texts.push_truths.Given as goal

abbrev pub invariant-loop-before : goal.invariant-loop-before
invariant-loop-before l = l.text ≡ l.initial.text ++ upto (item_of (truth_at l.number l.place)) l.before
