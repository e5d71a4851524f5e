use Rattle.std.proofs.Common.{◌≡◌, ◌++◌}
use Rattle.conjure_cli.specs.Texts.{upto, pair_lines}
use Rattle.conjure_cli.proofs.texts.push_pairs.Given as goal

abbrev pub invariant-loop-before : goal.invariant-loop-before
invariant-loop-before l = l.text ≡ l.initial.text ++ upto (pair_lines l.number) l.before
