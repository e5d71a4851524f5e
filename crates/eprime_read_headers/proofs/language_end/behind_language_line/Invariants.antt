use Rattle.std.proofs.Common.{◌+◌, length}
use Rattle.ess_grammar.specs.ModelTexts.{behind_language_line}
use Rattle.eprime_read_headers.proofs.FifthToken.{GoesOn}
use Rattle.eprime_read_headers.proofs.language_end.behind_language_line.Given as goal

abbrev pub invariant-loop-tokens : goal.invariant-loop-tokens
invariant-loop-tokens l = GoesOn l.tokens l.rest (behind_language_line l.text)

abbrev pub decreases-loop-tokens : goal.decreases-loop-tokens
decreases-loop-tokens l = l.tokens + length l.rest
