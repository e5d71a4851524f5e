use Rattle.std.proofs.Common.{◌≡◌, drop}
use Rattle.ess_grammar.specs.Tokens.{value_of, value_after}
use Rattle.ess_lex.proofs.bytes.number.Given as goal

abbrev pub invariant-loop-digit : goal.invariant-loop-digit
invariant-loop-digit l = value_of l.digits ≡ value_after l.value (drop l.digit-index l.digits)
