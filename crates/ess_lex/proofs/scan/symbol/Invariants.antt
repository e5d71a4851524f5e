use Rattle.std.proofs.Common.{◌≡◌, ◌≤◌, length, min}
use Rattle.ess_grammar.specs.Tokens.{symbol_of, longest}
use Rattle.ess_lex.proofs.scan.symbol.Given as goal

abbrev pub invariant-loop-len : goal.invariant-loop-len
invariant-loop-len l = record {
  within : l.len ≤ length l.text;
  longest : longest symbol_of (min (length l.text) 5) l.text ≡ longest symbol_of l.len l.text;
}

abbrev pub decreases-loop-len : goal.decreases-loop-len
decreases-loop-len l = l.len
