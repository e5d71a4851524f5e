use Rattle.std.proofs.Common.{◌≡◌}
use Rattle.ess_grammar.specs.Tokens.{lexed, or_else, token_count, first_outside}
use Rattle.ess_lex.specs.Lexing.{left, refusal}
use Rattle.ess_lex.proofs.texts.first_outside.Given as goal

abbrev pub invariant-loop-token : goal.invariant-loop-token
invariant-loop-token l = record {
  refused : refusal (lexed l.text) ≡ refusal (left l.lexer);
  outside : first_outside (lexed l.text) ≡ or_else l.found (first_outside (left l.lexer));
}

abbrev pub decreases-loop-token : goal.decreases-loop-token
decreases-loop-token l = token_count (left l.lexer)
