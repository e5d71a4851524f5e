use Rattle.std.proofs.Common.{◌≡◌, ◌-◌, length}
use Rattle.ess_grammar.specs.Tokens.{lexed_after}
use Rattle.ess_lex.specs.Lexing.{passed, rest}
use Rattle.ess_lex.proofs.LexerSteps.{from_byte}
use Rattle.ess_lex.proofs.lexer.Lexer.skip_blank.Given as goal

abbrev pub invariant-loop-self : goal.invariant-loop-self
invariant-loop-self l = record {
  text : l.self.text ≡ l.fn.self.text;
  left : from_byte l.comment l.self.text.now l.self.at ≡ lexed_after (passed l.fn.self) (rest l.fn.self);
}

abbrev pub decreases-loop-self : goal.decreases-loop-self
decreases-loop-self l = length l.self.text.now - l.self.at
