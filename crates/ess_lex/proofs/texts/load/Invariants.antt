use Rattle.std.proofs.Common.{◌≡◌}
use Rattle.ess_grammar.specs.Tokens.{lexed, or_else, token_count}
use Rattle.ess_grammar.specs.Load.{too_deep, too_deep_after}
use Rattle.ess_lex.specs.Lexing.{left, refusal}
use Rattle.ess_lex.specs.StackItems.{items_of}
use Rattle.ess_lex.proofs.texts.load.Given as goal

abbrev pub invariant-loop-token : goal.invariant-loop-token
invariant-loop-token l = record {
  refused : refusal (lexed l.text) ≡ refusal (left l.lexer);
  deep : too_deep (lexed l.text) ≡ or_else l.found (too_deep_after l.stack.after_operand (items_of l.stack) (left l.lexer));
}

abbrev pub decreases-loop-token : goal.decreases-loop-token
decreases-loop-token l = token_count (left l.lexer)
