use Rattle.std.proofs.Common.{◌≡◌}
use Rattle.ess_grammar.specs.Tokens.{lexed, token_count}
use Rattle.ess_grammar.specs.Places.{end_place}
use Rattle.ess_lex.specs.Lexing.{left}
use Rattle.ess_parse.specs.Runs.{run_over}
use Rattle.ess_parse.specs.NamedRepresentations.{step_line, finish_line, word_wanted}
use Rattle.ess_parse.specs.NamedReprViews.{view_line}
use Rattle.ess_parse.proofs.AsciiTokens.{AreAscii}
use Rattle.ess_parse.proofs.representations.named.run.Given as goal

abbrev pub invariant-loop-line : goal.invariant-loop-line
invariant-loop-line l =
    record {
      same : run_over step_line finish_line (end_place l.text) (lexed l.text) word_wanted ≡ run_over step_line finish_line (end_place l.text) (left l.lexer) (view_line l.line);
      ascii : AreAscii (left l.lexer);
    }

abbrev pub decreases-loop-line : goal.decreases-loop-line
decreases-loop-line l = token_count (left l.lexer)
