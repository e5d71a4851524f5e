use Rattle.std.proofs.Common.{◌≡◌}
use Rattle.ess_grammar.specs.Tokens.{lexed, token_count}
use Rattle.ess_grammar.specs.Places.{end_place}
use Rattle.ess_lex.specs.Lexing.{left}
use Rattle.ess_parse_machine.specs.Parsers.{view_parser}
use Rattle.ess_parse.specs.Runs.{run_over}
use Rattle.ess_parse.specs.Machines.{step_state, finish_state}
use Rattle.ess_parse.proofs.AsciiTokens.{AreAscii}
use Rattle.ess_parse.proofs.parsing.parse.Given as goal

abbrev pub invariant-loop-token : goal.invariant-loop-token
invariant-loop-token l =
    record {
      same : run_over step_state finish_state (end_place l.text) (lexed l.text) (view_parser l.fn.start) ≡ run_over step_state finish_state (end_place l.text) (left l.lexer) (view_parser l.parser);
      ascii : AreAscii (left l.lexer);
    }

abbrev pub decreases-loop-token : goal.decreases-loop-token
decreases-loop-token l = token_count (left l.lexer)
