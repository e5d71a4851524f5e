use Rattle.std.proofs.Common.{◌≡◌}
use Rattle.ess_grammar.specs.Tokens.{lexed, token_count}
use Rattle.ess_grammar.specs.Places.{end_place}
use Rattle.ess_lex.specs.Lexing.{left}
use Rattle.ess_parse.specs.Runs.{run_over}
use Rattle.ess_parse.specs.Machines.{step_lettings, finish_lettings, start_lettings}
use Rattle.ess_parse.specs.LettingViews.{view_machine}
use Rattle.ess_parse.proofs.AsciiTokens.{AreAscii}
use Rattle.ess_parse.proofs.lettings.run.Given as goal

abbrev pub invariant-loop-machine : goal.invariant-loop-machine
invariant-loop-machine l =
    record {
      same : run_over step_lettings finish_lettings (end_place l.text) (lexed l.text) start_lettings ≡ run_over step_lettings finish_lettings (end_place l.text) (left l.lexer) (view_machine l.machine);
      ascii : AreAscii (left l.lexer);
    }

abbrev pub decreases-loop-machine : goal.decreases-loop-machine
decreases-loop-machine l = token_count (left l.lexer)
