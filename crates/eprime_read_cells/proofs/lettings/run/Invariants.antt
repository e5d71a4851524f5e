use Rattle.std.proofs.Common.{◌≡◌}
use Rattle.ess_grammar.specs.Tokens.{lexed, token_count}
use Rattle.ess_grammar.specs.Places.{end_place}
use Rattle.ess_lex.specs.Lexing.{left}
use Rattle.ess_parse.specs.Runs.{run_over}
use Rattle.eprime_read_cells_laws.specs.CellMachine.{cells_step, cells_finish, cells_start}
use Rattle.eprime_cells_machine.specs.MachineViews.{view_machine}
use Rattle.ess_parse.proofs.AsciiTokens.{AreAscii}
use Rattle.eprime_read_cells.proofs.lettings.run.Given as goal

abbrev pub invariant-loop-token : goal.invariant-loop-token
invariant-loop-token l =
    record {
      same : run_over cells_step cells_finish (end_place l.text) (lexed l.text) cells_start ≡ run_over cells_step cells_finish (end_place l.text) (left l.lexer) (view_machine l.machine);
      ascii : AreAscii (left l.lexer);
    }

abbrev pub decreases-loop-token : goal.decreases-loop-token
decreases-loop-token l = token_count (left l.lexer)
