use Rattle.std.proofs.Common.{◌≡◌}
use Rattle.ess_grammar.specs.Tokens.{lexed, token_count}
use Rattle.ess_grammar.specs.Places.{end_place}
use Rattle.ess_lex.specs.Lexing.{left}
use Rattle.ess_parse.specs.Runs.{run_over}
use Rattle.ess_parse.proofs.AsciiTokens.{AreAscii}
use Rattle.eprime_read_laws.specs.ModelMachine.{at_begin, model_step, model_finish}
use Rattle.eprime_read.specs.Views.{view_machine, IsMachine}
use Rattle.eprime_read.proofs.FitTokens.{AreFitTokens}
use Rattle.eprime_read.proofs.models.over_tokens.Given as goal

abbrev pub invariant-loop-machine : goal.invariant-loop-machine
invariant-loop-machine l =
    record {
      same : run_over model_step model_finish (end_place l.text) (lexed l.text) at_begin ≡ run_over model_step model_finish (end_place l.text) (left l.lexer) (view_machine l.machine);
      holds : IsMachine l.machine;
      ascii : AreAscii (left l.lexer);
      fit : AreFitTokens (left l.lexer);
    }

abbrev pub decreases-loop-machine : goal.decreases-loop-machine
decreases-loop-machine l = token_count (left l.lexer)
