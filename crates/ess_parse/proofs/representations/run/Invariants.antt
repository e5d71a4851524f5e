use Rattle.std.proofs.Common.{◌≡◌}
use Rattle.ess_grammar.specs.Tokens.{lexed, token_count}
use Rattle.ess_grammar.specs.Places.{end_place}
use Rattle.ess_lex.specs.Lexing.{left}
use Rattle.ess_parse.specs.Runs.{run_over}
use Rattle.ess_parse.specs.Machines.{step_representation, finish_representation, start_representation}
use Rattle.ess_parse.specs.RepresentationViews.{view_machine}
use Rattle.ess_parse.proofs.representations.run.Given as goal

abbrev pub invariant-loop-machine : goal.invariant-loop-machine
invariant-loop-machine l =
    run_over step_representation finish_representation (end_place l.text) (lexed l.text) start_representation
    ≡ run_over step_representation finish_representation (end_place l.text) (left l.lexer) (view_machine l.machine)

abbrev pub decreases-loop-machine : goal.decreases-loop-machine
decreases-loop-machine l = token_count (left l.lexer)
