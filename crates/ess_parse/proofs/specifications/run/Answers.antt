use Rattle.std.proofs.Common.{refl, sym, ap, ◌∙◌, map, Some, None}
use Rattle.std.specs.Option.{option_map}
use Rattle.ess_core.specs.StatementViews.{pure_stm, pure_spec}
use Rattle.ess_grammar.specs.Tokens.{lexed}
use Rattle.ess_grammar.specs.Places.{end_place}
use Rattle.ess_parse_frames.specs.Views.{view_answer}
use Rattle.ess_parse_machine.specs.Parsers.{view_parser}
use Rattle.ess_parse.specs.Runs.{run_over, reading, ended}
use Rattle.ess_parse.specs.Machines.{step_state, finish_state, finish_specification, start_specification, statements_of}
use Rattle.ess_parse.proofs.Narrowing.{reading-narrowed, narrowed-ok, residual}
use Rattle.ess_parse.proofs.specifications.run.Goals as goal

pub returns-in_err-answer : goal.returns-in_err-answer
returns-in_err-answer c =
    let e = reading-narrowed statements_of refl c.args.text.now start_specification (view_parser c.specification.result) (cc (c.in_ok-pass_first.ensures)) c.specification.ensures in
    residual view_answer pure_spec statements_of (end_place c.args.text.now) (run_over step_state finish_state (end_place c.args.text.now) (lexed c.args.text.now) (view_parser c.specification.result))
    (reading step_state finish_specification start_specification c.args.text.now) e (c.in_err-answer.field-0).0 c.in_err-answer.ensures c.from_residual-in_err-answer.result (c.from_residual-in_err-answer.ensures).1

pub returns-in-Some : goal.returns-in-Some
returns-in-Some c =
    let e = reading-narrowed statements_of refl c.args.text.now start_specification (view_parser c.specification.result) (cc (c.in_ok-pass_first.ensures)) c.specification.ensures in
    narrowed-ok statements_of (end_place c.args.text.now) (run_over step_state finish_state (end_place c.args.text.now) (lexed c.args.text.now) (view_parser c.specification.result))
    (reading step_state finish_specification start_specification c.args.text.now) e (view_answer c.in_ok-answer.answer) (Some (map pure_stm c.in-Some.stms)) c.in_ok-answer.ensures
    (c.statements_of.ensures ∙ ap (option_map (λ stms. map pure_stm stms)) c.in-Some.is)

pub returns-in-None : goal.returns-in-None
returns-in-None c =
    let e = reading-narrowed statements_of refl c.args.text.now start_specification (view_parser c.specification.result) (cc (c.in_ok-pass_first.ensures)) c.specification.ensures in
    narrowed-ok statements_of (end_place c.args.text.now) (run_over step_state finish_state (end_place c.args.text.now) (lexed c.args.text.now) (view_parser c.specification.result))
    (reading step_state finish_specification start_specification c.args.text.now) e (view_answer c.in_ok-answer.answer) None c.in_ok-answer.ensures
    (c.statements_of.ensures ∙ ap (option_map (λ stms. map pure_stm stms)) c.in-None.is)
    ∙ ap (λ p. ended p None) (sym c.end_place.ensures)
