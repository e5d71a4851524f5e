use Rattle.std.proofs.Common.{ap, ◌∙◌, map, Some}
use Rattle.std.specs.Option.{option_map}
use Rattle.ess_core.specs.StatementViews.{pure_stm}
use Rattle.ess_parse_frames.specs.Views.{view_answer}
use Rattle.ess_parse_machine.specs.Parsers.{view_parser}
use Rattle.eprime_read.proofs.PartTokens.{end_readable}
use Rattle.eprime_read.proofs.steps.end.Goals as goal

pub with_part-requires-clause-readable : goal.with_part-requires-clause-readable
with_part-requires-clause-readable c =
    end_readable (view_parser c.args.part.parser) (Some (view_answer c.in-Some.answer)) (map pure_stm c.in-Some-statements_of.stms) c.requires.read
    (c.in_ok-answer.ensures ∙ ap (option_map view_answer) c.in-Some.is)
    (c.statements_of.ensures ∙ ap (option_map (λ stms. map pure_stm stms)) c.in-Some-statements_of.is)
