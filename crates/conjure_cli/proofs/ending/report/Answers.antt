use Rattle.std.proofs.Common.{ap, ◌∙◌, ◌++◌}
use Rattle.conjure_cli.proofs.PieceLaws.{line_pieces, line_left, err_left}
use Rattle.conjure_cli.proofs.ending.report.Goals as goal

pub returns : goal.returns
returns g c =
    err_left c.args.ending c.args.file.now c.args.place.now _ _ c.in_default.not-Done
    (line_left c.put_pieces.result _ _ _ _
    (line_pieces c.args.file.now c.args.place.now c.as_bytes.result.now c.as_bytes-2.result.now c.args.ending
    (ap (λ name. name ++ c.as_bytes-2.result.now) c.as_bytes.ensures.value
    ∙ ap (λ text. c.told.result.0.now ++ text) c.as_bytes-2.ensures.value ∙ c.told.ensures))
    c.put_pieces.ensures.ok c.put_pieces.ensures.part c.put_pieces.ensures.failed)
