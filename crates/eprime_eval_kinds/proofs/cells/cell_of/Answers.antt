use Rattle.std.proofs.Common.{◌∙◌, sym}
use Rattle.eprime_eval_kinds.proofs.Results.{ok-map}
use Rattle.eprime_eval_kinds.proofs.ShapedCells.{cell_breaks}
use Rattle.eprime_eval_kinds.proofs.cells.cell_of.Goals as goal

pub returns-else-fits_shape : goal.returns-else-fits_shape
returns-else-fits_shape c =
    ok-map c.broken.result
    (λ k h names. cell_breaks names c.args.shape.now c.args.place c.args.at k c.cell_kind-kind.result
    (sym c.if-fits_shape.false ∙ c.fits_shape.ensures) c.cell_kind-kind.ensures (h names))
    c.broken.ensures
