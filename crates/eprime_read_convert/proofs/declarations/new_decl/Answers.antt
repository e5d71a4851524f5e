use Rattle.eprime_read_convert.specs.Lines.{scope_of}
use Rattle.eprime_read_convert.proofs.Conversions.{if_ok}
use Rattle.eprime_read_convert.proofs.Tables.{matrix_declared}
use Rattle.eprime_read_convert.proofs.declarations.new_decl.Goals as goal

pub returns-in-Matrix : goal.returns-in-Matrix
returns-in-Matrix c =
    if_ok c.table.result c.table.ensures (λ o h. matrix_declared (scope_of c.args.lines.now) c.args.name.now c.args.dom.now _ _ _ _ c.new-bound.result _ _ _
    c.in-Matrix.is c.as_slice.ensures c.get.ensures c.new-bound.ensures c.in_ok-indices-in-Matrix.ensures c.in_ok-item-in-Matrix.ensures (h (scope_of c.args.lines.now)))
