use Rattle.std.proofs.Common.{◌≡◌, ◌+◌, length, slice_get, ap, sym, ◌∙◌, arith}
use Rattle.ess_core_parts.specs.Numbered.{row}
use Rattle.ess_core_parts.proofs.Searches.{part-here, part-next, length-next}
use Rattle.ess_core_parts.proofs.rows.RowParts.part.Goals as goal

pub returns-in-Ok-clause-is : goal.returns-in-Ok-clause-is
returns-in-Ok-clause-is g c =
    let split = g.T.Parts.parted in
    let items = c.as_slice-tree-items.result.now in
    ap (λ xs. slice_get (row split xs).parts c.args.k) (sym c.as_slice-tree-items.ensures) ∙ c.loop-tree.invariant.0
    ∙ part-here split items c.loop-tree.tree-index c.tree-item.result c.loop-tree-test.true c.tree-item.is c.loop-tree.past c.in-Ok.part.now (c.in-Ok.ensures.is)

pub loop-tree-preserved : goal.loop-tree-preserved
loop-tree-preserved g c =
    let split = g.T.Parts.parted in
    let items = c.as_slice-tree-items.result.now in
    let past = c.in-Err.ensures.past in
    let longer = length-next split items c.loop-tree.tree-index c.tree-item.result c.loop-tree-test.true c.tree-item.is in (
      c.loop-tree.invariant.0 ∙ part-next split items c.loop-tree.tree-index c.tree-item.result c.loop-tree-test.true c.tree-item.is c.loop-tree.past c.in-Err.left past,
      omega (arith, past, longer, c.loop-tree.invariant.1),
    )
