use Rattle.conjure_cli.proofs.WritingLaws.{declared}
use Rattle.conjure_cli.proofs.writer.put_declaration.Goals as goal

pub returns : goal.returns
returns c =
    declared _ _ _ _ _ _ _ _ c.in_ok-extend_from_slice.ensures.items c.in_ok-put_cell.ensures c.in_ok-extend_from_slice-2.ensures.items
    c.in_ok-put_domain.ensures c.in_ok-extend_from_slice-3.ensures.items
