use Rattle.conjure_cli.proofs.Behind.{solved, not_solved}
use Rattle.conjure_cli.proofs.counting.solved_members.Goals as goal

-- src/counting.rt
pub returns-in-Ok : goal.returns-in-Ok
returns-in-Ok c =
    solved c.args.number c.args.model.now c.in-Ok.sol.items c.as_slice.result.now c.in_ok-cells.cells c.as_bytes.result.now
    c.valid_members.result c.in_ok-cells.ensures c.as_bytes.ensures c.in-Ok.ensures.ok c.as_slice.ensures.value c.valid_members.ensures

-- src/counting.rt
pub returns : goal.returns
returns c =
    not_solved c.args.number c.args.model.now c.in_ok-cells.cells c.as_bytes.result.now c.in-Err.why c.none_counted.result
    c.in_ok-cells.ensures c.as_bytes.ensures c.in-Err.ensures.refused c.none_counted.ensures
