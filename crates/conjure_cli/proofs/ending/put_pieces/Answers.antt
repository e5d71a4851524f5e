use Rattle.std.proofs.Common.{arith}
use Rattle.std.proofs.lemmas.Result.{err_from_is_err_and}
use Rattle.conjure_cli.proofs.PieceLaws.{piece_taken, piece_cut}
use Rattle.conjure_cli.proofs.ending.put_pieces.Goals as goal

pub returns-in_err-put_all-clause-part : goal.returns-in_err-put_all-clause-part
returns-in_err-put_all-clause-part g c =
    let p = err_from_is_err_and c.from_residual.result c.from_residual.ensures.1 in
    rw p.1 (piece_cut c.args.pieces.now c.loop-piece.piece-index _ _ _ _ c.loop-piece-test.true c.loop-piece.invariant.0 c.in_err-put_all.ensures.part)

pub loop-piece-preserved : goal.loop-piece-preserved
loop-piece-preserved g c = (
  piece_taken c.args.pieces.now c.loop-piece.piece-index _ _ _ _ c.loop-piece-test.true c.loop-piece.invariant.0 c.in_ok-put_all.ensures.ok,
  omega (arith, c.loop-piece.invariant.1, c.put_all.ensures.fault_count),
)
