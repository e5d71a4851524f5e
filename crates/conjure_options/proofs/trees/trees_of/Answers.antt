use Rattle.conjure_options.proofs.Reprs.{trees_refused, trees_more}
use Rattle.conjure_options.proofs.trees.trees_of.Goals as goal

-- src/trees.rt
pub returns-in-None : goal.returns-in-None
returns-in-None c = trees_refused _ c.args.pieces.now c.loop-piece.piece-index _ _ c.loop-piece-test.true c.in-None.is c.in_ok-tree.ensures

pub loop-piece-preserved : goal.loop-piece-preserved
loop-piece-preserved c =
    trees_more _ c.args.pieces.now c.loop-piece.piece-index _ _ _ _ _ c.loop-piece-test.true c.in_ok-push-in-Some.ensures.ok
    c.loop-piece.invariant c.in-Some.is c.in_ok-tree.ensures
