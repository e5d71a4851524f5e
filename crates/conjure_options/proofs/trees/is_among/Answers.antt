use Rattle.conjure_options.proofs.DifferLaws.{among_more}
use Rattle.conjure_options.proofs.trees.is_among.Goals as goal

-- src/trees.rt
pub loop-other-preserved : goal.loop-other-preserved
loop-other-preserved c =
    among_more _ _ _ _ _ c.loop-other-test.true c.other-item.is c.if-same_repr.false c.same_repr.ensures c.loop-other.invariant
