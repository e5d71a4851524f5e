use Rattle.std.proofs.Common.{◌≡◌}
use Rattle.eprime_eval_scalars.proofs.GridPlaces.{offset_end}
use Rattle.eprime_eval_scalars.proofs.grids.offset.Goals as goal

pub returns : goal.returns
returns c =
    offset_end c.args.axes.now c.args.index.now c.loop-k.k c.loop-k.at _ c.loop-k-test.false c.loop-k.invariant.same c.loop-k.invariant.small c.loop-k.invariant.left
