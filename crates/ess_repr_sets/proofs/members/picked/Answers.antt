use Rattle.ess_repr_sets.proofs.PickedValues.{picked_end}
use Rattle.ess_repr_sets.proofs.members.picked.Goals as goal

pub returns-then-k-vals : goal.returns-then-k-vals
returns-then-k-vals c = picked_end c.args.flags.now c.args.vals.now c.loop-k.chosen c.loop-k.k c.if-k-vals.true c.loop-k.invariant
