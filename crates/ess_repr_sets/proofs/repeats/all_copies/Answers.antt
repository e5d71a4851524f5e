use Rattle.std.proofs.Common.{sym, ◌∙◌}
use Rattle.ess_repr_sets.proofs.RepeatedValues.{each_short}
use Rattle.ess_repr_sets.proofs.repeats.all_copies.Goals as goal

pub returns-then-k-vals : goal.returns-then-k-vals
returns-then-k-vals c =
    sym (c.loop-k.invariant ∙ each_short c.args.times.now c.args.vals.now c.loop-k.row c.loop-k.k c.if-k-vals.true)
