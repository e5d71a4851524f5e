use Rattle.std.proofs.Common.{◌≡◌, ◌++◌, map, take}
use Rattle.ess_repr_closed.proofs.representations.add_under.Given as goal

abbrev pub invariant-loop-axes : goal.invariant-loop-axes
invariant-loop-axes l = l.all ≡ l.initial.all ++ map (λ as'. l.front ++ as') (take l.axes-index l.below)
