use Rattle.ess_semantics.specs.SetLayers.{but_dummy}
use Rattle.ess_eval_domains.specs.ClosedViews.{pure_closed}
use Rattle.ess_repr_sets.proofs.HeldMembers.{Left}
use Rattle.ess_repr_sets.proofs.dummies.members_held.Given as goal

abbrev pub invariant-loop-number : goal.invariant-loop-number
invariant-loop-number l = Left (but_dummy (pure_closed l.member) l.dummy) l.numbers l.held l.number-index
