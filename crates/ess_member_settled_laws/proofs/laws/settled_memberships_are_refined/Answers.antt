use Rattle.ess_member_settled_laws.proofs.Settled.{settled-refined, not-given-up}
use Rattle.ess_member_settled_laws.proofs.laws.settled_memberships_are_refined.Goals as goal

pub returns : goal.returns
returns c = record { refined = settled-refined; not_given_up = not-given-up }
