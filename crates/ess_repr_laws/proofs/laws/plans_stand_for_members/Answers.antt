use Rattle.ess_repr_laws.proofs.laws.plans_stand_for_members.Goals as goal
use Rattle.ess_repr_laws.proofs.DeclaredWithPositions.{declared-with}
use Rattle.ess_repr_laws.proofs.PlansStand.{stands-member, stood-back, canonical-stands}

pub returns : goal.returns
returns c = record { declared = declared-with; stands = stands-member; comes_back = stood-back; canonical = canonical-stands }
