use Rattle.ess_repr_laws.proofs.laws.positions_stand_for_types.Goals as goal
use Rattle.ess_repr_laws.proofs.DenotedTypes.{denoted-typed}
use Rattle.ess_repr_laws.proofs.TypesBack.{types-back}
use Rattle.ess_repr_laws.proofs.OrderOfPositions.{order-agrees}
use Rattle.ess_repr_laws.proofs.MembersWithPositions.{members-matched}
use Rattle.ess_repr_laws.proofs.PlansStand.{one-member}

pub returns : goal.returns
returns c = record {
  typed = denoted-typed;
  members = λ e t v h. let m = members-matched e t in m.up v h;
  each_is_one = λ e t w h. let m = members-matched e t in m.back w h;
  types_back = types-back;
  one_to_one = one-member;
  same_order = order-agrees;
}
