use Rattle.ess_repr_laws.proofs.laws.members_have_canonical_tables.Goals as goal
use Rattle.ess_repr_laws.proofs.MembersHaveTables.{one-form}
use Rattle.ess_repr_laws.proofs.DenotedDomains.{fitting-roomy}
use Rattle.ess_repr_laws.proofs.PlanDomains.{plan-roomy}

pub returns : goal.returns
returns c = record {
  room = λ r d env e f q. fitting-roomy r d env e f.well f.known f.fit q;
  plan_room = λ r d env e f q. plan-roomy r d env e f.well f.known f.fit q;
  one_form = one-form;
}
