use Rattle.ess_guard_laws.proofs.laws.conditions_make_total.Goals as goal
use Rattle.ess_semantics.specs.Totality.{Total}
use Rattle.ess_guard_laws.specs.Guard.{there, make_total}
use Rattle.ess_guard_laws.proofs.Behind.{behind-hold, all-of-total}
use Rattle.ess_guard_laws.proofs.TotalLaws.{behind-there}

pub returns : goal.returns
returns c = record {
  conditions = λ x y e env v. all-of-total (there x y e) env (Total (make_total x y e) env) (behind-there x y e env v);
  term = λ x y e env v h. behind-hold (there x y e) env (Total (make_total x y e) env) (behind-there x y e env v) h;
}
