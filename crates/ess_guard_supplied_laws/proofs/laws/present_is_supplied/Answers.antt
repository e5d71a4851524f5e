use Rattle.ess_guard_supplied_laws.proofs.laws.present_is_supplied.Goals as goal
use Rattle.ess_guard_laws.proofs.TermLaws.{tells-values}
use Rattle.ess_guard_supplied_laws.proofs.SuppliedTrees.{supplied}

pub returns : goal.returns
returns c = record {
  supplied = λ e g env m t p. supplied e g env m t p;
  tells = λ x y e g env m t p. tells-values x y e env (supplied e g env m t p);
}
