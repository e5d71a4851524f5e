use Rattle.ess_models.proofs.Planning.{plans_answered}
use Rattle.ess_models.proofs.names.plans_of.Goals as goal

pub returns : goal.returns
returns c =
    plans_answered c.args.spec.now c.args.reprs.now c.all_plans.result c.in_ok-declared.declared
    (rw c.as_slice.ensures at c.in_ok-declared.ensures) (rw c.as_slice-2.ensures at c.all_plans.ensures)
