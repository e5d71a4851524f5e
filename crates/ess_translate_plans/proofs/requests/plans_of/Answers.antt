use Rattle.ess_translate_plans.proofs.Added.{plans_answered}
use Rattle.ess_translate_plans.proofs.requests.plans_of.Goals as goal

pub returns : goal.returns
returns c =
    plans_answered c.args.header.now c.all_plans.result c.in_ok-declared.declared (rw c.as_slice.ensures at c.in_ok-declared.ensures)
    (rw c.as_slice-2.ensures at (rw c.as_slice-3.ensures at c.all_plans.ensures))
