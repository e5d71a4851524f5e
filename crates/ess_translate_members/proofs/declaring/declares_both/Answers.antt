use Rattle.std.proofs.Common.{rules, ap, map, option_map, Err}
use Rattle.eprime_eval_scalars.specs.declared.Stop.TheVariants.{Big}
use Rattle.ess_eval_domains.specs.ClosedViews.{pure_closed}
use Rattle.ess_translate_plans.specs.Views.{pure_plan}
use Rattle.ess_translate_members.proofs.DeclaredSides.{same_error, givens_fail, finds_decide, givens_large, finds_large}
use Rattle.ess_translate_members.proofs.declaring.declares_both.Goals as goal

pub returns-in_err-declares_side-clause-big : goal.returns-in_err-declares_side-clause-big
returns-in_err-declares_side-clause-big c h q u =
    givens_large c.args.under.now c.args.model.now q
    (λ E q s v add. rw c.as_slice.ensures at (c.in_err-declares_side.ensures.big
    (ap (λ no. Err no) (same_error c.from_residual.result c.in_err-declares_side.field-0.0 Big c.from_residual.ensures.1 h)) E q s v add)) u

pub returns-then-not-branch-clause-ok : goal.returns-then-not-branch-clause-ok
returns-then-not-branch-clause-ok c q u =
    givens_fail c.args.under.now c.args.model.now q (map pure_plan c.args.plans.now) (map (option_map pure_closed) c.args.closed.now)
    c.in_ok-declares_side.field-0 (search rules)
    (λ E q s v add. rw c.as_slice.ensures at (c.in_ok-declares_side.ensures.ok E q s v add)) u

pub returns-in_err-found-clause-big : goal.returns-in_err-found-clause-big
returns-in_err-found-clause-big c h q u =
    finds_large c.args.under.now c.args.model.now q
    (λ E q s v add. rw c.as_slice-2.ensures at (c.in_err-found.ensures.big
    (ap (λ no. Err no) (same_error c.from_residual-in_err-found.result c.in_err-found.field-0.0 Big
    c.from_residual-in_err-found.ensures.1 h)) E q s v add)) u

pub returns-clause-ok : goal.returns-clause-ok
returns-clause-ok c q u =
    finds_decide c.args.under.now c.args.model.now q (map pure_plan c.args.plans.now) (map (option_map pure_closed) c.args.closed.now)
    c.in_ok-declares_side.field-0 c.in_ok-found.found (search rules)
    (λ E q s v add. rw c.as_slice.ensures at (c.in_ok-declares_side.ensures.ok E q s v add))
    (λ E q s v add. rw c.as_slice-2.ensures at (c.in_ok-found.ensures.ok E q s v add)) u
