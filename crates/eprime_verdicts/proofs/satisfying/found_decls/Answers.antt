use Rattle.std.proofs.lemmas.Result.{IfOk-weaker}
use Rattle.ess_core.specs.TableViews.{pure_cells}
use Rattle.eprime_verdicts.proofs.FoundDecls.{under-given}
use Rattle.eprime_verdicts.proofs.satisfying.found_decls.Goals as goal

pub returns-clause-ok : goal.returns-clause-ok
returns-clause-ok c =
    let u = under-given c.in_ok-under.under c.args.model.now c.args.givens.now.list (rw (c.as_slice.ensures, c.as_slice-2.ensures, c.as_slice-3.ensures) at c.in_ok-under.ensures) in
    IfOk-weaker c.all_closed-found.result _ _ (λ rs f. f (pure_cells c.args.givens.now) u) c.all_closed-found.ensures.ok

pub returns-clause-undefined : goal.returns-clause-undefined
returns-clause-undefined c h =
    let u = under-given c.in_ok-under.under c.args.model.now c.args.givens.now.list (rw (c.as_slice.ensures, c.as_slice-2.ensures, c.as_slice-3.ensures) at c.in_ok-under.ensures) in
    c.all_closed-found.ensures.undefined h (pure_cells c.args.givens.now) u

pub returns-clause-big : goal.returns-clause-big
returns-clause-big c h =
    let u = under-given c.in_ok-under.under c.args.model.now c.args.givens.now.list (rw (c.as_slice.ensures, c.as_slice-2.ensures, c.as_slice-3.ensures) at c.in_ok-under.ensures) in
    c.all_closed-found.ensures.big h (pure_cells c.args.givens.now) u
