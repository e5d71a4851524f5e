use Rattle.std.proofs.lemmas.Result.{IfOk-weaker}
use Rattle.ess_core.specs.TableViews.{pure_cells}
use Rattle.eprime_tree.specs.Views.{pure_model, scope_of}
use Rattle.eprime_verdicts.proofs.FoundDecls.{under-both}
use Rattle.eprime_verdicts.proofs.satisfying.false_rule.Goals as goal

pub returns-clause-ok : goal.returns-clause-ok
returns-clause-ok c =
    let u = under-both c.in_ok-under.under c.args.model.now c.args.givens.now.list c.args.finds.now.list (rw (c.as_slice.ensures, c.as_slice-2.ensures, c.as_slice-3.ensures, c.as_slice-4.ensures) at c.in_ok-under.ensures) in
    IfOk-weaker c.first_false-found.result _ _ (λ o f. f (pure_model c.args.model.now) (pure_cells c.args.givens.now) (pure_cells c.args.finds.now) (scope_of c.args.model.now) u)
    (rw c.as_slice-5.ensures at c.first_false-found.ensures.ok)

pub returns-clause-big : goal.returns-clause-big
returns-clause-big c h =
    let u = under-both c.in_ok-under.under c.args.model.now c.args.givens.now.list c.args.finds.now.list (rw (c.as_slice.ensures, c.as_slice-2.ensures, c.as_slice-3.ensures, c.as_slice-4.ensures) at c.in_ok-under.ensures) in
    (rw c.as_slice-5.ensures at (c.first_false-found.ensures.big h)) (pure_model c.args.model.now) (pure_cells c.args.givens.now) (pure_cells c.args.finds.now) (scope_of c.args.model.now) u
