use Rattle.std.proofs.Common.{ap, ◌∙◌, subst, Ok}
use Rattle.eprime_cells_machine.specs.ValueViews.{pure_value}
use Rattle.eprime_cells_judging.specs.TablesJudged.{AreAxes}
use Rattle.eprime_cells_judging.proofs.TableAnswers.{no_axes, axes_judged}
use Rattle.eprime_cells_judging.proofs.tables.table_of.Goals as goal

pub returns-in-Err : goal.returns-in-Err
returns-in-Err c =
    axes_judged c.args.known.now c.args.givens.now c.args.decl.now (pure_value c.args.value.now) c.in-Err.why
    (subst (λ r. AreAxes c.args.known.now c.args.givens.now c.args.decl.now.axes r) (c.in-Err.is)
    (subst (λ ds. AreAxes c.args.known.now c.args.givens.now ds c.axes_of.result) c.as_slice.ensures c.axes_of.ensures))

pub returns-in-Some : goal.returns-in-Some
returns-in-Some c =
    c.over_axes.ensures
    (subst (λ r. AreAxes c.args.known.now c.args.givens.now c.args.decl.now.axes r) (c.in-Ok.is ∙ ap (λ o. Ok o) c.in-Some.is)
    (subst (λ ds. AreAxes c.args.known.now c.args.givens.now ds c.axes_of.result) c.as_slice.ensures c.axes_of.ensures))

pub returns-in-None : goal.returns-in-None
returns-in-None c =
    no_axes c.args.known.now c.args.givens.now c.args.decl.now (pure_value c.args.value.now)
    (subst (λ r. AreAxes c.args.known.now c.args.givens.now c.args.decl.now.axes r) (c.in-Ok.is ∙ ap (λ o. Ok o) c.in-None.is)
    (subst (λ ds. AreAxes c.args.known.now c.args.givens.now ds c.axes_of.result) c.as_slice.ensures c.axes_of.ensures))
