use Rattle.std.proofs.Common.{subst}
use Rattle.eprime_cells_machine.specs.ValueViews.{pure_lettings}
use Rattle.eprime_cells_judging.specs.Fitting.{IsFit}
use Rattle.eprime_cells_judging.proofs.judging.fit.Goals as goal

pub returns : goal.returns
returns c =
    subst (λ ls. IsFit c.args.known.now c.args.givens.now c.args.decls.now (pure_lettings ls) c.fit_over.result) c.as_slice.ensures
    (subst (λ ds. IsFit c.args.known.now c.args.givens.now ds (pure_lettings c.as_slice.result.now) c.fit_over.result) c.as_slice-2.ensures c.fit_over.ensures)
