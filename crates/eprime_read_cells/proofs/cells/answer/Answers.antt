use Rattle.std.proofs.Common.{sym, ap, ◌∙◌, subst, Err}
use Rattle.eprime_read_cells.specs.CellAnswers.{IsOutcome}
use Rattle.eprime_read_cells.proofs.cells.answer.Goals as goal

pub returns-in-Ok : goal.returns-in-Ok
returns-in-Ok c =
    subst (λ l. IsOutcome c.args.known.now c.args.givens.now c.args.decls.now l c.fitted.result) (sym c.in-Ok.is) (c.fit.result, c.fit.ensures, c.fitted.ensures)

pub returns-in-Err : goal.returns-in-Err
returns-in-Err c =
    subst (λ l. IsOutcome c.args.known.now c.args.givens.now c.args.decls.now l (Err c.unread.result)) (sym c.in-Err.is) (ap (λ w. Err w) c.unread.ensures)
