use Rattle.std.proofs.Common.{◌∙◌}
use Rattle.eprime_cells_machine.specs.ValueViews.{pure_lettings}
use Rattle.eprime_cells_judging.proofs.TableAnswers.{fit_refused, fit_passed}
use Rattle.eprime_cells_judging.proofs.judging.fit_over.Goals as goal

pub returns-in-Some : goal.returns-in-Some
returns-in-Some c = fit_refused c.args.known.now c.args.givens.now c.args.decls.now (pure_lettings c.args.lettings.now) c.in-Some.no
    (c.in_ok-no.ensures ∙ c.in-Some.is)

pub returns : goal.returns
returns c =
    fit_passed c.args.known.now c.args.givens.now c.args.decls.now (pure_lettings c.args.lettings.now) c.tables.result
    (c.in_ok-no.ensures ∙ c.in-None.is) c.tables.ensures
