use Rattle.std.proofs.Common.{sym, ◌∙◌}
use Rattle.ess_core.specs.TreeViews.{pure_dom}
use Rattle.conjure_options.proofs.Reprs.{unread, misfit, fitting}
use Rattle.conjure_options.proofs.trees.tree_of.Goals as goal

-- src/trees.rt
pub returns-in-Err : goal.returns-in-Err
returns-in-Err c = unread c.args.text.now (pure_dom c.args.dom.now) c.in-Err.why c.in_ok-of_text-in-Err.ensures c.in-Err.ensures

pub returns-then-fits : goal.returns-then-fits
returns-then-fits c =
    fitting c.args.text.now (pure_dom c.args.dom.now) c.in-Ok.repr c.in_ok-tree.tree c.in-Ok.ensures c.in_ok-tree.ensures
    (sym c.fits.ensures ∙ c.if-fits.true)

pub returns : goal.returns
returns c =
    misfit c.args.text.now (pure_dom c.args.dom.now) c.in-Ok.repr c.in_ok-tree.tree c.in-Ok.ensures c.in_ok-tree.ensures
    (sym c.fits.ensures ∙ c.if-fits.false)
