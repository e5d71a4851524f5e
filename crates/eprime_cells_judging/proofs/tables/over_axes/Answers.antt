use Rattle.std.proofs.Common.{◌∙◌}
use Rattle.eprime_cells_machine.specs.ValueViews.{pure_value}
use Rattle.eprime_cells_judging.proofs.TableAnswers.{no_items, judged_items}
use Rattle.eprime_cells_judging.proofs.tables.over_axes.Goals as goal

pub returns-in-Some : goal.returns-in-Some
returns-in-Some c h =
    judged_items c.args.known.now c.args.givens.now c.args.decl.now (pure_value c.args.value.now) (record { axes = c.args.axes; items = c.in-Some.items }) c.is_bool.result c.inside_cells.result h c.is_bool.ensures
    (c.in_ok-items.ensures ∙ c.in-Some.is) c.inside_cells.ensures

pub returns-in-None : goal.returns-in-None
returns-in-None c h = no_items c.args.known.now c.args.givens.now c.args.decl.now (pure_value c.args.value.now) c.args.axes c.is_bool.result h c.is_bool.ensures (c.in_ok-items.ensures ∙ c.in-None.is)
