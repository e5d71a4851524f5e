use Rattle.std.proofs.Common.{◌≡◌, ap, ◌∙◌, [], ◌∷◌, ◌++◌, slice_get}
use Rattle.ess_print.proofs.Writing.{comma-item, items-end}
use Rattle.ess_print.proofs.Items.{names-by-item, name-put}
use Rattle.ess_print.proofs.statements.put_names.Goals as goal

pub loop-index-preserved : goal.loop-index-preserved
loop-index-preserved c =
    comma-item names-by-item c.args.names.now c.loop-index.index c.index-names-index.result c.loop-index-test.true c.index-names-index.is c.loop-index.invariant
    c.in_ok-put_comma.ensures (name-put c.in_ok-push_str.ensures.ok c.as_str.ensures)

pub returns : goal.returns
returns c = items-end names-by-item c.args.names.now c.loop-index.index c.loop-index-test.false c.loop-index.invariant
