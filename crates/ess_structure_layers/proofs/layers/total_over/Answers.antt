use Rattle.std.proofs.Common.{ap, ◌∙◌}
use Rattle.ess_core_nodes.specs.NodeViews.{pure_node}
use Rattle.ess_structure_layers.proofs.SameParts.{total_same}
use Rattle.ess_structure_layers.proofs.layers.total_over.Goals as goal

pub returns : goal.returns
returns c =
    total_same _ _ c.args.kind _ _ c.args.marks.now _ c.args.numbers.now _ c.args.from.now _ c.args.to.now _ _ _ _ _
    c.in_ok-whole.ensures (ap pure_node c.get-seen.ensures ∙ c.in_ok-view.ensures)
    c.as_slice-marks.ensures c.as_slice-numbers.ensures c.get-from.ensures c.get-to.ensures
