use Rattle.std.proofs.Common.{map, ap, ◌∙◌}
use Rattle.ess_core_nodes.specs.NodeViews.{pure_node, pure_dom}
use Rattle.ess_structure_layers.proofs.SameParts.{partial_same}
use Rattle.ess_structure_layers.proofs.layers.partial_over.Goals as goal

pub returns : goal.returns
returns c =
    partial_same _ _ c.args.kind _ _ c.args.marks.now _ c.args.numbers.now _ c.args.from.now _ c.args.to.now c.in_ok-name.name _
    c.args.level _ (map pure_dom c.args.axes.now) _ (pure_node c.args.part)
    c.in_ok-whole.ensures (ap pure_node c.get-seen.ensures ∙ c.in_ok-view.ensures) c.in_ok-name.ensures
    c.as_slice-marks.ensures c.as_slice-numbers.ensures c.get-from.ensures c.get-to.ensures
