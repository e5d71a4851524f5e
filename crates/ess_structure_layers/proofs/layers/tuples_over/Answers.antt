use Rattle.std.proofs.Common.{ap, ◌∙◌}
use Rattle.ess_core_nodes.specs.NodeViews.{pure_node}
use Rattle.ess_structure_layers.proofs.SameParts.{tuples_same}
use Rattle.ess_structure_layers.proofs.layers.tuples_over.Goals as goal

pub returns : goal.returns
returns c =
    tuples_same _ _ _ _ _ _ c.args.marks.now _ c.args.numbers.now _ c.args.parts.now _ _ _ _
    c.in_ok-whole.ensures c.in_ok-keys.ensures (ap pure_node c.get-seen.ensures ∙ c.in_ok-view.ensures) c.in_ok-set.ensures
    c.as_slice-marks.ensures c.as_slice-numbers.ensures c.as_slice-parts.ensures
