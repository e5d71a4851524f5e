-- What a comprehension of nodes stands for.
use Rattle.std.proofs.Common.{◌≡◌, sym, ap, ◌∙◌, List}
use Rattle.ess_semantics.specs.Trees as pure
use Rattle.ess_semantics.specs.Trees.{comp_ex}
use Rattle.ess_core.specs.TreeViews.{Item}
use Rattle.ess_core_nodes.specs.declared.nodes.Node.{Node}
use Rattle.ess_core_nodes.specs.declared.nodes.Gen.{Gen}
use Rattle.ess_core_nodes.specs.declared.nodes.Gen.TheOpen.{Node-F}
use Rattle.ess_core_nodes.specs.declared.nodes.Node.TheVariants as node
use Rattle.ess_core_nodes.specs.declared.nodes.Gen.TheFolds.{fold-roll-Node}
use Rattle.ess_core_nodes.specs.NodeViews.{gen_step, node_step, dom_step, seen_step, pure_node, pure_gens}

-- Its body with its generators.
pub pure_node_comp : (e : Node) (gs : List Gen) → pure_node (node.Comp e gs) ≡ comp_ex (pure_node e) (pure_gens gs)
pure_node_comp e gs =
    ap pure_node (sym (node.rolls-Comp e gs))
    ∙ fold-roll-Node Item pure.Ex pure.Dom pure.Ex gen_step node_step dom_step seen_step (Node-F.Comp e gs)
