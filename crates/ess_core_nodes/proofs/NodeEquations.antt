-- What generators, conditions and views of nodes stand for, variant by variant.
use Rattle.std.proofs.Common.{◌≡◌, sym, ap, ◌∙◌}
use Rattle.ess_semantics.specs.Trees as pure
use Rattle.ess_semantics.specs.Trees.{seen_ex}
use Rattle.ess_core.specs.declared.expressions.Pat.{Pat}
use Rattle.ess_core.specs.TreeViews.{pure_repr, pure_pat, Item, over_item, from_item, cond_item}
use Rattle.ess_core_nodes.specs.declared.nodes.Node.{Node}
use Rattle.ess_core_nodes.specs.declared.nodes.NodeDom.{NodeDom}
use Rattle.ess_core_nodes.specs.declared.nodes.Seen.{Seen}
use Rattle.ess_core_nodes.specs.declared.nodes.Gen.TheOpen.{Gen-F}
use Rattle.ess_core_nodes.specs.declared.nodes.Gen.TheVariants as gen
use Rattle.ess_core_nodes.specs.declared.nodes.Gen.TheViews.{out-Seen, roll-out-Seen}
use Rattle.ess_core_nodes.specs.declared.nodes.Gen.TheFolds.{fold-roll-Gen, fold-roll-Seen}
use Rattle.ess_core_nodes.specs.NodeViews.{gen_step, node_step, dom_step, seen_step, pure_node, pure_gen, pure_dom, pure_seen, pure_nodes}

-- A generator over a domain.
pub pure_gen_over : (p : Pat) (d : NodeDom) → pure_gen (gen.Over p d) ≡ over_item (pure_pat p) (pure_dom d)
pure_gen_over p d = ap pure_gen (sym (gen.rolls-Over p d)) ∙ fold-roll-Gen Item pure.Ex pure.Dom pure.Ex gen_step node_step dom_step seen_step (Gen-F.Over p d)

-- A generator over a value.
pub pure_gen_from : (p : Pat) (e : Node) → pure_gen (gen.From p e) ≡ from_item (pure_pat p) (pure_node e)
pure_gen_from p e = ap pure_gen (sym (gen.rolls-From p e)) ∙ fold-roll-Gen Item pure.Ex pure.Dom pure.Ex gen_step node_step dom_step seen_step (Gen-F.From p e)

-- A condition.
pub pure_gen_if : (e : Node) → pure_gen (gen.If e) ≡ cond_item (pure_node e)
pure_gen_if e = ap pure_gen (sym (gen.rolls-If e)) ∙ fold-roll-Gen Item pure.Ex pure.Dom pure.Ex gen_step node_step dom_step seen_step (Gen-F.If e)

-- A view.
pub pure_seen_is : (v : Seen)
    → pure_seen v ≡ seen_ex (pure_repr (out-Seen v).repr) (pure_dom (out-Seen v).dom) (out-Seen v).cells (pure_nodes (out-Seen v).at)
pure_seen_is v = ap pure_seen (sym (roll-out-Seen v)) ∙ fold-roll-Seen Item pure.Ex pure.Dom pure.Ex gen_step node_step dom_step seen_step (out-Seen v)
