use Rattle.std.proofs.Common.{◌≡◌, sym, ap, ◌∙◌, subst, map, option_map, IfOk}
use Rattle.ess_core_nodes.specs.NodeViews.{pure_node, pure_nodes, pure_op}
use Rattle.ess_numbered_laws.specs.MostItems.{most, most_of_each}
use Rattle.ess_rules_numbered.specs.PickViews.{pure_pick}
use Rattle.ess_rules_numbered.specs.MostForms.{most_of_op}
use Rattle.ess_rules_numbered.proofs.MostForms.{most_by_node, each_all}
use Rattle.ess_rules_numbered.proofs.most.+most.Goals as goal

-- The operator and its operands are those of the term.
pub most-returns-in-Op : goal.most-returns-in-Op
most-returns-in-Op t c = subst (λ z. IfOk c.most_of_op.result (λ o. option_map pure_node o ≡ z))
    (ap (λ l. most_of_op c.args.one.now (map pure_pick c.args.path.now) c.in-Op.mark (pure_op c.in-Op.op) (pure_nodes l)) c.as_slice.ensures
    ∙ most_by_node c.args.one.now (map pure_pick c.args.path.now) c.in-Op.mark c.in-Op.op c.in-Op.operands
    ∙ ap (λ n. most c.args.one.now (map pure_pick c.args.path.now) (pure_node n)) (sym c.in-Op.is)) c.most_of_op.ensures

-- All numbers are there.
pub most_of_each-returns : goal.most_of_each-returns
most_of_each-returns t c =
    each_all c.args.one.now (map pure_pick c.args.path.now) c.loop-item.all c.args.items.now c.loop-item.item-index
    (most_of_each c.args.one.now (map pure_pick c.args.path.now) (pure_nodes c.args.items.now))
    c.loop-item-test.false c.loop-item.invariant
