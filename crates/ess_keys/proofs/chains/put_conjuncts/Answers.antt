use Rattle.std.proofs.Common.{ap, ◌∙◌, map}
use Rattle.std.proofs.lemmas.Result.{on_ok_weaker}
use Rattle.ess_core_nodes.specs.NodeViews.{pure_node}
use Rattle.ess_keys.specs.Steps.{trees_before}
use Rattle.ess_keys.proofs.Conjunctions.{items_behind, chain_behind}
use Rattle.ess_keys.proofs.chains.put_conjuncts.Goals as goal

pub returns-in-Some : goal.returns-in-Some
returns-in-Some c =
    on_ok_weaker c.put_copies.result
    (λ h. items_behind (pure_node c.args.node.now) c.in-Some.list.now c.args.items.now c.put_copies.new.items c.in-Some.ensures.part h)
    c.put_copies.ensures

pub returns-in-None : goal.returns-in-None
returns-in-None c =
    on_ok_weaker c.put_chain.result
    (λ h. h ∙ ap (trees_before (map pure_node c.args.items.now)) (chain_behind (pure_node c.args.node.now) c.in-None.ensures.part))
    c.put_chain.ensures
