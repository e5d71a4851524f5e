use Rattle.std.proofs.Common.{map}
use Rattle.std.proofs.lemmas.Result.{on_ok_weaker}
use Rattle.ess_core_nodes.specs.NodeViews.{pure_node}
use Rattle.ess_keys.proofs.Conjunctions.{chained, unchained}
use Rattle.ess_keys.proofs.chains.+put_chain.Goals as goal

pub returns-in_ok-push_copy-in-Some : goal.returns-in_ok-push_copy-in-Some
returns-in_ok-push_copy-in-Some t c =
    on_ok_weaker c.put_chain.result
    (λ h. chained (map pure_node c.args.items.now) c.push_copy.new.items c.put_chain.new.items (pure_node c.in-Some.first.now)
    (pure_node c.in-Some.rest.now) (pure_node c.args.node.now) c.in-Some.ensures.part c.in_ok-push_copy-in-Some.ensures h)
    c.put_chain.ensures

pub returns-in-None : goal.returns-in-None
returns-in-None t c =
    on_ok_weaker c.push_copy-in-None.result
    (λ h. unchained (map pure_node c.args.items.now) c.push_copy-in-None.new.items (pure_node c.args.node.now) c.in-None.ensures.part h)
    c.push_copy-in-None.ensures
