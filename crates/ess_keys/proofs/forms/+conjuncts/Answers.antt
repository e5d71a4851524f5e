use Rattle.std.proofs.Common.{◌≡◌, ap, ◌∙◌, map}
use Rattle.std.proofs.lemmas.Result.{IfOk-weaker}
use Rattle.ess_guard_laws.specs.Conditions.{unless}
use Rattle.ess_core.specs.TreeViews.{cond_item}
use Rattle.ess_core_nodes.specs.NodeViews.{pure_node, pure_nodes, pure_gen}
use Rattle.ess_guard_forms.specs.KnownNames.{pure_known}
use Rattle.ess_keys_laws.specs.KeyForms.{is_settled}
use Rattle.ess_keys_laws.specs.Keyed.{conjuncts, all_conjuncts}
use Rattle.ess_keys.proofs.Pairs.{list_conjuncts, one_conjunct}
use Rattle.ess_keys.proofs.forms.+conjuncts.Goals as goal

pub conjuncts-returns-in-Some : goal.conjuncts-returns-in-Some
conjuncts-returns-in-Some t c =
    IfOk-weaker c.all_conjuncts.result
    (λ gs. map pure_gen gs ≡ map cond_item (all_conjuncts (pure_known c.args.known.now) (pure_nodes c.in-Some.items.now)))
    (λ gs. map pure_gen gs ≡ map cond_item (conjuncts (pure_known c.args.known.now) (pure_node c.args.node.now)))
    (λ gs h. h
    ∙ ap (map cond_item)
    (list_conjuncts (pure_known c.args.known.now) (pure_node c.args.node.now) (pure_nodes c.in-Some.items.now) c.in-Some.ensures.part))
    c.all_conjuncts.ensures

pub conjuncts-returns-in-None-sides : goal.conjuncts-returns-in-None-sides
conjuncts-returns-in-None-sides t c =
    IfOk-weaker c.unless_settled.result
    (λ gs. map pure_gen gs
    ≡ map cond_item (unless (is_settled (pure_known c.args.known.now) (pure_node c.args.node.now)) (pure_node c.args.node.now)))
    (λ gs. map pure_gen gs ≡ map cond_item (conjuncts (pure_known c.args.known.now) (pure_node c.args.node.now)))
    (λ gs h. h
    ∙ ap (map cond_item)
    (one_conjunct (pure_known c.args.known.now) (pure_node c.args.node.now) c.in-None.ensures.part c.in-None-sides.ensures.part))
    c.unless_settled.ensures
