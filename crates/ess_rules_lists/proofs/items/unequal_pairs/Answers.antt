use Rattle.std.proofs.Common.{◌≡◌, sym, ap, ◌∙◌, [], map}
use Rattle.ess_core_nodes.specs.NodeViews.{pure_node, pure_nodes}
use Rattle.ess_rules_laws.specs.LiteralRules.{unequal_pairs}
use Rattle.ess_rules_lists.specs.Before.{exs_before}
use Rattle.ess_rules_lists.proofs.ItemLists.{before_none, none_left}
use Rattle.ess_rules_lists.proofs.items.unequal_pairs.Goals as goal

pub returns : goal.returns
returns c =
    let e : c.loop-first.rest.now ≡ [] = none_left c.loop-first.rest.now c.in_default.ensures.cases in
    sym (before_none (map pure_node c.loop-first.pairs))
    ∙ ap (λ l. exs_before (map pure_node c.loop-first.pairs) (unequal_pairs (pure_nodes l))) (sym e)
    ∙ c.loop-first.invariant
