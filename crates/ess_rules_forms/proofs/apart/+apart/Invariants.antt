use Rattle.std.proofs.Common.{◌≡◌, drop}
use Rattle.ess_core_nodes.specs.NodeViews.{pure_nodes}
use Rattle.ess_rules_laws.specs.Apart.{any_apart}
use Rattle.ess_rules_forms.proofs.apart.+apart.Given as goal

abbrev pub invariant-any_apart-loop-item : goal.invariant-any_apart-loop-item
invariant-any_apart-loop-item l =
    any_apart (pure_nodes (drop l.item-index l.items)) (pure_nodes l.rest) ≡ any_apart (pure_nodes l.items) (pure_nodes l.others)
