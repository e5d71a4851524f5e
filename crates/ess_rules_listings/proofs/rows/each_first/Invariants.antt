use Rattle.std.proofs.Common.{◌≡◌, [], ◌++◌, map, reverse, take, drop}
use Rattle.ess_core.specs.TreeViews.{exs_of}
use Rattle.ess_core_nodes.specs.NodeViews.{pure_node}
use Rattle.ess_rules_laws.specs.Listings.{each_first}
use Rattle.ess_rules_forms.specs.PureAlternatives.{pure_alternative}
use Rattle.ess_rules_listings.proofs.rows.each_first.Given as goal

abbrev pub invariant-loop-place : goal.invariant-loop-place
invariant-loop-place l =
    map pure_alternative l.all
    ++ each_first (reverse (map pure_node (take l.place l.items))) (exs_of (map pure_node (drop l.place l.items)))
    ≡ each_first [] (exs_of (map pure_node l.items))
