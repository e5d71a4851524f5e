use Rattle.std.proofs.Common.{◌≡◌, map, drop}
use Rattle.std.specs.List.{list_all}
use Rattle.ess_semantics.specs.Kinds.{is_bounded, is_closed_end}
use Rattle.ess_core_nodes.specs.NodeViews.{pure_ends}
use Rattle.ess_node_forms.proofs.refined.is_bounded.Given as goal

abbrev pub invariant-loop-range : goal.invariant-loop-range
invariant-loop-range l = is_bounded (map pure_ends l.ends) ≡ list_all is_closed_end (map pure_ends (drop l.range-index l.ends))
