use Rattle.std.proofs.Common.{◌≡◌, map, drop, not, ◌||◌}
use Rattle.std.specs.List.{list_all}
use Rattle.ess_semantics.specs.Values.{from_of, to_of}
use Rattle.ess_semantics.specs.Order.{same}
use Rattle.ess_semantics.specs.Attributes.{related}
use Rattle.ess_core.specs.ValueViews.{pure_val}
use Rattle.ess_domains_members.proofs.relations.goes_on.Given as goal

abbrev pub invariant-loop-next : goal.invariant-loop-next
invariant-loop-next l = list_all (λ q. not (same (to_of (pure_val l.tuple)) (from_of q)) || related (map pure_val l.tuples) (from_of (pure_val l.tuple)) (to_of q)) (map pure_val l.tuples)
    ≡ list_all (λ q. not (same (to_of (pure_val l.tuple)) (from_of q)) || related (map pure_val l.tuples) (from_of (pure_val l.tuple)) (to_of q)) (map pure_val (drop l.next-index l.tuples))
