use Rattle.std.proofs.Common.{◌≡◌, map, drop, not, ◌||◌}
use Rattle.std.specs.List.{list_all}
use Rattle.ess_semantics.specs.Values.{from_of, to_of}
use Rattle.ess_semantics.specs.Order.{same}
use Rattle.ess_semantics.specs.Attributes.{related}
use Rattle.ess_core.specs.ValueViews.{pure_val}
use Rattle.ess_domains_members.proofs.relations.is_antisymmetric.Given as goal

abbrev pub invariant-loop-tuple : goal.invariant-loop-tuple
invariant-loop-tuple l = list_all (λ p. not (related (map pure_val l.tuples) (to_of p) (from_of p)) || same (from_of p) (to_of p)) (map pure_val l.tuples)
    ≡ list_all (λ p. not (related (map pure_val l.tuples) (to_of p) (from_of p)) || same (from_of p) (to_of p)) (map pure_val (drop l.tuple-index l.tuples))
