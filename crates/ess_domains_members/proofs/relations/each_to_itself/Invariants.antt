use Rattle.std.proofs.Common.{◌≡◌, map, drop}
use Rattle.std.specs.List.{list_all}
use Rattle.ess_semantics.specs.Attributes.{related}
use Rattle.ess_core.specs.ValueViews.{pure_val}
use Rattle.ess_domains_members.proofs.relations.each_to_itself.Given as goal

abbrev pub invariant-loop-val : goal.invariant-loop-val
invariant-loop-val l = list_all (λ x. related (map pure_val l.tuples) x x) (map pure_val l.vals)
    ≡ list_all (λ x. related (map pure_val l.tuples) x x) (map pure_val (drop l.val-index l.vals))
