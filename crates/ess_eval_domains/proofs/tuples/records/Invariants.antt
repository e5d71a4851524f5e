use Rattle.std.proofs.Common.{◌≡◌, map, take}
use Rattle.ess_semantics.specs.Lists.{zip}
use Rattle.ess_semantics.specs.Names.{keys}
use Rattle.ess_core.specs.ValueViews.{record_value, pure_val}
use Rattle.ess_eval_domains.specs.ClosedViews.{pure_field_closed}
use Rattle.ess_eval_domains.proofs.tuples.records.Given as goal

abbrev pub invariant-loop-list : goal.invariant-loop-list
invariant-loop-list l = map pure_val l.records ≡ map (λ x. record_value (zip (keys (map pure_field_closed l.fields)) x)) (map (map pure_val) (take l.list-index l.lists))
