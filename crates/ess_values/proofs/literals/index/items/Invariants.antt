use Rattle.std.proofs.Common.{◌≡◌, map}
use Rattle.ess_semantics.specs.Domains.{items_from}
use Rattle.ess_core.specs.ValueViews.{pure_val}
use Rattle.ess_values.proofs.literals.index.items.Given as goal

abbrev pub invariant-loop-k : goal.invariant-loop-k
invariant-loop-k l = map pure_val l.items ≡ items_from l.name 1 l.k
