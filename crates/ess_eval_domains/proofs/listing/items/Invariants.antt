use Rattle.std.proofs.Common.{◌≡◌, map}
use Rattle.ess_semantics.specs.Domains.{items_from}
use Rattle.ess_core.specs.ValueViews.{pure_val}
use Rattle.ess_eval_domains.proofs.listing.items.Given as goal

abbrev pub invariant-loop-k : goal.invariant-loop-k
invariant-loop-k l = map pure_val l.row ≡ items_from l.name 1 l.k
