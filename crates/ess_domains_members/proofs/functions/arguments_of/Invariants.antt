use Rattle.std.proofs.Common.{◌≡◌, map, take}
use Rattle.ess_semantics.specs.Values.{from_of}
use Rattle.ess_core.specs.ValueViews.{pure_val, pure_pair}
use Rattle.ess_domains_members.proofs.functions.arguments_of.Given as goal

abbrev pub invariant-loop-pair : goal.invariant-loop-pair
invariant-loop-pair l = map pure_val l.vals ≡ map from_of (map pure_pair (take l.pair-index l.pairs))
