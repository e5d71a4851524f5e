use Rattle.std.proofs.Common.{◌≡◌, map, take, Some, option_map}
use Rattle.ess_semantics.specs.Collections.{set_of}
use Rattle.ess_semantics.specs.PartitionLayers.{members_numbered}
use Rattle.ess_core.specs.ValueViews.{pure_val}
use Rattle.ess_repr_relations.proofs.parting.parts_numbered.Given as goal

abbrev pub invariant-loop-number : goal.invariant-loop-number
invariant-loop-number l =
    map (option_map pure_val) l.parts ≡ map (λ k. Some (set_of (members_numbered (map pure_val l.members) l.numbers k)))
    (take l.number-index l.axis)
