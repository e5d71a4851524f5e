use Rattle.std.proofs.Common.{◌≡◌, map, take}
use Rattle.ess_semantics.specs.Values.{items_of}
use Rattle.ess_core.specs.ValueViews.{pure_val}
use Rattle.ess_repr_relations.proofs.numbers.part_lists.Given as goal

abbrev pub invariant-loop-part : goal.invariant-loop-part
invariant-loop-part l = map (map pure_val) l.lists ≡ map items_of (map pure_val (take l.part-index l.parts))
