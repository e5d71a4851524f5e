use Rattle.std.proofs.Common.{◌≡◌, map, drop, nat_eq}
use Rattle.std.specs.List.{list_all}
use Rattle.ess_semantics.specs.Attributes.{part_sizes}
use Rattle.ess_core.specs.ValueViews.{pure_val}
use Rattle.ess_domains_members.proofs.partitions.each_is.Given as goal

abbrev pub invariant-loop-part : goal.invariant-loop-part
invariant-loop-part l = list_all (nat_eq l.size) (part_sizes (map pure_val l.parts)) ≡ list_all (nat_eq l.size) (part_sizes (map pure_val (drop l.part-index l.parts)))
