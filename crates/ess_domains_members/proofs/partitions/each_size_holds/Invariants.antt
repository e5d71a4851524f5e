use Rattle.std.proofs.Common.{◌≡◌, map, drop}
use Rattle.std.specs.List.{list_all}
use Rattle.ess_semantics.specs.Attributes.{size_holds, part_sizes}
use Rattle.ess_core.specs.ValueViews.{pure_val}
use Rattle.ess_domains_members.proofs.partitions.each_size_holds.Given as goal

abbrev pub invariant-loop-part : goal.invariant-loop-part
invariant-loop-part l = list_all (size_holds l.key l.number) (part_sizes (map pure_val l.parts)) ≡ list_all (size_holds l.key l.number) (part_sizes (map pure_val (drop l.part-index l.parts)))
