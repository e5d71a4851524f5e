use Rattle.std.proofs.Common.{◌≡◌, map, drop}
use Rattle.std.specs.List.{list_any}
use Rattle.ess_semantics.specs.Lists.{is_empty}
use Rattle.ess_core.specs.ValueViews.{pure_val}
use Rattle.ess_values.specs.Parts.{set_members}
use Rattle.ess_values.proofs.partitions.has_empty.Given as goal

abbrev pub invariant-loop-part : goal.invariant-loop-part
invariant-loop-part l = list_any (λ p. is_empty (set_members p)) (map pure_val l.parts) ≡ list_any (λ p. is_empty (set_members p)) (map pure_val (drop l.part-index l.parts))
