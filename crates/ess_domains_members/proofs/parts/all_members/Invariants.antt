use Rattle.std.proofs.Common.{◌≡◌, map, drop, ◌++◌}
use Rattle.ess_semantics.specs.Lists.{append_all}
use Rattle.ess_values.specs.Parts.{set_members}
use Rattle.ess_core.specs.ValueViews.{pure_val}
use Rattle.ess_domains_members.proofs.parts.all_members.Given as goal

abbrev pub invariant-loop-part : goal.invariant-loop-part
invariant-loop-part l = append_all (map set_members (map pure_val l.parts)) ≡ map pure_val l.all ++ append_all (map set_members (map pure_val (drop l.part-index l.parts)))
