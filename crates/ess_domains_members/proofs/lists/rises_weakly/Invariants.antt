use Rattle.std.proofs.Common.{◌≡◌, map, drop}
use Rattle.ess_semantics.specs.Collections.{rises_weakly}
use Rattle.ess_core.specs.ValueViews.{pure_val}
use Rattle.ess_domains_members.proofs.lists.rises_weakly.Given as goal

abbrev pub invariant-loop-i : goal.invariant-loop-i
invariant-loop-i l = rises_weakly (map pure_val l.items) ≡ rises_weakly (map pure_val (drop l.i l.items))
