use Rattle.std.proofs.Common.{◌≡◌, map, drop}
use Rattle.std.specs.List.{list_all}
use Rattle.ess_core.specs.ValueViews.{pure_val}
use Rattle.ess_domains_members.specs.Forms.{is_filled}
use Rattle.ess_domains_members.proofs.parts.are_filled.Given as goal

abbrev pub invariant-loop-part : goal.invariant-loop-part
invariant-loop-part l = list_all is_filled (map pure_val l.parts) ≡ list_all is_filled (map pure_val (drop l.part-index l.parts))
