use Rattle.std.proofs.Common.{◌≡◌, ◌-◌, suc, drop, length}
use Rattle.ess_semantics.specs.Order.{same_texts}
use Rattle.ess_semantics.specs.Assignments.{unnamed_names}
use Rattle.ess_domains.proofs.unnamed.are_unnamed_names.Given as goal

abbrev pub invariant-loop-i : goal.invariant-loop-i
invariant-loop-i l = same_texts l.names (unnamed_names l.own 1 (length l.names)) ≡ same_texts (drop l.i l.names) (unnamed_names l.own (suc l.i) (length l.names - l.i))
