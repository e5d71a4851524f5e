use Rattle.std.proofs.Common.{◌≡◌, take}
use Rattle.ess_guard_forms.proofs.known.copy_known.Given as goal

abbrev pub invariant-loop-entry : goal.invariant-loop-entry
invariant-loop-entry l = l.copies ≡ take l.entry-index l.known
