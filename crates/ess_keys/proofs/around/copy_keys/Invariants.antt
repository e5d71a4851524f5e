use Rattle.std.proofs.Common.{◌≡◌, take}
use Rattle.ess_keys.proofs.around.copy_keys.Given as goal

abbrev pub invariant-loop-entry : goal.invariant-loop-entry
invariant-loop-entry l = l.copies ≡ take l.entry-index l.keys
