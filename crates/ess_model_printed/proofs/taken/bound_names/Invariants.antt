use Rattle.std.proofs.Common.{◌≡◌, take}
use Rattle.ess_model_printed.proofs.taken.bound_names.Given as goal

abbrev pub invariant-loop-name : goal.invariant-loop-name
invariant-loop-name l = l.bound ≡ take l.name-index l.names
