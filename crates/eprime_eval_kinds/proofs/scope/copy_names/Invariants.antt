use Rattle.std.proofs.Common.{◌≡◌, take}
use Rattle.eprime_eval_kinds.proofs.scope.copy_names.Given as goal

abbrev pub invariant-loop-bound : goal.invariant-loop-bound
invariant-loop-bound l = l.copies ≡ take l.bound-index l.names
