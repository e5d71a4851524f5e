use Rattle.std.proofs.Common.{◌≡◌, take}
use Rattle.ess_node_types.proofs.names.copy_names.Given as goal

abbrev pub invariant-loop-named : goal.invariant-loop-named
invariant-loop-named l = l.copies ≡ take l.named-index l.names
