use Rattle.std.proofs.Common.{◌≡◌, map, take}
use Rattle.ess_semantics.specs.Tables.{code}
use Rattle.ess_core.specs.ValueViews.{pure_val}
use Rattle.ess_repr_sets.proofs.atoms.codes.Given as goal

abbrev pub invariant-loop-val : goal.invariant-loop-val
invariant-loop-val l = l.codes ≡ map code (map pure_val (take l.val-index l.vals))
