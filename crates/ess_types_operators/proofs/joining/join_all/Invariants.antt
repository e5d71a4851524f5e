use Rattle.std.proofs.Common.{◌≡◌, ◌-◌, map, drop, length, Some}
use Rattle.ess_semantics.specs.Types.{join_all}
use Rattle.ess_core.specs.TypeViews.{pure_ty}
use Rattle.ess_types_operators.proofs.joining.join_all.Given as goal

abbrev pub invariant-loop-k : goal.invariant-loop-k
invariant-loop-k l = join_all (map pure_ty (drop (length l.tys - l.k) l.tys)) ≡ Some (pure_ty l.joined)
