use Rattle.std.proofs.Common.{◌≡◌, take}
use Rattle.ess_types_operators.proofs.building.copied_tys.Given as goal

abbrev pub invariant-loop-ty : goal.invariant-loop-ty
invariant-loop-ty l = l.copies ≡ take l.ty-index l.tys
