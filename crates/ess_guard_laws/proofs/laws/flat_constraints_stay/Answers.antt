use Rattle.ess_guard_laws.proofs.laws.flat_constraints_stay.Goals as goal
use Rattle.std.specs.Prelude.{true, false}
use Rattle.ess_guard_laws.proofs.Flat.{flat-guarded}

pub returns : goal.returns
returns c = λ x y ps e t. (flat-guarded false x y ps e t, flat-guarded true x y ps e t)
