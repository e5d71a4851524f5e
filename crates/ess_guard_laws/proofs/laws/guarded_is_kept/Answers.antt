use Rattle.ess_guard_laws.proofs.laws.guarded_is_kept.Goals as goal
use Rattle.std.specs.Prelude.{false, []}
use Rattle.std.proofs.Common.{sym}
use Rattle.ess_guard_laws.proofs.StructuresMet.{same, met}

pub returns : goal.returns
returns c = λ x y g e env p m. (sym (same false x y e [] env), met false x y e [] env m)
