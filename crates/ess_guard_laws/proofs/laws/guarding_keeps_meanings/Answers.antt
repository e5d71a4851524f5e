use Rattle.ess_guard_laws.proofs.laws.guarding_keeps_meanings.Goals as goal
use Rattle.std.specs.Prelude.{false, []}
use Rattle.ess_guard_laws.proofs.Rows.{own-holds}
use Rattle.ess_guard_laws.proofs.LiteralRows.{matrix-holds}
use Rattle.ess_guard_laws.proofs.Meanings.{same}

pub returns : goal.returns
returns c = λ x y e env. same false x y (own-holds x y) (matrix-holds x) e [] env
