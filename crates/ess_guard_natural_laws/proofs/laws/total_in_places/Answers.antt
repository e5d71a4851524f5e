use Rattle.ess_guard_natural_laws.proofs.laws.total_in_places.Goals as goal
use Rattle.ess_guard_natural_laws.proofs.Places.{placed, wholly}

pub returns : goal.returns
returns c = record { total = λ w e env t. placed w e env (wholly e env t); place = placed }
