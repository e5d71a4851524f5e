use Rattle.ess_guard_tests_laws.proofs.laws.total_is_so_but_for_tests.Goals as goal
use Rattle.ess_guard_tests_laws.proofs.Places.{wholly}
use Rattle.ess_guard_tests_laws.proofs.KnownForms.{known}

pub returns : goal.returns
returns c = record { total = wholly; covered = known }
