use Rattle.ess_print_laws.proofs.laws.lettings_are_read.Goals as goal
use Rattle.ess_print_laws.proofs.Lettings.{letting-read, expression-letting}

pub returns : goal.returns
returns c = record { statements = letting-read; expressions = expression-letting }
