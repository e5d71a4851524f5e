use Rattle.conjure_cli_laws.proofs.laws.written_models_stand.Goals as goal
use Rattle.conjure_cli_laws.proofs.WrittenModels.{written-stands}

pub returns : goal.returns
returns c = written-stands
