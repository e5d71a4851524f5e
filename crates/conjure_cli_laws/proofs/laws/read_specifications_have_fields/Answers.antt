use Rattle.conjure_cli_laws.proofs.laws.read_specifications_have_fields.Goals as goal
use Rattle.conjure_cli_laws.proofs.ReadFields.{read-have-fields}

pub returns : goal.returns
returns c = read-have-fields
