use Rattle.ess_translate_given_laws.proofs.laws.given_tables_are_there.Goals as goal
use Rattle.ess_translate_given_laws.proofs.GivenTables.{given-tables-there}

pub returns : goal.returns
returns c = given-tables-there
