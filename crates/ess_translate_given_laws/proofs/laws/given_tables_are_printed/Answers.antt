use Rattle.ess_translate_given_laws.proofs.laws.given_tables_are_printed.Goals as goal
use Rattle.ess_translate_given_laws.proofs.Printed.{given-tables-printed}

pub returns : goal.returns
returns c = given-tables-printed
