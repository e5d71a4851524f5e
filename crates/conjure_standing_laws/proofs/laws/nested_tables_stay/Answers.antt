use Rattle.conjure_standing_laws.proofs.NestedTables.{nested-tables-stay}
use Rattle.conjure_standing_laws.proofs.laws.nested_tables_stay.Goals as goal

pub returns : goal.returns
returns c = nested-tables-stay
