use Rattle.conjure_exact_laws.proofs.SolutionTables.{each-has-its-tables}
use Rattle.conjure_exact_laws.proofs.laws.each_solution_has_its_tables.Goals as goal

pub returns : goal.returns
returns c = each-has-its-tables
