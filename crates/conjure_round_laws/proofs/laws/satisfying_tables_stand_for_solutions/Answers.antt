use Rattle.conjure_round_laws.proofs.StoodSolutions.{satisfying-stand}
use Rattle.conjure_round_laws.proofs.laws.satisfying_tables_stand_for_solutions.Goals as goal

-- src/laws.rt:6:1
pub returns : goal.returns
returns c = satisfying-stand
