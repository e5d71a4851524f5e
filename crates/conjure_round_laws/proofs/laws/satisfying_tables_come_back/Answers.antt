use Rattle.conjure_round_laws.proofs.TextsComeBack.{satisfying-come-back}
use Rattle.conjure_round_laws.proofs.laws.satisfying_tables_come_back.Goals as goal

pub returns : goal.returns
returns c = satisfying-come-back
