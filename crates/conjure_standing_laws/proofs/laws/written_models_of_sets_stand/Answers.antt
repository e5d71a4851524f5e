use Rattle.conjure_standing_laws.proofs.MemberTexts.{written-models-of-sets-stand}
use Rattle.conjure_standing_laws.proofs.laws.written_models_of_sets_stand.Goals as goal

pub returns : goal.returns
returns c = written-models-of-sets-stand
