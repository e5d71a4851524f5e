use Rattle.ess_member_models_laws.proofs.MemberModels.{member-models}
use Rattle.ess_member_models_laws.proofs.laws.member_models_are_right.Goals as goal

pub returns : goal.returns
returns c = member-models
