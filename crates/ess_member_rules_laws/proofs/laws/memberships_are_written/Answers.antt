use Rattle.ess_member_rules_laws.proofs.Forms.{forms}
use Rattle.ess_member_rules_laws.proofs.Means.{means}
use Rattle.ess_member_rules_laws.proofs.laws.memberships_are_written.Goals as goal

pub returns : goal.returns
returns c = record {
  forms = forms;
  means = λ ds tc n A L t ms x T r w. means ds tc n A L t ms T r w;
}
