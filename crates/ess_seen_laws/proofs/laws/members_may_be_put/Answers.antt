use Rattle.ess_seen_laws.proofs.More.{going-appended}
use Rattle.ess_seen_laws.proofs.Puts.{seen-put, going-put, list-put}
use Rattle.ess_seen_laws.proofs.laws.members_may_be_put.Goals as goal

pub returns : goal.returns
returns c = record {
  seen = λ cells s y h r t e m p b f. seen-put cells s y h p b f;
  going = λ cells s y h r t u gs p b g. going-put cells s y h p b g;
  appended = λ cells r t u gs hs g k. going-appended cells g k;
  listed = list-put;
}
