use Rattle.ess_member_headers_laws.proofs.KeptChosen.{kept-are-chosen}
use Rattle.ess_member_headers_laws.proofs.laws.kept_are_chosen.Goals as goal

pub returns : goal.returns
returns c = kept-are-chosen
