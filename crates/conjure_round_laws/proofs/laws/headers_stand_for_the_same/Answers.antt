use Rattle.conjure_round_laws.proofs.HeaderWalks.{headers-stand}
use Rattle.conjure_round_laws.proofs.laws.headers_stand_for_the_same.Goals as goal

pub returns : goal.returns
returns c = headers-stand
