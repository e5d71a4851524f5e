use Rattle.ess_kinds_kept_laws.proofs.laws.tails_may_change_their_order.Goals as goal
use Rattle.ess_kinds_kept_laws.proofs.UnorderedTails.{unordered-tails}

pub returns : goal.returns
returns c = unordered-tails
