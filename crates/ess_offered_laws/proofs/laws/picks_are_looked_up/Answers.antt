use Rattle.ess_offered_laws.proofs.PicksLookedUp.{picks-looked_up}
use Rattle.ess_offered_laws.proofs.laws.picks_are_looked_up.Goals as goal

pub returns : goal.returns
returns c = λ g x ys e p t d k. picks-looked_up g x ys e p t d k
