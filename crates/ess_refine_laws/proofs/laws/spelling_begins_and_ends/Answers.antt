use Rattle.ess_refine_laws.proofs.laws.spelling_begins_and_ends.Goals as goal
use Rattle.ess_refine_laws.proofs.SpellingEnds.{spelling-ends}

pub returns : goal.returns
returns c = spelling-ends
