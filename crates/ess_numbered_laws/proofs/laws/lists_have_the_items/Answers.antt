use Rattle.ess_numbered_laws.proofs.laws.lists_have_the_items.Goals as goal
use Rattle.ess_numbered_laws.proofs.ListedTerms.{lists-have-the-items}

pub returns : goal.returns
returns c = lists-have-the-items
