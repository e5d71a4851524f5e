use Rattle.conjure_standing_laws.proofs.ShownNested.{nested-domains-stay}
use Rattle.conjure_standing_laws.proofs.laws.nested_domains_stay.Goals as goal

pub returns : goal.returns
returns c = nested-domains-stay
