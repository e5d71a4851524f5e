use Rattle.ess_repr_full_laws.proofs.laws.tables_are_full_below.Goals as goal
use Rattle.ess_repr_full_laws.proofs.FullViews.{views-full-below}

pub returns : goal.returns
returns c = views-full-below
