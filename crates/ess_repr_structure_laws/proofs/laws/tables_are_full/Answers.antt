use Rattle.ess_repr_structure_laws.proofs.laws.tables_are_full.Goals as goal
use Rattle.ess_repr_structure_laws.proofs.FullViews.{views-full}

pub returns : goal.returns
returns c = views-full
