use Rattle.ess_view_types_laws.proofs.laws.views_have_their_type.Goals as goal
use Rattle.ess_view_types_laws.proofs.ViewTypes.{views-have-their-type}

pub returns : goal.returns
returns c = views-have-their-type
