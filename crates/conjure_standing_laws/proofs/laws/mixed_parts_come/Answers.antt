use Rattle.conjure_standing_laws.proofs.MixedPartsCome.{mixed-parts-come}
use Rattle.conjure_standing_laws.proofs.laws.mixed_parts_come.Goals as goal

pub returns : goal.returns
returns c = mixed-parts-come
