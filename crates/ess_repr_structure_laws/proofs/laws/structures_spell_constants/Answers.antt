use Rattle.ess_repr_structure_laws.proofs.laws.structures_spell_constants.Goals as goal
use Rattle.ess_repr_structure_laws.proofs.ConstantViews.{structures-spell}

pub returns : goal.returns
returns c = structures-spell
