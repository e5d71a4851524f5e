use Rattle.ess_refine_types_laws.proofs.laws.types_need_their_names.Goals as goal
use Rattle.ess_refine_types_laws.proofs.TypeNames.{types-need-their-names}

pub returns : goal.returns
returns c = types-need-their-names
