use Rattle.ess_translate_tables_laws.proofs.laws.right_models_declare_their_tables.Goals as goal
use Rattle.ess_translate_tables_laws.proofs.HeaderPlans.{right-models}

pub returns : goal.returns
returns c = right-models
