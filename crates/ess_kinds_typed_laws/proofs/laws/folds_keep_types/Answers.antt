use Rattle.ess_kinds_typed_laws.proofs.laws.folds_keep_types.Goals as goal
use Rattle.ess_kinds_typed_laws.proofs.FoldsKeepTypes.{folds-keep-types}

pub returns : goal.returns
returns c = folds-keep-types
