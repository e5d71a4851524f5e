use Rattle.ess_values.proofs.Parts.{empty_set}
use Rattle.ess_values.proofs.partitions.is_empty_part.Goals as goal

pub returns-in-Set : goal.returns-in-Set
returns-in-Set c = empty_set _ _ _ c.in-Set.is c.is_empty.ensures
