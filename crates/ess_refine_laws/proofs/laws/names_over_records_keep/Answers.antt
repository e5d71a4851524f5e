use Rattle.ess_refine_laws.proofs.laws.names_over_records_keep.Goals as goal
use Rattle.ess_refine_laws.proofs.RecordNames.{names-over-records}

pub returns : goal.returns
returns c = names-over-records
