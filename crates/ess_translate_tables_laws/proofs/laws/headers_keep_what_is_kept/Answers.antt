use Rattle.ess_translate_tables_laws.proofs.laws.headers_keep_what_is_kept.Goals as goal
use Rattle.ess_translate_tables_laws.proofs.HeaderPlans.{headers-keep}

pub returns : goal.returns
returns c = headers-keep
