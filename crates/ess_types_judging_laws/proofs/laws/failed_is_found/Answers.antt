use Rattle.ess_semantics.specs.Judgements.{judgements}
use Rattle.ess_types_judging_laws.proofs.laws.failed_is_found.Goals as goal
use Rattle.ess_types_judging_laws.proofs.Verdicts.{first_failed_found}

pub returns : goal.returns
returns c = first_failed_found judgements
