use Rattle.ess_given_kind_steps_laws.proofs.laws.kind_steps_keep_given.Goals as goal
use Rattle.ess_given_kind_steps_laws.proofs.KindSteps.{kind-steps-keep-given}

pub returns : goal.returns
returns c = kind-steps-keep-given
