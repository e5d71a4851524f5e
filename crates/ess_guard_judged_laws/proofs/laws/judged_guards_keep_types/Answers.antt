use Rattle.ess_guard_judged_laws.proofs.laws.judged_guards_keep_types.Goals as goal
use Rattle.ess_guard_judged_laws.proofs.JudgedGuards.{guards-keep}

pub returns : goal.returns
returns c = guards-keep c.guarded_keeps_types.ensures
