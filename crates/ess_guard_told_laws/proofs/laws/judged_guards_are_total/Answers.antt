use Rattle.ess_guard_told_laws.proofs.laws.judged_guards_are_total.Goals as goal
use Rattle.ess_guard_told_laws.proofs.JudgedGuards.{guards-total}

pub returns : goal.returns
returns c = guards-total c.judged_trees_have_marks.ensures c.guarded_is_total_but_tests.ensures c.natural_is_total_but_tests.ensures
