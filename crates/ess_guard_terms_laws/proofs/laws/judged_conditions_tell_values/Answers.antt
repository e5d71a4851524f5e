use Rattle.ess_guard_terms_laws.proofs.laws.judged_conditions_tell_values.Goals as goal
use Rattle.ess_guard_terms_laws.proofs.TermTypes.{conditions-tell}

pub returns : goal.returns
returns c = conditions-tell c.judged_trees_have_marks.ensures c.present_is_supplied.ensures c.judged_expressions_are_sound.ensures
