use Rattle.std.proofs.Common.{drop, ◌∷◌}
use Rattle.ess_translate_plans.proofs.Turns.{Together}
use Rattle.ess_translate_plans.proofs.taken.add_one.Given as goal

abbrev pub invariant-loop-other : goal.invariant-loop-other
invariant-loop-other l = Together (drop l.other-index l.others) l.names (l.name ∷ l.others) l.fn.names
