use Rattle.std.proofs.Common.{◌≡◌, ◌++◌, drop}
use Rattle.ess_types_judging.proofs.NameLemmas.{names_in}
use Rattle.ess_types_judging.proofs.bounds.+pattern.Given as goal

abbrev pub invariant-push_all_names-loop-i : goal.invariant-push_all_names-loop-i
invariant-push_all_names-loop-i l = l.initial.names ++ names_in l.pats ≡ l.names ++ names_in (drop l.i l.pats)
