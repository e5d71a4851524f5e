use Rattle.std.proofs.Common.{◌≡◌, drop}
use Rattle.ess_print_laws.specs.Brackets.{are_written_as_patterns}
use Rattle.ess_core.specs.TreeViews.{pure_exs}
use Rattle.ess_print.proofs.brackets.+pattern.Given as goal

abbrev pub invariant-are_patterns-loop-ex : goal.invariant-are_patterns-loop-ex
invariant-are_patterns-loop-ex l = are_written_as_patterns (pure_exs l.exs) ≡ are_written_as_patterns (pure_exs (drop l.ex-index l.exs))
