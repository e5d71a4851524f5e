use Rattle.std.proofs.Common.{◌≡◌, ◌≤◌, length, drop, reverse}
use Rattle.ess_grammar.specs.Models.{names_of_gens}
use Rattle.ess_core.specs.TreeViews.{pure_gens}
use Rattle.eprime_read_convert.proofs.names.names_of.Given as goal

abbrev pub invariant-loop-left : goal.invariant-loop-left
invariant-loop-left l = record { within : l.left ≤ length l.gens; same : reverse l.names ≡ names_of_gens (pure_gens (drop l.left l.gens)) }

abbrev pub decreases-loop-left : goal.decreases-loop-left
decreases-loop-left l = l.left
