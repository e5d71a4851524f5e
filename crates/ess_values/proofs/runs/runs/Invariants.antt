use Rattle.std.proofs.Common.{◌≡◌, drop}
use Rattle.ess_core.specs.ValueViews.{pure_vals}
use Rattle.ess_grammar.specs.ValueTexts.{runs_of}
use Rattle.ess_values.specs.Printing.{runs_before}
use Rattle.ess_values.specs.Runs.{pure_runs}
use Rattle.ess_values.proofs.runs.runs.Given as goal

abbrev pub invariant-loop-value : goal.invariant-loop-value
invariant-loop-value l = runs_before (pure_runs l.runs) (runs_of (pure_vals (drop l.value-index l.values))) ≡ runs_of (pure_vals l.values)
