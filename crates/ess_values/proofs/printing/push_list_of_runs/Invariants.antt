use Rattle.std.proofs.Common.{◌≡◌, ◌++◌, drop}
use Rattle.ess_grammar.specs.ValueTexts.{runs_text}
use Rattle.ess_values.specs.Runs.{pure_runs}
use Rattle.ess_values.proofs.Commas.{behind, run_texts}
use Rattle.ess_values.proofs.printing.push_list_of_runs.Given as goal

abbrev pub invariant-loop-i : goal.invariant-loop-i
invariant-loop-i l = l.out ++ behind l.i (run_texts (pure_runs (drop l.i l.runs))) ≡ l.initial.out ++ runs_text (pure_runs l.runs)
