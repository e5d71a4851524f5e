use Rattle.std.proofs.Common.{sym, ap, ◌∙◌, ◌≤◌, length, arith}
use Rattle.std.proofs.lemmas.List.{drop_all}
use Rattle.ess_core.specs.ValueViews.{pure_vals}
use Rattle.ess_grammar.specs.ValueTexts.{runs_of}
use Rattle.ess_values.specs.Printing.{runs_before}
use Rattle.ess_values.specs.Runs.{pure_runs}
use Rattle.ess_values.proofs.NumberRuns.{runs_end}
use Rattle.ess_values.proofs.runs.runs.Goals as goal

pub returns : goal.returns
returns c =
    let past : length c.args.values.now ≤ c.loop-value.value-index = omega (arith, c.loop-value-test.false) in
    sym (runs_end (pure_runs c.loop-value.runs))
    ∙ ap (λ vs. runs_before (pure_runs c.loop-value.runs) (runs_of (pure_vals vs))) (sym (drop_all c.loop-value.value-index c.args.values.now past))
    ∙ c.loop-value.invariant
