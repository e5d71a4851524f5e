-- The line that the self-test tells.
use Rattle.std.specs.Prelude.{◌≡◌, ℕ, ◌++◌, codes}
use Rattle.ess_semantics.specs.Values.{Text}
use Rattle.conjure_cli.specs.declared.counts_line.Counts.{Counts}
use Rattle.conjure_cli.specs.Line.{text_of_counts}
use Rattle.conjure_cli.specs.Counted.{HasCounts}

-- The line tells the counts of the self-test with the number N, and ends.
pub record IsTestLine (N : ℕ) (line : Text) : Type 0 where
  pub counts : Counts
  pub has : HasCounts N counts
  pub told : line ≡ text_of_counts counts ++ codes "\n"
