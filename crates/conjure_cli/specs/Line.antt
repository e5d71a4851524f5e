-- The line of the counts.
use Rattle.std.specs.Prelude.{ℕ, ◌++◌, codes, decimal}
use Rattle.ess_semantics.specs.Values.{Text}
use Rattle.conjure_cli.specs.declared.counts_line.Counts.{Counts}

-- A number behind what it counts.
abbrev pub counted : Text → ℕ → Text
counted what n = what ++ decimal n

-- `statements A, cells B, constraints C, members D`
abbrev pub text_of_counts : Counts → Text
text_of_counts c =
    counted (codes "statements ") c.statements ++ counted (codes ", cells ") c.cells ++ counted (codes ", constraints ") c.constraints
    ++ counted (codes ", members ") c.members
