-- Laws of numbers of cells, each stated at a function that does nothing, so that its proof is checked with the code.
use Rattle.std.specs.Prelude.{◌≡◌}
use Rattle.ess_semantics.specs.ModelTrees.{Header}
use Rattle.ess_semantics.specs.Assignments.{Assignment, nothing_given, env_of}
use Rattle.ess_semantics.specs.Plans.{plans, cells_of_plan}
use Rattle.ess_translate_header_laws.specs.Headers.{IsOurs}
use Rattle.ess_translate_given_laws.specs.Counts.{too_many}
use Rattle.ess_translate_counts_laws.specs.Runs.{first_run_above}

-- The first given or find of a header of this tool that has too many cells is found in one pass over its plans.
abbrev pub TooManyByRuns : Type 0
TooManyByRuns = (H : Header) (p : Assignment) → IsOurs H →
    too_many H p ≡ first_run_above (cells_of_plan (env_of H.statements p nothing_given)) (plans H.statements H.reprs)
