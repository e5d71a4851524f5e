use Rattle.std.proofs.Common.{◌≡◌, map, drop}
use Rattle.ess_translate_values.specs.StoodValues.{pure_stood}
use Rattle.ess_translate_solutions.specs.CellFiles.{first_without}
use Rattle.ess_translate_solutions.proofs.solutions.without_value.Given as goal

abbrev pub invariant-loop-found : goal.invariant-loop-found
invariant-loop-found l = first_without (map pure_stood l.vals) ≡ first_without (map pure_stood (drop l.found-index l.vals))
