use Rattle.std.proofs.Common.{◌≡◌, ◌++◌, map, drop}
use Rattle.ess_core.specs.TableViews.{pure_type_entries}
use Rattle.ess_values_laws.specs.ItemNames.{item_name}
use Rattle.ess_translate_values.specs.StoodValues.{pure_stood}
use Rattle.ess_translate_solutions.specs.CellFiles.{there_of, value_lines}
use Rattle.ess_translate_solutions.proofs.solution_texts.push_values.Given as goal

abbrev pub invariant-loop-found : goal.invariant-loop-found
invariant-loop-found l =
    l.out ++ value_lines (item_name (pure_type_entries l.env.types)) (there_of (map pure_stood (drop l.found-index l.vals)))
    ≡ l.fn.out ++ value_lines (item_name (pure_type_entries l.env.types)) (there_of (map pure_stood l.vals))
