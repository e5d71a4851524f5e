use Rattle.std.proofs.Common.{◌≡◌, ◌++◌, map, filter, drop}
use Rattle.ess_semantics.specs.ModelTrees.{in_header}
use Rattle.ess_core.specs.StatementViews.{pure_stm}
use Rattle.ess_models.proofs.headers.kept_statements.Given as goal

abbrev pub invariant-loop-stm : goal.invariant-loop-stm
invariant-loop-stm l =
    map pure_stm l.kept ++ filter in_header (map pure_stm (drop l.stm-index l.stms)) ≡ filter in_header (map pure_stm l.stms)
