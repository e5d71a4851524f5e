use Rattle.std.proofs.Common.{◌≡◌, drop, map, option_map}
use Rattle.std.specs.Prelude.{is_some}
use Rattle.ess_semantics.specs.Lists.{all_some}
use Rattle.ess_core.specs.ValueViews.{pure_val}
use Rattle.ess_eval.proofs.marking.all_there.Given as goal

abbrev pub invariant-loop-operand : goal.invariant-loop-operand
invariant-loop-operand l =
    is_some (all_some (map (option_map pure_val) l.operands)) ≡ is_some (all_some (map (option_map pure_val) (drop l.operand-index l.operands)))
