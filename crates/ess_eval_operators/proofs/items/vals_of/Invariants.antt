use Rattle.std.proofs.Common.{◌≡◌, map, take}
use Rattle.ess_core.specs.ValueViews.{pure_val, pure_field_val}
use Rattle.ess_eval_operators.proofs.items.vals_of.Given as goal

abbrev pub invariant-loop-field : goal.invariant-loop-field
invariant-loop-field l = map pure_val l.vals ≡ map (λ f. f.1) (map pure_field_val (take l.field-index l.fields))
