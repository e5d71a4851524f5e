use Rattle.std.proofs.Common.{◌≡◌, length, map}
use Rattle.ess_semantics.specs.Names.{by_name}
use Rattle.ess_core.specs.ValueViews.{pure_field_val}
use Rattle.ess_eval_operators.proofs.RecordFields.{all_inserted}
use Rattle.ess_eval_operators.proofs.records.by_names.Given as goal

abbrev pub invariant-loop-field : goal.invariant-loop-field
invariant-loop-field l = all_inserted (map pure_field_val l.fields) (map pure_field_val l.sorted) ≡ by_name (map pure_field_val l.fn.fields)

abbrev pub decreases-loop-field : goal.decreases-loop-field
decreases-loop-field l = length l.fields
