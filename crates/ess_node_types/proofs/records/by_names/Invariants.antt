use Rattle.std.proofs.Common.{◌≡◌, length, map}
use Rattle.ess_semantics.specs.Names.{by_name}
use Rattle.ess_core.specs.TypeViews.{pure_field_ty}
use Rattle.ess_types_operators.proofs.RecordLemmas.{all_inserted}
use Rattle.ess_node_types.proofs.records.by_names.Given as goal

abbrev pub invariant-loop-field : goal.invariant-loop-field
invariant-loop-field l = all_inserted (map pure_field_ty l.fields) (map pure_field_ty l.sorted) ≡ by_name (map pure_field_ty l.fn.fields)

abbrev pub decreases-loop-field : goal.decreases-loop-field
decreases-loop-field l = length l.fields
