use Rattle.std.proofs.Common.{◌≡◌, map, drop}
use Rattle.ess_core.specs.TypeViews.{pure_field_ty}
use Rattle.ess_types_operators.specs.Steps.{field_in}
use Rattle.ess_types_operators.proofs.indices.field.Given as goal

abbrev pub invariant-loop-field : goal.invariant-loop-field
invariant-loop-field l = field_in (map pure_field_ty l.fields) l.name ≡ field_in (map pure_field_ty (drop l.field-index l.fields)) l.name
