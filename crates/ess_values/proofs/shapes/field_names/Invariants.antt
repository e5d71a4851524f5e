use Rattle.std.proofs.Common.{◌≡◌, take, map}
use Rattle.ess_semantics.specs.Names.{keys}
use Rattle.ess_core.specs.TypeViews.{pure_field_ty}
use Rattle.ess_values.proofs.shapes.field_names.Given as goal

abbrev pub invariant-loop-field : goal.invariant-loop-field
invariant-loop-field l = l.names ≡ keys (map pure_field_ty (take l.field-index l.fields))
