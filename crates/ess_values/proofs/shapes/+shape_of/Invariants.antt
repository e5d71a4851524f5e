use Rattle.std.proofs.Common.{◌≡◌, take, map}
use Rattle.ess_core.specs.TypeViews.{pure_ty, pure_field_ty}
use Rattle.ess_values.specs.Shapes.{pure_shape}
use Rattle.ess_values.proofs.shapes.+shape_of.Given as goal

abbrev pub invariant-shapes_of-loop-ty : goal.invariant-shapes_of-loop-ty
invariant-shapes_of-loop-ty l = map pure_shape l.shapes ≡ map pure_ty (take l.ty-index l.tys)

abbrev pub invariant-field_shapes-loop-field : goal.invariant-field_shapes-loop-field
invariant-field_shapes-loop-field l = map pure_shape l.shapes ≡ map (λ f. f.1) (map pure_field_ty (take l.field-index l.fields))
