use Rattle.std.proofs.Common.{◌≡◌, take}
use Rattle.ess_core.proofs.+copy_ty.Given as goal

abbrev pub invariant-copies::types::copy_tys-loop-ty : goal.invariant-copies::types::copy_tys-loop-ty
invariant-copies::types::copy_tys-loop-ty l = l.copies ≡ take l.ty-index l.ty-items

abbrev pub invariant-copies::types::copy_fields-loop-field : goal.invariant-copies::types::copy_fields-loop-field
invariant-copies::types::copy_fields-loop-field l = l.copies ≡ take l.field-index l.field-items
