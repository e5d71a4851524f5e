-- The pure type that a type stands for.
use Rattle.std.specs.Prelude.{List, map}
use Rattle.ess_semantics.specs.Values.{Text, a_tuple, a_matrix, a_set, a_mset, a_function, a_relation, a_partition}
use Rattle.ess_semantics.specs.Types as pure
use Rattle.ess_semantics.specs.Types.{any_ty, bool_ty, int_ty, named_ty, compound, compound1, compound2, tys_of}
use Rattle.ess_semantics.specs.OperatorTypes.{record_ty}
use Rattle.ess_core.specs.declared.types.Ty.{Ty}
use Rattle.ess_core.specs.declared.types.FieldTy.{FieldTy}
use Rattle.ess_core.specs.declared.types.Ty.TheOpen.{Ty-F, FieldTy-F}
use Rattle.ess_core.specs.declared.types.Ty.TheFolds.{fold-Ty, fold-FieldTy}

-- A type, with the pure types of its parts in their places.
abbrev pub ty_step : Ty-F pure.Ty (Text × pure.Ty) → pure.Ty
ty_step Ty-F.Any = any_ty
ty_step Ty-F.Bool = bool_ty
ty_step Ty-F.Int = int_ty
ty_step (Ty-F.Named a) = named_ty a
ty_step (Ty-F.Tuple ts) = compound a_tuple (tys_of ts)
ty_step (Ty-F.Rec fs) = record_ty fs
ty_step (Ty-F.Matrix i t) = compound2 a_matrix i t
ty_step (Ty-F.Set t) = compound1 a_set t
ty_step (Ty-F.MSet t) = compound1 a_mset t
ty_step (Ty-F.Function t u) = compound2 a_function t u
ty_step (Ty-F.Relation ts) = compound a_relation (tys_of ts)
ty_step (Ty-F.Partition t) = compound1 a_partition t

-- A field with its name.
abbrev pub field_ty_step : FieldTy-F pure.Ty (Text × pure.Ty) → Text × pure.Ty
field_ty_step f = (f.name, f.ty)

-- The pure type of a type.
abbrev pub pure_ty : Ty → pure.Ty
pure_ty = fold-Ty pure.Ty (Text × pure.Ty) ty_step field_ty_step

-- The pure field of a field.
abbrev pub pure_field_ty : FieldTy → Text × pure.Ty
pure_field_ty = fold-FieldTy pure.Ty (Text × pure.Ty) ty_step field_ty_step

-- The pure types of several types.
abbrev pub pure_tys : List Ty → pure.Tys
pure_tys ts = tys_of (map pure_ty ts)
