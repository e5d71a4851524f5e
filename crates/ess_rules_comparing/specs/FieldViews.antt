-- The names and the types of the fields of a record's type.
use Rattle.std.specs.Prelude.{List, map}
use Rattle.ess_semantics.specs.Values.{Text}
use Rattle.ess_semantics.specs.Names.{keys}
use Rattle.ess_semantics.specs.Types.{Tys, tys_of}
use Rattle.ess_core.specs.declared.types.FieldTy.{FieldTy}
use Rattle.ess_core.specs.TypeViews.{pure_field_ty}

-- The names of fields.
abbrev pub names_in : List FieldTy → List Text
names_in fs = keys (map pure_field_ty fs)

-- Their types.
abbrev pub types_in : List FieldTy → Tys
types_in fs = tys_of (map (λ f. f.1) (map pure_field_ty fs))
