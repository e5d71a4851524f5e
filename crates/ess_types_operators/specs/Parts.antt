-- The parts of types by their places, and names that are pushed one after another.
use Rattle.std.specs.Prelude.{ℕ, zero, suc, List, map, reverse, Option, Some, None}
use Rattle.ess_semantics.specs.Names.{Names}
use Rattle.ess_semantics.specs.Types as pure
use Rattle.ess_semantics.specs.Types.{Tys, no_tys, more_tys, tys_of}
use Rattle.ess_core.specs.TypeViews.{pure_field_ty}
use Rattle.ess_core.specs.declared.types.FieldTy.{FieldTy}

-- The type with i before it.
abbrev pub ty_at : Tys → ℕ → Option pure.Ty
ty_at no_tys i = None
ty_at (more_tys t ts) zero = Some t
ty_at (more_tys t ts) (suc i) = ty_at ts i

-- The types without the first i.
abbrev pub tys_from : ℕ → Tys → Tys
tys_from zero ts = ts
tys_from (suc i) no_tys = no_tys
tys_from (suc i) (more_tys t ts) = tys_from i ts

-- The types of fields.
abbrev pub types_in : Names pure.Ty → Tys
types_in fs = tys_of (map (λ f. f.1) fs)

-- Names with their types, the last of which is the newest, as a map whose first entry is the newest.
abbrev pub newest_first : List FieldTy → Names pure.Ty
newest_first fs = reverse (map pure_field_ty fs)
