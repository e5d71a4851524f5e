-- Operands added one after another.
use Rattle.std.proofs.Common.{◌≡◌, refl, ap, Bool, true, false, if◌then◌else◌, List, [], ◌∷◌, ◌++◌, map, Option, Some, None, option_map}
use Rattle.std.proofs.lemmas.List.{map_push}
use Rattle.ess_semantics.specs.Lists.{and_then}
use Rattle.ess_semantics.specs.Types as pure
use Rattle.ess_core.specs.TypeViews.{pure_ty}
use Rattle.ess_core.specs.declared.types.Ty.{Ty}

-- The types, where each operand has one.
abbrev pub typed_tys : Bool → List Ty → Option (List pure.Ty)
typed_tys b ts = if b then Some (map pure_ty ts) else None

-- With one more.
abbrev pub one_more : Option (List pure.Ty) → Option pure.Ty → Option (List pure.Ty)
one_more o t = and_then o (λ ts. option_map (λ u. ts ++ u ∷ []) t)

pub added_typed : (b : Bool) (ts : List Ty) (t : Ty) → typed_tys b (ts ++ t ∷ []) ≡ one_more (typed_tys b ts) (Some (pure_ty t))
added_typed true ts t = ap Some (map_push pure_ty ts t)
added_typed false ts t = refl

pub added_untyped : (b : Bool) (ts : List Ty) → None ≡ one_more (typed_tys b ts) None
added_untyped true ts = refl
added_untyped false ts = refl

pub added_late : (ts : List Ty) → typed_tys false ts ≡ None
added_late ts = refl
