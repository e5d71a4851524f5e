-- The types of members.
use Rattle.std.proofs.Common.{◌≡◌, refl, sym, true, false, eqb, List, [], ◌∷◌, length, Option, Some, None, option_map, arith}
use Rattle.std.specs.Prelude.{is_some}
use Rattle.std.proofs.lemmas.Bool.{false≢true}
use Rattle.std.proofs.lemmas.Bool.Decides.{nat_tests}
use Rattle.ess_semantics.specs.Lists.{when}
use Rattle.ess_semantics.specs.Types as pure
use Rattle.ess_semantics.specs.Types.{any_ty, compound, join, fit}
use Rattle.ess_semantics.specs.OperatorTypes.{tuple_ty}
use Rattle.ess_core.specs.TypeViews.{pure_ty, pure_tys}
use Rattle.ess_core.specs.declared.types.Ty.{Ty}
use Rattle.ess_core.specs.declared.types.Ty.TheVariants as variant
use Rattle.ess_core.proofs.TypeEquations.{pure_tuple}

pub no_parts : (ts : List Ty) → eqb (length ts) 0 ≡ true → tuple_ty (pure_tys ts) ≡ any_ty
no_parts [] h = refl
no_parts (t ∷ ts) h = absurd (grind (arith, nat_tests))

pub some_parts : (ts : List Ty) → eqb (length ts) 0 ≡ false → tuple_ty (pure_tys ts) ≡ pure_ty (variant.Tuple ts)
some_parts [] h = absurd (false≢true (sym h))
some_parts (t ∷ ts) h = sym (pure_tuple (t ∷ ts))

-- A result that is there where two types agree.
pub fit_when : (t u r : pure.Ty) → fit t u r ≡ when (is_some (join t u)) r
fit_when t u r = go (join t u)
  where
    go : (o : Option pure.Ty) → option_map (λ v. r) o ≡ when (is_some o) r
    go None = refl
    go (Some v) = refl
