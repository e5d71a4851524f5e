-- The types of applications and literals.
use Rattle.std.proofs.Common.{◌≡◌, refl, sym, ap, ◌∙◌, true, false, eqb, List, [], ◌∷◌, length, map, get_or, Some, None, option_map, arith}
use Rattle.std.specs.Prelude.{is_some}
use Rattle.std.proofs.lemmas.Bool.{false≢true}
use Rattle.std.proofs.lemmas.Bool.Decides.{nat_tests}
use Rattle.ess_semantics.specs.Lists.{when}
use Rattle.ess_semantics.specs.Values.{a_tuple, a_matrix, a_function, a_relation}
use Rattle.ess_semantics.specs.Types.{any_ty, bool_ty, int_ty, compound, compound2, join, join_all, fit}
use Rattle.ess_semantics.specs.OperatorTypes.{type_of_application, function_ty, type_of_list}
use Rattle.ess_core.specs.TypeViews.{pure_ty, pure_tys}
use Rattle.ess_core.specs.declared.types.Ty.{Ty}
use Rattle.ess_core.specs.declared.types.Ty.TheVariants as variant
use Rattle.ess_core.proofs.TypeEquations.{pure_function, pure_relation}
use Rattle.ess_types_operators.specs.Paired.{relation_parts}
use Rattle.ess_types_operators.proofs.Paired.{some_mapped}
use Rattle.ess_types_operators.proofs.Joins.{relations_joined}
use Rattle.ess_types_operators.proofs.MemberLemmas.{fit_when}

-- ---- applications

pub function_at : (a b : Ty) (ts : List Ty) (t : Ty) → length ts ≡ 1 → t ≡ get_or ts 0 t
    → type_of_application (pure_ty (variant.Function a b)) (map pure_ty ts) ≡ when (is_some (join (pure_ty a) (pure_ty t))) (pure_ty b)
function_at a b [] t h is = absurd (omega (arith, h))
function_at a b (x ∷ []) t h is =
    ap (λ u. type_of_application u (pure_ty x ∷ [])) (pure_function a b) ∙ ap (λ z. fit (pure_ty a) (pure_ty z) (pure_ty b)) (sym is) ∙ fit_when (pure_ty a) (pure_ty t) (pure_ty b)
function_at a b (x ∷ y ∷ zs) t h is = absurd (omega (arith, h))

pub function_elsewhere : (a b : Ty) (ts : List Ty) → eqb (length ts) 1 ≡ false → type_of_application (pure_ty (variant.Function a b)) (map pure_ty ts) ≡ None
function_elsewhere a b [] h = ap (λ u. type_of_application u []) (pure_function a b)
function_elsewhere a b (x ∷ []) h = absurd (false≢true (sym h))
function_elsewhere a b (x ∷ y ∷ zs) h = ap (λ u. type_of_application u (map pure_ty (x ∷ y ∷ zs))) (pure_function a b)

pub relation_at : (ps ts : List Ty) → type_of_application (pure_ty (variant.Relation ps)) (map pure_ty ts) ≡ when (is_some (relation_parts ps ts)) bool_ty
relation_at ps ts =
    ap (λ u. type_of_application u (map pure_ty ts)) (pure_relation ps) ∙ fit_when (compound a_relation (pure_tys ps)) (compound a_relation (pure_tys ts)) bool_ty
    ∙ ap (λ b. when b bool_ty) (ap is_some (relations_joined ps ts) ∙ some_mapped (compound a_relation) (relation_parts ps ts))

-- ---- function literals

pub pair_parts : (ts : List Ty) (t u : Ty) → length ts ≡ 2 → t ≡ get_or ts 0 t → u ≡ get_or ts 1 u → function_ty (compound a_tuple (pure_tys ts)) ≡ Some (compound2 a_function (pure_ty t) (pure_ty u))
pair_parts [] t u h is it = absurd (omega (arith, h))
pair_parts (x ∷ []) t u h is it = absurd (omega (arith, h))
pair_parts (x ∷ y ∷ []) t u h is it = ap (λ z. Some (compound2 a_function (pure_ty z) (pure_ty y))) (sym is) ∙ ap (λ z. Some (compound2 a_function (pure_ty t) (pure_ty z))) (sym it)
pair_parts (x ∷ y ∷ z ∷ zs) t u h is it = absurd (omega (arith, h))

pub other_parts : (ts : List Ty) → eqb (length ts) 2 ≡ false → function_ty (compound a_tuple (pure_tys ts)) ≡ None
other_parts [] h = refl
other_parts (x ∷ []) h = refl
other_parts (x ∷ y ∷ []) h = absurd (false≢true (sym h))
other_parts (x ∷ y ∷ z ∷ zs) h = refl

-- ---- lists

pub empty_list : (ts : List Ty) → eqb (length ts) 0 ≡ true → type_of_list (map pure_ty ts) ≡ option_map (compound2 a_matrix any_ty) (join_all (map pure_ty ts))
empty_list [] h = refl
empty_list (t ∷ ts) h = absurd (grind (arith, nat_tests))

pub some_list : (ts : List Ty) → eqb (length ts) 0 ≡ false → type_of_list (map pure_ty ts) ≡ option_map (compound2 a_matrix int_ty) (join_all (map pure_ty ts))
some_list [] h = absurd (false≢true (sym h))
some_list (t ∷ ts) h = refl
