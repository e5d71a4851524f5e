-- The types of nodes, by the number of their operands.
use Rattle.std.proofs.Common.{◌≡◌, refl, sym, ap, ◌∙◌, ◌<◌, false, eqb, List, [], ◌∷◌, map, drop, length, get_or, None, arith}
use Rattle.std.proofs.lemmas.Bool.{false≢true}
use Rattle.ess_semantics.specs.declared.words.Op1.{Op1}
use Rattle.ess_semantics.specs.declared.words.Op2.{Op2}
use Rattle.ess_semantics.specs.Trees.{unary, binary, application}
use Rattle.ess_semantics.specs.OperatorTypes.{type_of_op, type_of_unary, type_of_binary, type_of_application}
use Rattle.ess_core.specs.TypeViews.{pure_ty}
use Rattle.ess_core.specs.declared.types.Ty.{Ty}

pub one_typed : (o : Op1) (ts : List Ty) (t : Ty) → length ts ≡ 1 → t ≡ get_or ts 0 t →
    type_of_op (unary o) (map pure_ty ts) ≡ type_of_unary o (pure_ty t)
one_typed o [] t h is = absurd (omega (arith, h))
one_typed o (x ∷ []) t h is = ap (λ u. type_of_unary o (pure_ty u)) (sym is)
one_typed o (x ∷ y ∷ zs) t h is = absurd (omega (arith, h))

pub one_untyped : (o : Op1) (ts : List Ty) → eqb (length ts) 1 ≡ false → type_of_op (unary o) (map pure_ty ts) ≡ None
one_untyped o [] h = refl
one_untyped o (x ∷ []) h = absurd (false≢true (sym h))
one_untyped o (x ∷ y ∷ zs) h = refl

pub two_typed : (o : Op2) (ts : List Ty) (t u : Ty) → length ts ≡ 2 → t ≡ get_or ts 0 t → u ≡ get_or ts 1 u →
    type_of_op (binary o) (map pure_ty ts) ≡ type_of_binary o (pure_ty t) (pure_ty u)
two_typed o [] t u h is it = absurd (omega (arith, h))
two_typed o (x ∷ []) t u h is it = absurd (omega (arith, h))
two_typed o (x ∷ y ∷ []) t u h is it =
    ap (λ v. type_of_binary o (pure_ty v) (pure_ty y)) (sym is) ∙ ap (λ v. type_of_binary o (pure_ty t) (pure_ty v)) (sym it)
two_typed o (x ∷ y ∷ z ∷ zs) t u h is it = absurd (omega (arith, h))

pub two_untyped : (o : Op2) (ts : List Ty) → eqb (length ts) 2 ≡ false → type_of_op (binary o) (map pure_ty ts) ≡ None
two_untyped o [] h = refl
two_untyped o (x ∷ []) h = refl
two_untyped o (x ∷ y ∷ []) h = absurd (false≢true (sym h))
two_untyped o (x ∷ y ∷ z ∷ zs) h = refl

pub applied_untyped : (ts : List Ty) → length ts ≡ 0 → type_of_op application (map pure_ty ts) ≡ None
applied_untyped [] h = refl
applied_untyped (x ∷ ts) h = absurd (omega (arith, h))

pub applied_typed : (ts : List Ty) (t : Ty) → 0 < length ts → t ≡ get_or ts 0 t →
    type_of_op application (map pure_ty ts) ≡ type_of_application (pure_ty t) (map pure_ty (drop 1 ts))
applied_typed [] t h is = absurd (omega (arith, h))
applied_typed (x ∷ ts) t h is = ap (λ u. type_of_application (pure_ty u) (map pure_ty ts)) (sym is)
