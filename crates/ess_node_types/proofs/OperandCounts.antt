-- The types of operators, by how many operands there are.
use Rattle.std.proofs.Common.{◌≡◌, refl, sym, ap, ◌∙◌, false, eqb, List, [], ◌∷◌, length, map, get_or, Option, None, arith}
use Rattle.std.proofs.lemmas.Bool.{false≢true}
use Rattle.ess_semantics.specs.declared.words.Op1.{Op1}
use Rattle.ess_semantics.specs.declared.words.Op2.{Op2}
use Rattle.ess_semantics.specs.Trees.{unary, binary}
use Rattle.ess_semantics.specs.OperatorTypes.{type_of_op, type_of_unary, type_of_binary}
use Rattle.ess_core.specs.TypeViews.{pure_ty}
use Rattle.ess_core.specs.declared.types.Ty.{Ty}

pub one_operand : (o : Op1) (ts : List Ty) (t : Ty) → length ts ≡ 1 → t ≡ get_or ts 0 t
    → type_of_op (unary o) (map pure_ty ts) ≡ type_of_unary o (pure_ty t)
one_operand o [] t h is = absurd (omega (arith, h))
one_operand o (x ∷ []) t h is = ap (λ z. type_of_unary o (pure_ty z)) (sym is)
one_operand o (x ∷ y ∷ zs) t h is = absurd (omega (arith, h))

pub other_operands_1 : (o : Op1) (ts : List Ty) → eqb (length ts) 1 ≡ false → type_of_op (unary o) (map pure_ty ts) ≡ None
other_operands_1 o [] h = refl
other_operands_1 o (x ∷ []) h = absurd (false≢true (sym h))
other_operands_1 o (x ∷ y ∷ zs) h = refl

pub two_operands : (o : Op2) (ts : List Ty) (t u : Ty) → length ts ≡ 2 → t ≡ get_or ts 0 t → u ≡ get_or ts 1 u
    → type_of_op (binary o) (map pure_ty ts) ≡ type_of_binary o (pure_ty t) (pure_ty u)
two_operands o [] t u h is it = absurd (omega (arith, h))
two_operands o (x ∷ []) t u h is it = absurd (omega (arith, h))
two_operands o (x ∷ y ∷ []) t u h is it =
    ap (λ z. type_of_binary o (pure_ty z) (pure_ty y)) (sym is) ∙ ap (λ z. type_of_binary o (pure_ty t) (pure_ty z)) (sym it)
two_operands o (x ∷ y ∷ z ∷ zs) t u h is it = absurd (omega (arith, h))

pub other_operands_2 : (o : Op2) (ts : List Ty) → eqb (length ts) 2 ≡ false → type_of_op (binary o) (map pure_ty ts) ≡ None
other_operands_2 o [] h = refl
other_operands_2 o (x ∷ []) h = refl
other_operands_2 o (x ∷ y ∷ []) h = absurd (false≢true (sym h))
other_operands_2 o (x ∷ y ∷ z ∷ zs) h = refl
