-- The types of functions and partitions by the types of their parts, and the index of a list.
use Rattle.std.proofs.Common.{◌≡◌, refl, sym, ap, ◌∙◌, ℕ, suc, ◌+◌, ◌<◌, List, [], ◌∷◌, ◌++◌, length, map, take, get_or, Some, None, pos, arith}
use Rattle.std.specs.Prelude.{◌≢◌}
use Rattle.std.proofs.lemmas.List.{map_more, length-map, length-take-le}
use Rattle.ess_semantics.specs.Values.{Value, number, a_tuple, a_set}
use Rattle.ess_semantics.specs.Types.{compound}
use Rattle.ess_semantics.specs.Operators.{numbers_from}
use Rattle.ess_semantics.specs.OperatorTypes.{function_ty, partition_ty}
use Rattle.ess_core.specs.declared.values.Val.{Val}
use Rattle.ess_core.specs.ValueViews.{pure_val}
use Rattle.ess_values.specs.Shapes.{pure_shape, pure_shapes}
use Rattle.ess_values.specs.declared.shapes.Kind.TheVariants as kind
use Rattle.ess_values.specs.declared.shapes.Shape.{Shape}
use Rattle.ess_values.specs.declared.shapes.Shape.TheVariants as variant
use Rattle.ess_values.proofs.ShapeEquations.{shape_node}

pub two_parts : (ps : List Shape) → length ps ≡ 2 → function_ty (compound a_tuple (pure_shapes ps)) ≡ Some (pure_shape (variant.Node kind.Function ps))
two_parts [] h = absurd (omega arith)
two_parts (p ∷ []) h = absurd (omega arith)
two_parts (p ∷ q ∷ []) h = ap Some (sym (shape_node kind.Function (p ∷ q ∷ [])))
two_parts (p ∷ q ∷ r ∷ ps) h = absurd (omega arith)

pub not_two_parts : (ps : List Shape) → length ps ≢ 2 → function_ty (compound a_tuple (pure_shapes ps)) ≡ None
not_two_parts [] h = refl
not_two_parts (p ∷ []) h = refl
not_two_parts (p ∷ q ∷ []) h = absurd (h refl)
not_two_parts (p ∷ q ∷ r ∷ ps) h = refl

pub one_part : (ps : List Shape) → length ps ≡ 1 → partition_ty (compound a_set (pure_shapes ps)) ≡ Some (pure_shape (variant.Node kind.Partition ps))
one_part [] h = absurd (omega arith)
one_part (p ∷ []) h = ap Some (sym (shape_node kind.Partition (p ∷ [])))
one_part (p ∷ q ∷ ps) h = absurd (omega arith)

pub not_one_part : (ps : List Shape) → length ps ≢ 1 → partition_ty (compound a_set (pure_shapes ps)) ≡ None
not_one_part [] h = refl
not_one_part (p ∷ []) h = absurd (h refl)
not_one_part (p ∷ q ∷ ps) h = refl

numbers_push : (k : ℕ) (xs : List Value) (x : Value) → numbers_from k (xs ++ x ∷ []) ≡ numbers_from k xs ++ number (pos (k + length xs)) ∷ []
numbers_push k [] x = ap (λ n. number (pos n) ∷ []) (omega arith)
numbers_push k (y ∷ ys) x =
    ap (λ l. number (pos k) ∷ l) (numbers_push (suc k) ys x) ∙ ap (λ n. number (pos k) ∷ (numbers_from (suc k) ys ++ number (pos n) ∷ [])) (omega arith)

pub one_more_index : (vs : List Val) (i : ℕ) (d : Val) → i < length vs → numbers_from 1 (map pure_val (take (i + 1) vs)) ≡ numbers_from 1 (map pure_val (take i vs)) ++ number (pos (i + 1)) ∷ []
one_more_index vs i d h =
    ap (numbers_from 1) (map_more pure_val vs i d h) ∙ numbers_push 1 (map pure_val (take i vs)) (pure_val (get_or vs i d))
    ∙ ap (λ n. numbers_from 1 (map pure_val (take i vs)) ++ number (pos n) ∷ []) (let a = length-map (take i vs) pure_val in let b : length (take i vs) ≡ i = length-take-le i vs (omega arith) in omega (arith, a, b))
