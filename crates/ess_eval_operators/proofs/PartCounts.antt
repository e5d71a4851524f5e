-- How many parts a value has.
use Rattle.std.proofs.Common.{◌≡◌, refl, ap, ◌∙◌, suc, List, [], ◌∷◌, map, length, Some, pos}
use Rattle.ess_semantics.specs.declared.words.Op1.{Op1}
use Rattle.ess_semantics.specs.Values.{number}
use Rattle.ess_semantics.specs.Operators.{value_of_unary}
use Rattle.ess_semantics.proofs.Orders.{to_list-of_list}
use Rattle.ess_core.specs.declared.values.Val.{Val}
use Rattle.ess_core.specs.declared.values.Pair.{Pair}
use Rattle.ess_core.specs.declared.values.FieldVal.{FieldVal}
use Rattle.ess_core.specs.declared.values.Val.TheVariants as variant
use Rattle.ess_core.specs.ValueViews.{pure_val, pure_pair, pure_field_val}
use Rattle.ess_core.proofs.ValueEquations.{pure_tuple, pure_rec, pure_matrix, pure_set, pure_mset, pure_function, pure_relation, pure_partition}

length_mapped : {A B : Type 0} (f : A → B) (xs : List A) → length (map f xs) ≡ length xs
length_mapped f [] = refl
length_mapped f (x ∷ xs) = ap suc (length_mapped f xs)

pub size_of_tuple : (v : Val) (vs : List Val) → v ≡ variant.Tuple vs → value_of_unary Op1.Bar (pure_val v) ≡ Some (number (pos (length vs)))
size_of_tuple v vs e =
    ap (λ w. value_of_unary Op1.Bar (pure_val w)) e ∙ ap (value_of_unary Op1.Bar) (pure_tuple vs)
    ∙ ap (λ n. Some (number (pos n))) (ap length (to_list-of_list (map pure_val vs)) ∙ length_mapped pure_val vs)

pub size_of_set : (v : Val) (vs : List Val) → v ≡ variant.Set vs → value_of_unary Op1.Bar (pure_val v) ≡ Some (number (pos (length vs)))
size_of_set v vs e =
    ap (λ w. value_of_unary Op1.Bar (pure_val w)) e ∙ ap (value_of_unary Op1.Bar) (pure_set vs)
    ∙ ap (λ n. Some (number (pos n))) (ap length (to_list-of_list (map pure_val vs)) ∙ length_mapped pure_val vs)

pub size_of_mset : (v : Val) (vs : List Val) → v ≡ variant.MSet vs → value_of_unary Op1.Bar (pure_val v) ≡ Some (number (pos (length vs)))
size_of_mset v vs e =
    ap (λ w. value_of_unary Op1.Bar (pure_val w)) e ∙ ap (value_of_unary Op1.Bar) (pure_mset vs)
    ∙ ap (λ n. Some (number (pos n))) (ap length (to_list-of_list (map pure_val vs)) ∙ length_mapped pure_val vs)

pub size_of_relation : (v : Val) (vs : List Val) → v ≡ variant.Relation vs
    → value_of_unary Op1.Bar (pure_val v) ≡ Some (number (pos (length vs)))
size_of_relation v vs e =
    ap (λ w. value_of_unary Op1.Bar (pure_val w)) e ∙ ap (value_of_unary Op1.Bar) (pure_relation vs)
    ∙ ap (λ n. Some (number (pos n))) (ap length (to_list-of_list (map pure_val vs)) ∙ length_mapped pure_val vs)

pub size_of_partition : (v : Val) (vs : List Val) → v ≡ variant.Partition vs
    → value_of_unary Op1.Bar (pure_val v) ≡ Some (number (pos (length vs)))
size_of_partition v vs e =
    ap (λ w. value_of_unary Op1.Bar (pure_val w)) e ∙ ap (value_of_unary Op1.Bar) (pure_partition vs)
    ∙ ap (λ n. Some (number (pos n))) (ap length (to_list-of_list (map pure_val vs)) ∙ length_mapped pure_val vs)

pub size_of_function : (v : Val) (ps : List Pair) → v ≡ variant.Function ps
    → value_of_unary Op1.Bar (pure_val v) ≡ Some (number (pos (length ps)))
size_of_function v ps e =
    ap (λ w. value_of_unary Op1.Bar (pure_val w)) e ∙ ap (value_of_unary Op1.Bar) (pure_function ps)
    ∙ ap (λ n. Some (number (pos n))) (ap length (to_list-of_list (map pure_pair ps)) ∙ length_mapped pure_pair ps)

pub size_of_rec : (v : Val) (fs : List FieldVal) → v ≡ variant.Rec fs
    → value_of_unary Op1.Bar (pure_val v) ≡ Some (number (pos (length fs)))
size_of_rec v fs e =
    ap (λ w. value_of_unary Op1.Bar (pure_val w)) e ∙ ap (value_of_unary Op1.Bar) (pure_rec fs)
    ∙ ap (λ n. Some (number (pos n))) (ap length (to_list-of_list (map (λ f. f.1) (map pure_field_val fs)))
    ∙ (length_mapped (λ f. f.1) (map pure_field_val fs) ∙ length_mapped pure_field_val fs))

pub size_of_matrix : (v : Val) (is vs : List Val) → v ≡ variant.Matrix is vs → value_of_unary Op1.Bar (pure_val v) ≡ Some (number (pos 2))
size_of_matrix v is vs e = ap (λ w. value_of_unary Op1.Bar (pure_val w)) e ∙ ap (value_of_unary Op1.Bar) (pure_matrix is vs)

pub ruleset sizes = (
  size_of_tuple,
  size_of_set,
  size_of_mset,
  size_of_relation,
  size_of_partition,
  size_of_function,
  size_of_rec,
  size_of_matrix,
)
