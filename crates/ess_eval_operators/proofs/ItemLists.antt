-- The items of a value: those that it keeps as values, and those that are made of pairs and fields.
use Rattle.std.proofs.Common.{◌≡◌, refl, sym, ap, ◌∙◌, List, map}
use Rattle.ess_semantics.specs.Values.{Value, nil, cons, number, truth, item, node, a_tuple, a_matrix, a_set, a_mset, a_function, a_relation, a_partition, a_record, to_list, of_list, items_of}
use Rattle.ess_semantics.proofs.Orders.{to_list-of_list}
use Rattle.ess_core.specs.declared.values.Val.{Val}
use Rattle.ess_core.specs.declared.values.Pair.{Pair}
use Rattle.ess_core.specs.declared.values.FieldVal.{FieldVal}
use Rattle.ess_core.specs.declared.values.Val.TheVariants as variant
use Rattle.ess_core.specs.ValueViews.{pure_val, pure_pair, pure_field_val}
use Rattle.ess_core.proofs.ValueEquations.{pure_tuple, pure_rec, pure_matrix, pure_set, pure_mset, pure_function, pure_relation, pure_partition}
use Rattle.ess_eval_operators.specs.Items.{spare_items, items_or}

-- A list of values that is made a value's parts is read as itself.
pub listed_again : (vs : List Value) → to_list (of_list vs) ≡ vs
listed_again vs = to_list-of_list vs

-- The items of a value are those that it keeps as values, or the spare ones.
pub items_with_spare : (v : Value) → items_or (spare_items v) v ≡ items_of v
items_with_spare (number n) = refl
items_with_spare (truth b) = refl
items_with_spare (item t k) = refl
items_with_spare (node a_tuple xs) = refl
items_with_spare (node a_set xs) = refl
items_with_spare (node a_mset xs) = refl
items_with_spare (node a_function xs) = refl
items_with_spare (node a_relation xs) = refl
items_with_spare (node a_partition xs) = refl
items_with_spare (node (a_record fs) xs) = refl
items_with_spare (node a_matrix nil) = refl
items_with_spare (node a_matrix (cons (number n) xs)) = refl
items_with_spare (node a_matrix (cons (truth b) xs)) = refl
items_with_spare (node a_matrix (cons (item t k) xs)) = refl
items_with_spare (node a_matrix (cons (node a_matrix is) xs)) = refl
items_with_spare (node a_matrix (cons (node a_set is) xs)) = refl
items_with_spare (node a_matrix (cons (node a_mset is) xs)) = refl
items_with_spare (node a_matrix (cons (node a_function is) xs)) = refl
items_with_spare (node a_matrix (cons (node a_relation is) xs)) = refl
items_with_spare (node a_matrix (cons (node a_partition is) xs)) = refl
items_with_spare (node a_matrix (cons (node (a_record fs) is) xs)) = refl
items_with_spare (node a_matrix (cons (node a_tuple is) nil)) = refl
items_with_spare (node a_matrix (cons (node a_tuple is) (cons (number n) xs))) = refl
items_with_spare (node a_matrix (cons (node a_tuple is) (cons (truth b) xs))) = refl
items_with_spare (node a_matrix (cons (node a_tuple is) (cons (item t k) xs))) = refl
items_with_spare (node a_matrix (cons (node a_tuple is) (cons (node a_matrix ys) xs))) = refl
items_with_spare (node a_matrix (cons (node a_tuple is) (cons (node a_set ys) xs))) = refl
items_with_spare (node a_matrix (cons (node a_tuple is) (cons (node a_mset ys) xs))) = refl
items_with_spare (node a_matrix (cons (node a_tuple is) (cons (node a_function ys) xs))) = refl
items_with_spare (node a_matrix (cons (node a_tuple is) (cons (node a_relation ys) xs))) = refl
items_with_spare (node a_matrix (cons (node a_tuple is) (cons (node a_partition ys) xs))) = refl
items_with_spare (node a_matrix (cons (node a_tuple is) (cons (node (a_record fs) ys) xs))) = refl
items_with_spare (node a_matrix (cons (node a_tuple is) (cons (node a_tuple ys) nil))) = refl
items_with_spare (node a_matrix (cons (node a_tuple is) (cons (node a_tuple ys) (cons x xs)))) = refl

-- The values of all items, whole, in terms of the two lists of the code.
pub listed_items : (v : Val) (items spare : List Val) → map pure_val items ≡ items_or (map pure_val spare) (pure_val v)
    → map pure_val spare ≡ spare_items (pure_val v)
    → map pure_val items ≡ items_of (pure_val v)
listed_items v items spare l s = l ∙ ap (λ ss. items_or ss (pure_val v)) s ∙ items_with_spare (pure_val v)

-- ---- what the code finds in a value of each kind

pub kept_tuple : (v : Val) (vs : List Val) (ss : List Value) → v ≡ variant.Tuple vs → map pure_val vs ≡ items_or ss (pure_val v)
kept_tuple v vs ss e = sym (ap (λ w. items_or ss (pure_val w)) e ∙ ap (items_or ss) (pure_tuple vs) ∙ to_list-of_list (map pure_val vs))

pub kept_matrix : (v : Val) (is vs : List Val) (ss : List Value) → v ≡ variant.Matrix is vs → map pure_val vs ≡ items_or ss (pure_val v)
kept_matrix v is vs ss e = sym (ap (λ w. items_or ss (pure_val w)) e ∙ ap (items_or ss) (pure_matrix is vs)
    ∙ to_list-of_list (map pure_val vs))

pub kept_set : (v : Val) (vs : List Val) (ss : List Value) → v ≡ variant.Set vs → map pure_val vs ≡ items_or ss (pure_val v)
kept_set v vs ss e = sym (ap (λ w. items_or ss (pure_val w)) e ∙ ap (items_or ss) (pure_set vs) ∙ to_list-of_list (map pure_val vs))

pub kept_mset : (v : Val) (vs : List Val) (ss : List Value) → v ≡ variant.MSet vs → map pure_val vs ≡ items_or ss (pure_val v)
kept_mset v vs ss e = sym (ap (λ w. items_or ss (pure_val w)) e ∙ ap (items_or ss) (pure_mset vs) ∙ to_list-of_list (map pure_val vs))

pub kept_relation : (v : Val) (vs : List Val) (ss : List Value) → v ≡ variant.Relation vs → map pure_val vs ≡ items_or ss (pure_val v)
kept_relation v vs ss e = sym (ap (λ w. items_or ss (pure_val w)) e ∙ ap (items_or ss) (pure_relation vs)
    ∙ to_list-of_list (map pure_val vs))

pub kept_partition : (v : Val) (vs : List Val) (ss : List Value) → v ≡ variant.Partition vs → map pure_val vs ≡ items_or ss (pure_val v)
kept_partition v vs ss e = sym (ap (λ w. items_or ss (pure_val w)) e ∙ ap (items_or ss) (pure_partition vs)
    ∙ to_list-of_list (map pure_val vs))

pub spare_function : (v : Val) (ps : List Pair) → v ≡ variant.Function ps → map pure_pair ps ≡ spare_items (pure_val v)
spare_function v ps e = sym (ap (λ w. spare_items (pure_val w)) e ∙ ap spare_items (pure_function ps) ∙ to_list-of_list (map pure_pair ps))

pub spare_record : (v : Val) (fs : List FieldVal) → v ≡ variant.Rec fs → map (λ f. f.1) (map pure_field_val fs) ≡ spare_items (pure_val v)
spare_record v fs e = sym (ap (λ w. spare_items (pure_val w)) e ∙ ap spare_items (pure_rec fs)
    ∙ to_list-of_list (map (λ f. f.1) (map pure_field_val fs)))

pub ruleset items = (listed_again, items_with_spare)

pub ruleset kept_items = (kept_tuple, kept_matrix, kept_set, kept_mset, kept_relation, kept_partition, spare_function, spare_record)
