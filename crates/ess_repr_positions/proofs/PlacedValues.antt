-- Values with positions, variant by variant.
use Rattle.std.proofs.Common.{◌≡◌, refl, sym, ap, ◌∙◌, ℕ, ℤ, pos, Bool, ◌+◌, ◌<◌, ◌≤◌, List, [], ◌∷◌, ◌++◌, map, take, length, get_or}
use Rattle.ess_semantics.specs.Values.{Text, Value, number, node, cons, a_tuple, a_record, a_set, a_mset, a_function, a_relation, a_partition, of_list, pair, matrix}
use Rattle.ess_semantics.specs.Names.{Names, keys}
use Rattle.ess_semantics.specs.Positions.{with_positions, all_with_positions}
use Rattle.ess_core.specs.declared.values.Val.{Val}
use Rattle.ess_core.specs.declared.values.FieldVal.{FieldVal}
use Rattle.ess_core.specs.declared.values.Pair.{Pair}
use Rattle.ess_core.specs.declared.values.Val.TheVariants as val
use Rattle.ess_core.specs.declared.values.Val.TheViews.{out-FieldVal, out-Pair}
use Rattle.ess_core.specs.ValueViews.{record_value, pure_val, pure_field_val, pure_pair, pure_vals}
use Rattle.ess_core.proofs.ValueEquations.{pure_num, pure_truth, pure_item, pure_tuple, pure_rec, pure_matrix, pure_set, pure_mset, pure_function, pure_relation, pure_partition, pure_field_val_is, pure_pair_is}
use Rattle.ess_repr_positions.specs.Placed.{placed_val, placed_field, placed_pair}
use Rattle.ess_repr_positions.proofs.MadeRows.{made-more, made-all}

-- ---- lists

listed : {A : Type 0} (g : A → Value) (as' : List A) → of_list (map (λ a. with_positions (g a)) as') ≡ all_with_positions (of_list (map g as'))
listed g [] = refl
listed g (a ∷ as') = ap (cons (with_positions (g a))) (listed g as')

-- ---- variants

pub num_placed : (n : ℤ) → pure_val (val.Num n) ≡ with_positions (pure_val (val.Num n))
num_placed n = pure_num n ∙ ap with_positions (sym (pure_num n))

pub truth_placed : (b : Bool) → pure_val (val.Truth b) ≡ with_positions (pure_val (val.Truth b))
truth_placed b = pure_truth b ∙ ap with_positions (sym (pure_truth b))

pub item_placed : (t : Text) (k : ℕ) (n : ℤ) → n ≡ pos k → pure_val (val.Num n) ≡ with_positions (pure_val (val.Item t k))
item_placed t k n e = pure_num n ∙ ap number e ∙ ap with_positions (sym (pure_item t k))

pub tuple_placed : (vs ws : List Val) → map pure_val ws ≡ map placed_val vs → pure_val (val.Tuple ws) ≡ with_positions (pure_val (val.Tuple vs))
tuple_placed vs ws p = pure_tuple ws ∙ ap (λ l. node a_tuple (of_list l)) p ∙ ap (node a_tuple) (listed pure_val vs) ∙ ap with_positions (sym (pure_tuple vs))

pub set_placed : (vs ws : List Val) → map pure_val ws ≡ map placed_val vs → pure_val (val.Set ws) ≡ with_positions (pure_val (val.Set vs))
set_placed vs ws p = pure_set ws ∙ ap (λ l. node a_set (of_list l)) p ∙ ap (node a_set) (listed pure_val vs) ∙ ap with_positions (sym (pure_set vs))

pub mset_placed : (vs ws : List Val) → map pure_val ws ≡ map placed_val vs → pure_val (val.MSet ws) ≡ with_positions (pure_val (val.MSet vs))
mset_placed vs ws p = pure_mset ws ∙ ap (λ l. node a_mset (of_list l)) p ∙ ap (node a_mset) (listed pure_val vs) ∙ ap with_positions (sym (pure_mset vs))

pub relation_placed : (vs ws : List Val) → map pure_val ws ≡ map placed_val vs → pure_val (val.Relation ws) ≡ with_positions (pure_val (val.Relation vs))
relation_placed vs ws p =
    pure_relation ws ∙ ap (λ l. node a_relation (of_list l)) p ∙ ap (node a_relation) (listed pure_val vs) ∙ ap with_positions (sym (pure_relation vs))

pub partition_placed : (vs ws : List Val) → map pure_val ws ≡ map placed_val vs → pure_val (val.Partition ws) ≡ with_positions (pure_val (val.Partition vs))
partition_placed vs ws p =
    pure_partition ws ∙ ap (λ l. node a_partition (of_list l)) p ∙ ap (node a_partition) (listed pure_val vs) ∙ ap with_positions (sym (pure_partition vs))

pub matrix_placed : (is vs js ws : List Val) → map pure_val js ≡ map placed_val is → map pure_val ws ≡ map placed_val vs →
    pure_val (val.Matrix js ws) ≡ with_positions (pure_val (val.Matrix is vs))
matrix_placed is vs js ws p q =
    pure_matrix js ws ∙ ap (λ l. matrix (of_list l) (pure_vals ws)) p ∙ ap (λ l. matrix (of_list (map placed_val is)) (of_list l)) q
    ∙ ap (λ l. matrix l (of_list (map placed_val vs))) (listed pure_val is) ∙ ap (matrix (all_with_positions (pure_vals is))) (listed pure_val vs)
    ∙ ap with_positions (sym (pure_matrix is vs))

pub function_placed : (ps qs : List Pair) → map pure_pair qs ≡ map placed_pair ps → pure_val (val.Function qs) ≡ with_positions (pure_val (val.Function ps))
function_placed ps qs p =
    pure_function qs ∙ ap (λ l. node a_function (of_list l)) p ∙ ap (node a_function) (listed pure_pair ps) ∙ ap with_positions (sym (pure_function ps))

-- ---- fields

-- A field with its value's positions.
abbrev field_at : Text × Value → Text × Value
field_at f = (f.0, with_positions f.1)

fields-placed : (fs : Names Value) → record_value (map field_at fs) ≡ with_positions (record_value fs)
fields-placed fs = ap (λ ns. node (a_record ns) (of_list (map (λ f. f.1) (map field_at fs)))) (names fs) ∙ ap (node (a_record (keys fs))) (values fs)
  where
    names : (fs : Names Value) → keys (map field_at fs) ≡ keys fs
    names [] = refl
    names (f ∷ fs) = ap (λ l. f.0 ∷ l) (names fs)

    values : (fs : Names Value) → of_list (map (λ f. f.1) (map field_at fs)) ≡ all_with_positions (of_list (map (λ f. f.1) fs))
    values [] = refl
    values (f ∷ fs) = ap (cons (with_positions f.1)) (values fs)

mapped : (fs : List FieldVal) → map placed_field fs ≡ map field_at (map pure_field_val fs)
mapped [] = refl
mapped (f ∷ fs) = ap (λ l. placed_field f ∷ l) (mapped fs)

pub rec_placed : (fs gs : List FieldVal) → map pure_field_val gs ≡ map placed_field fs → pure_val (val.Rec gs) ≡ with_positions (pure_val (val.Rec fs))
rec_placed fs gs p =
    pure_rec gs ∙ ap record_value (p ∙ mapped fs) ∙ fields-placed (map pure_field_val fs) ∙ ap with_positions (sym (pure_rec fs))

pub field_placed : (f g : FieldVal) (v : Val) → (out-FieldVal g).name ≡ (out-FieldVal f).name → (out-FieldVal g).val ≡ v →
    pure_val v ≡ with_positions (pure_val (out-FieldVal f).val) → pure_field_val g ≡ placed_field f
field_placed f g v n e p =
    pure_field_val_is g ∙ ap (λ x. (x, pure_val (out-FieldVal g).val)) n ∙ ap (λ x. ((out-FieldVal f).name, x)) (ap pure_val e ∙ p)
    ∙ ap field_at (sym (pure_field_val_is f))

pub pair_placed : (p q : Pair) (a b : Val) → (out-Pair q).from ≡ a → (out-Pair q).to ≡ b → pure_val a ≡ with_positions (pure_val (out-Pair p).from) →
    pure_val b ≡ with_positions (pure_val (out-Pair p).to) → pure_pair q ≡ placed_pair p
pair_placed p q a b e f h k =
    pure_pair_is q ∙ ap (λ x. pair x (pure_val (out-Pair q).to)) (ap pure_val e ∙ h)
    ∙ ap (λ x. pair (with_positions (pure_val (out-Pair p).from)) x) (ap pure_val f ∙ k) ∙ ap with_positions (sym (pure_pair_is p))

-- ---- rows

pub vals_more : (vs : List Val) (i : ℕ) (v w : Val) (xs ys : List Val) → i < length vs → v ≡ get_or vs i v → pure_val w ≡ with_positions (pure_val v) →
    ys ≡ xs ++ w ∷ [] → map pure_val xs ≡ map placed_val (take i vs) → map pure_val ys ≡ map placed_val (take (i + 1) vs)
vals_more = made-more pure_val placed_val

pub vals_all : (vs : List Val) (i : ℕ) (xs : List Val) → length vs ≤ i → map pure_val xs ≡ map placed_val (take i vs) → map pure_val xs ≡ map placed_val vs
vals_all = made-all pure_val placed_val

pub fields_more : (fs : List FieldVal) (i : ℕ) (f g : FieldVal) (xs ys : List FieldVal) → i < length fs → f ≡ get_or fs i f →
    pure_field_val g ≡ placed_field f → ys ≡ xs ++ g ∷ [] → map pure_field_val xs ≡ map placed_field (take i fs) →
    map pure_field_val ys ≡ map placed_field (take (i + 1) fs)
fields_more = made-more pure_field_val placed_field

pub fields_all : (fs : List FieldVal) (i : ℕ) (xs : List FieldVal) → length fs ≤ i → map pure_field_val xs ≡ map placed_field (take i fs) →
    map pure_field_val xs ≡ map placed_field fs
fields_all = made-all pure_field_val placed_field

pub pairs_more : (ps : List Pair) (i : ℕ) (p q : Pair) (xs ys : List Pair) → i < length ps → p ≡ get_or ps i p → pure_pair q ≡ placed_pair p →
    ys ≡ xs ++ q ∷ [] → map pure_pair xs ≡ map placed_pair (take i ps) → map pure_pair ys ≡ map placed_pair (take (i + 1) ps)
pairs_more = made-more pure_pair placed_pair

pub pairs_all : (ps : List Pair) (i : ℕ) (xs : List Pair) → length ps ≤ i → map pure_pair xs ≡ map placed_pair (take i ps) →
    map pure_pair xs ≡ map placed_pair ps
pairs_all = made-all pure_pair placed_pair

-- Each variant.
pub ruleset kinds = (
  num_placed,
  truth_placed,
  item_placed,
  tuple_placed,
  rec_placed,
  matrix_placed,
  set_placed,
  mset_placed,
  function_placed,
  relation_placed,
  partition_placed,
)
