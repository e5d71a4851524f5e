-- The order of two lists, where the left one has ended.
use Rattle.std.proofs.Common.{◌≡◌, ℕ, zero, suc, ◌<◌, ◌≤◌, List, [], ◌∷◌, length, drop, map, refl, arith, Less}
use Rattle.std.proofs.lemmas.List.{drop_all}
use Rattle.ess_semantics.specs.Values.{Value, of_list}
use Rattle.ess_semantics.specs.Names.{keys}
use Rattle.ess_semantics.specs.Order.{orders, order_texts}
use Rattle.ess_core.specs.declared.values.Val.{Val}
use Rattle.ess_core.specs.declared.values.FieldVal.{FieldVal}
use Rattle.ess_core.specs.declared.values.Pair.{Pair}
use Rattle.ess_core.specs.ValueViews.{pure_val, pure_vals, pure_field_val, pure_pair}

nothing_below : {A : Type 0} (f : A → Value) (ys : List A) (i : ℕ) → i < length ys → orders (of_list []) (of_list (map f (drop i ys))) ≡ Less
nothing_below f [] i k = absurd (omega arith)
nothing_below f (y ∷ ys) zero k = refl
nothing_below f (y ∷ ys) (suc i) k = nothing_below f ys i (omega arith)

pub vals_end : (xs ys : List Val) (i : ℕ) → length xs ≤ i → i < length ys → orders (pure_vals (drop i xs)) (pure_vals (drop i ys)) ≡ Less
vals_end xs ys i h k = rw (drop_all i xs h) (nothing_below pure_val ys i k)

pub pairs_end : (xs ys : List Pair) (i : ℕ) → length xs ≤ i → i < length ys → orders (of_list (map pure_pair (drop i xs))) (of_list (map pure_pair (drop i ys))) ≡ Less
pairs_end xs ys i h k = rw (drop_all i xs h) (nothing_below pure_pair ys i k)

no_field_below : (ys : List FieldVal) (i : ℕ) → i < length ys → orders (of_list []) (of_list (map (λ f. f.1) (map pure_field_val (drop i ys)))) ≡ Less
no_field_below [] i k = absurd (omega arith)
no_field_below (y ∷ ys) zero k = refl
no_field_below (y ∷ ys) (suc i) k = no_field_below ys i (omega arith)

pub fields_end : (xs ys : List FieldVal) (i : ℕ) → length xs ≤ i → i < length ys → orders (of_list (map (λ f. f.1) (map pure_field_val (drop i xs)))) (of_list (map (λ f. f.1) (map pure_field_val (drop i ys)))) ≡ Less
fields_end xs ys i h k = rw (drop_all i xs h) (no_field_below ys i k)

no_name_below : (ys : List FieldVal) (i : ℕ) → i < length ys → order_texts [] (keys (map pure_field_val (drop i ys))) ≡ Less
no_name_below [] i k = absurd (omega arith)
no_name_below (y ∷ ys) zero k = refl
no_name_below (y ∷ ys) (suc i) k = no_name_below ys i (omega arith)

pub names_end : (xs ys : List FieldVal) (i : ℕ) → length xs ≤ i → i < length ys → order_texts (keys (map pure_field_val (drop i xs))) (keys (map pure_field_val (drop i ys))) ≡ Less
names_end xs ys i h k = rw (drop_all i xs h) (no_name_below ys i k)
