-- Types put back part by part are those that `with_types` puts back, where a value is of the domain's form.
use Rattle.std.proofs.Common.{◌≡◌, refl, ap, ◌∙◌, Bool, true, false, List, ◌∷◌, Option, Some, None, option_map}
use Rattle.std.specs.List.{list_all}
use Rattle.ess_semantics.specs.Lists.{and_then, each_of}
use Rattle.ess_semantics.specs.Values.{Kind, Value, Values, number, truth, item, node, nil, cons, to_list, of_list, a_tuple, a_record, a_matrix, a_set, a_mset, a_function, a_relation, a_partition, pair, matrix}
use Rattle.ess_semantics.specs.Domains.{Domain, Domains, booleans, integers, named, tuples, records, matrices, sets, msets, functions, relations, partitions, no_domains, more_domains}
use Rattle.ess_semantics.specs.Positions.{each_value, each_part, with_parts, both_parts, with_types, all_with_types, matrix_with_types}
use Rattle.ess_translate_positions_laws.specs.Forms.{is_pair_of, is_tuple_of, is_set_of, has_form, have_forms, has_matrix_form}
use Rattle.ess_translate_positions_laws.proofs.ListedForms.{first-of, second-of}
use Rattle.ess_repr_positions_laws.specs.TypedParts.{made_of, matrix_of, typed_pair, typed_tuple, typed_set, typed, typed_each, typed_matrix}

-- Where the test holds, the two answers are one.
abbrev SameWhere : (Value → Bool) → (Value → Option Value) → (Value → Option Value) → Type 0
SameWhere t f g = (v : Value) → t v ≡ true → f v ≡ g v

-- The list as parts, where it is there.
abbrev as_parts : Option (List Value) → Option Values
as_parts o = option_map of_list o

made-parts : (k : Kind) (o : Option (List Value)) → made_of k o ≡ option_map (node k) (as_parts o)
made-parts k None = refl
made-parts k (Some vs) = refl

-- one more in front
more-parts : (o : Option Value) (p : Option (List Value)) →
    as_parts (and_then o (λ w. option_map (λ ws. w ∷ ws) p)) ≡ and_then o (λ w. option_map (cons w) (as_parts p))
more-parts None p = refl
more-parts (Some w) None = refl
more-parts (Some w) (Some ws) = refl

both-answers : {A B C : Type 0} (o o' : Option A) (p p' : Option B) (c : A → B → C) → o ≡ o' → p ≡ p' →
    and_then o (λ w. option_map (c w) p) ≡ and_then o' (λ w. option_map (c w) p')
both-answers o o' p p' c e f = ap (λ q. and_then q (λ w. option_map (c w) p)) e ∙ ap (λ q. and_then o' (λ w. option_map (c w) q)) f

-- each value of a list
each-typed : (t : Value → Bool) (f g : Value → Option Value) → SameWhere t f g → (vs : Values) → list_all t (to_list vs) ≡ true →
    as_parts (each_of (to_list vs) f) ≡ each_value g vs
each-typed t f g h nil e = refl
each-typed t f g h (cons v vs) e =
    more-parts (f v) (each_of (to_list vs) f)
    ∙ both-answers (f v) (g v) (as_parts (each_of (to_list vs) f)) (each_value g vs) cons (h v (first-of (t v) (list_all t (to_list vs)) e))
    (each-typed t f g h vs (second-of (t v) (list_all t (to_list vs)) e))

made-each : (k : Kind) (t : Value → Bool) (f g : Value → Option Value) → SameWhere t f g → (vs : Values) → list_all t (to_list vs) ≡ true →
    made_of k (each_of (to_list vs) f) ≡ each_part g (node k vs)
made-each k t f g h vs e = made-parts k (each_of (to_list vs) f) ∙ ap (option_map (node k)) (each-typed t f g h vs e)

pairs-typed : (s t : Value → Bool) (f f' g g' : Value → Option Value) → SameWhere s f f' → SameWhere t g g' →
    SameWhere (is_pair_of s t) (typed_pair f g) (both_parts f' g')
pairs-typed s t f f' g g' h k (number n) e = refl
pairs-typed s t f f' g g' h k (truth b) e = refl
pairs-typed s t f f' g g' h k (item a n) e = refl
pairs-typed s t f f' g g' h k (node a_tuple nil) e = refl
pairs-typed s t f f' g g' h k (node a_tuple (cons a nil)) e = refl
pairs-typed s t f f' g g' h k (node a_tuple (cons a (cons b nil))) e =
    both-answers (f a) (f' a) (g b) (g' b) (λ x y. pair x y) (h a (first-of (s a) (t b) e)) (k b (second-of (s a) (t b) e))
pairs-typed s t f f' g g' h k (node a_tuple (cons a (cons b (cons c cs)))) e = refl
pairs-typed s t f f' g g' h k (node (a_record fs) vs) e = refl
pairs-typed s t f f' g g' h k (node a_matrix vs) e = refl
pairs-typed s t f f' g g' h k (node a_set vs) e = refl
pairs-typed s t f f' g g' h k (node a_mset vs) e = refl
pairs-typed s t f f' g g' h k (node a_function vs) e = refl
pairs-typed s t f f' g g' h k (node a_relation vs) e = refl
pairs-typed s t f f' g g' h k (node a_partition vs) e = refl

tuples-typed : (t : Values → Bool) (f : List Value → Option (List Value)) (g : Values → Option Values) →
    ((vs : Values) → t vs ≡ true → as_parts (f (to_list vs)) ≡ g vs) → SameWhere (is_tuple_of t) (typed_tuple f) (with_parts g)
tuples-typed t f g h (number n) e = let c : false ≡ true = e in cc
tuples-typed t f g h (truth b) e = let c : false ≡ true = e in cc
tuples-typed t f g h (item a n) e = let c : false ≡ true = e in cc
tuples-typed t f g h (node a_tuple vs) e = made-parts a_tuple (f (to_list vs)) ∙ ap (option_map (node a_tuple)) (h vs e)
tuples-typed t f g h (node (a_record fs) vs) e = let c : false ≡ true = e in cc
tuples-typed t f g h (node a_matrix vs) e = let c : false ≡ true = e in cc
tuples-typed t f g h (node a_set vs) e = let c : false ≡ true = e in cc
tuples-typed t f g h (node a_mset vs) e = let c : false ≡ true = e in cc
tuples-typed t f g h (node a_function vs) e = let c : false ≡ true = e in cc
tuples-typed t f g h (node a_relation vs) e = let c : false ≡ true = e in cc
tuples-typed t f g h (node a_partition vs) e = let c : false ≡ true = e in cc

sets-typed : (t : Value → Bool) (f g : Value → Option Value) → SameWhere t f g →
    SameWhere (is_set_of t) (typed_set (λ xs. each_of xs f)) (each_part g)
sets-typed t f g h (number n) e = let c : false ≡ true = e in cc
sets-typed t f g h (truth b) e = let c : false ≡ true = e in cc
sets-typed t f g h (item a n) e = let c : false ≡ true = e in cc
sets-typed t f g h (node a_tuple vs) e = let c : false ≡ true = e in cc
sets-typed t f g h (node (a_record fs) vs) e = let c : false ≡ true = e in cc
sets-typed t f g h (node a_matrix vs) e = let c : false ≡ true = e in cc
sets-typed t f g h (node a_set vs) e = made-each a_set t f g h vs e
sets-typed t f g h (node a_mset vs) e = let c : false ≡ true = e in cc
sets-typed t f g h (node a_function vs) e = let c : false ≡ true = e in cc
sets-typed t f g h (node a_relation vs) e = let c : false ≡ true = e in cc
sets-typed t f g h (node a_partition vs) e = let c : false ≡ true = e in cc

-- a matrix of these indices and items
made-matrix : (o p : Option (List Value)) → matrix_of o p ≡ and_then (as_parts o) (λ jx. option_map (λ ys. matrix jx ys) (as_parts p))
made-matrix None p = refl
made-matrix (Some is) None = refl
made-matrix (Some is) (Some xs) = refl

-- a matrix, one index further
matrix-typed : (i : Domain) (is : Domains) (t : Value → Bool) (f g : Value → Option Value) → SameWhere (has_form i) (typed i) (with_types i) →
    SameWhere (has_matrix_form is t) (typed_matrix is f) (matrix_with_types is g) →
    SameWhere (has_matrix_form (more_domains i is) t) (typed_matrix (more_domains i is) f) (matrix_with_types (more_domains i is) g)
matrix-typed i is t f g h k (matrix ix xs) e =
    made-matrix (each_of (to_list ix) (typed i)) (each_of (to_list xs) (typed_matrix is f))
    ∙ both-answers (as_parts (each_of (to_list ix) (typed i))) (each_value (with_types i) ix)
    (as_parts (each_of (to_list xs) (typed_matrix is f))) (each_value (matrix_with_types is g) xs) (λ jx ys. matrix jx ys)
    (each-typed (has_form i) (typed i) (with_types i) h ix (first-of (list_all (has_form i) (to_list ix)) (list_all (has_matrix_form is t) (to_list xs)) e))
    (each-typed (has_matrix_form is t) (typed_matrix is f) (matrix_with_types is g) k xs
    (second-of (list_all (has_form i) (to_list ix)) (list_all (has_matrix_form is t) (to_list xs)) e))
matrix-typed i is t f g h k _ e = refl

none-so : {A : Type 0} {x y : A} → false ≡ true → x ≡ y
none-so h = cc

mutual
  pub typed_so : (d : Domain) (v : Value) → has_form d v ≡ true → typed d v ≡ with_types d v
  typed_so booleans v e = refl
  typed_so (integers ss) v e = refl
  typed_so (named t n) (number k) e = refl
  typed_so (named t n) _ e = refl
  typed_so (tuples ds) (node a_tuple vs) e = made-parts a_tuple (typed_each ds (to_list vs)) ∙ ap (option_map (node a_tuple)) (each_typed_so ds vs e)
  typed_so (tuples ds) _ e = none-so e
  typed_so (records fs ds) (node (a_record gs) vs) e =
      made-parts (a_record gs) (typed_each ds (to_list vs)) ∙ ap (option_map (node (a_record gs))) (each_typed_so ds vs e)
  typed_so (records fs ds) _ e = none-so e
  typed_so (matrices is d) v e = matrix_typed_so is (has_form d) (typed d) (with_types d) (typed_so d) v e
  typed_so (sets ks d) (node a_set vs) e = made-each a_set (has_form d) (typed d) (with_types d) (typed_so d) vs e
  typed_so (sets ks d) _ e = none-so e
  typed_so (msets ks d) (node a_mset vs) e = made-each a_mset (has_form d) (typed d) (with_types d) (typed_so d) vs e
  typed_so (msets ks d) _ e = none-so e
  typed_so (functions ks d c) (node a_function vs) e =
      made-each a_function (is_pair_of (has_form d) (has_form c)) (typed_pair (typed d) (typed c)) (both_parts (with_types d) (with_types c))
      (pairs-typed (has_form d) (has_form c) (typed d) (with_types d) (typed c) (with_types c) (typed_so d) (typed_so c)) vs e
  typed_so (functions ks d c) _ e = none-so e
  typed_so (relations ks ds) (node a_relation vs) e =
      made-each a_relation (is_tuple_of (have_forms ds)) (typed_tuple (typed_each ds)) (with_parts (all_with_types ds))
      (tuples-typed (have_forms ds) (typed_each ds) (all_with_types ds) (each_typed_so ds)) vs e
  typed_so (relations ks ds) _ e = none-so e
  typed_so (partitions ks d) (node a_partition vs) e =
      made-each a_partition (is_set_of (has_form d)) (typed_set (λ xs. each_of xs (typed d))) (each_part (with_types d))
      (sets-typed (has_form d) (typed d) (with_types d) (typed_so d)) vs e
  typed_so (partitions ks d) _ e = none-so e

  each_typed_so : (ds : Domains) (vs : Values) → have_forms ds vs ≡ true → as_parts (typed_each ds (to_list vs)) ≡ all_with_types ds vs
  each_typed_so no_domains nil e = refl
  each_typed_so no_domains (cons v vs) e = refl
  each_typed_so (more_domains d ds) nil e = refl
  each_typed_so (more_domains d ds) (cons v vs) e =
      more-parts (typed d v) (typed_each ds (to_list vs))
      ∙ both-answers (typed d v) (with_types d v) (as_parts (typed_each ds (to_list vs))) (all_with_types ds vs) cons
      (typed_so d v (first-of (has_form d v) (have_forms ds vs) e)) (each_typed_so ds vs (second-of (has_form d v) (have_forms ds vs) e))

  matrix_typed_so : (is : Domains) (t : Value → Bool) (f g : Value → Option Value) → SameWhere t f g →
      SameWhere (has_matrix_form is t) (typed_matrix is f) (matrix_with_types is g)
  matrix_typed_so no_domains t f g h v e = h v e
  matrix_typed_so (more_domains i is) t f g h v e = matrix-typed i is t f g (typed_so i) (matrix_typed_so is t f g h) v e
