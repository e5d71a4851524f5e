-- The form of a value is one for a domain and for the domain with positions.
use Rattle.std.proofs.Common.{◌≡◌, refl, ap, ◌∙◌, Bool, ◌&&◌, List, [], ◌∷◌}
use Rattle.std.specs.List.{list_all}
use Rattle.ess_semantics.specs.Values.{Value, Values, number, truth, item, node, nil, cons, to_list, a_tuple, a_record, a_matrix, a_set, a_mset, a_function, a_relation, a_partition, matrix}
use Rattle.ess_semantics.specs.Domains.{Domain, Domains, booleans, integers, named, tuples, records, matrices, sets, msets, functions, relations, partitions, no_domains, more_domains}
use Rattle.ess_semantics.specs.Positions.{domain_with_positions, domains_with_positions}
use Rattle.ess_translate_positions_laws.specs.Forms.{is_pair_of, is_tuple_of, is_set_of, has_form, have_forms, has_matrix_form}

-- The two tests are one.
abbrev Same : {A : Type 0} → (A → Bool) → (A → Bool) → Type 0
Same f g = (x : _) → f x ≡ g x

all-same : {A : Type 0} (f g : A → Bool) → Same f g → (xs : List A) → list_all f xs ≡ list_all g xs
all-same f g h [] = refl
all-same f g h (x ∷ xs) = ap (λ b. b && list_all f xs) (h x) ∙ ap (λ b. g x && b) (all-same f g h xs)

both-same : (a b c d : Bool) → a ≡ b → c ≡ d → (a && c) ≡ (b && d)
both-same a b c d h k = ap (λ x. x && c) h ∙ ap (λ x. b && x) k

pair-same : (f f' g g' : Value → Bool) → Same f f' → Same g g' → Same (is_pair_of f g) (is_pair_of f' g')
pair-same f f' g g' h k (number n) = refl
pair-same f f' g g' h k (truth b) = refl
pair-same f f' g g' h k (item t n) = refl
pair-same f f' g g' h k (node a_tuple nil) = refl
pair-same f f' g g' h k (node a_tuple (cons a nil)) = refl
pair-same f f' g g' h k (node a_tuple (cons a (cons b nil))) = both-same (f a) (f' a) (g b) (g' b) (h a) (k b)
pair-same f f' g g' h k (node a_tuple (cons a (cons b (cons c cs)))) = refl
pair-same f f' g g' h k (node (a_record fs) vs) = refl
pair-same f f' g g' h k (node a_matrix vs) = refl
pair-same f f' g g' h k (node a_set vs) = refl
pair-same f f' g g' h k (node a_mset vs) = refl
pair-same f f' g g' h k (node a_function vs) = refl
pair-same f f' g g' h k (node a_relation vs) = refl
pair-same f f' g g' h k (node a_partition vs) = refl

tuple-same : (f g : Values → Bool) → Same f g → Same (is_tuple_of f) (is_tuple_of g)
tuple-same f g h (number n) = refl
tuple-same f g h (truth b) = refl
tuple-same f g h (item t n) = refl
tuple-same f g h (node a_tuple vs) = h vs
tuple-same f g h (node (a_record fs) vs) = refl
tuple-same f g h (node a_matrix vs) = refl
tuple-same f g h (node a_set vs) = refl
tuple-same f g h (node a_mset vs) = refl
tuple-same f g h (node a_function vs) = refl
tuple-same f g h (node a_relation vs) = refl
tuple-same f g h (node a_partition vs) = refl

set-same : (f g : Value → Bool) → Same f g → Same (is_set_of f) (is_set_of g)
set-same f g h (number n) = refl
set-same f g h (truth b) = refl
set-same f g h (item t n) = refl
set-same f g h (node a_tuple vs) = refl
set-same f g h (node (a_record fs) vs) = refl
set-same f g h (node a_matrix vs) = refl
set-same f g h (node a_set vs) = all-same f g h (to_list vs)
set-same f g h (node a_mset vs) = refl
set-same f g h (node a_function vs) = refl
set-same f g h (node a_relation vs) = refl
set-same f g h (node a_partition vs) = refl

-- of a matrix, one index further
matrix-same : (i j : Domain) (is js : Domains) (f g : Value → Bool) → Same (has_form i) (has_form j)
    → Same (has_matrix_form is f) (has_matrix_form js g) → Same (has_matrix_form (more_domains i is) f) (has_matrix_form (more_domains j js) g)
matrix-same i j is js f g h k (matrix ix xs) =
    both-same (list_all (has_form i) (to_list ix)) (list_all (has_form j) (to_list ix)) (list_all (has_matrix_form is f) (to_list xs))
    (list_all (has_matrix_form js g) (to_list xs)) (all-same (has_form i) (has_form j) h (to_list ix))
    (all-same (has_matrix_form is f) (has_matrix_form js g) k (to_list xs))
matrix-same i j is js f g h k _ = refl

mutual
  pub form_kept : (d : Domain) (v : Value) → has_form (domain_with_positions d) v ≡ has_form d v
  form_kept booleans v = refl
  form_kept (integers ss) v = refl
  form_kept (named t n) v = refl
  form_kept (tuples ds) (node a_tuple vs) = forms_kept ds vs
  form_kept (tuples ds) _ = refl
  form_kept (records fs ds) (node (a_record gs) vs) = forms_kept ds vs
  form_kept (records fs ds) _ = refl
  form_kept (matrices is d) v = matrix_kept is (has_form (domain_with_positions d)) (has_form d) (form_kept d) v
  form_kept (sets ks d) (node a_set vs) = all-same (has_form (domain_with_positions d)) (has_form d) (form_kept d) (to_list vs)
  form_kept (sets ks d) _ = refl
  form_kept (msets ks d) (node a_mset vs) = all-same (has_form (domain_with_positions d)) (has_form d) (form_kept d) (to_list vs)
  form_kept (msets ks d) _ = refl
  form_kept (functions ks d c) (node a_function vs) =
      all-same (is_pair_of (has_form (domain_with_positions d)) (has_form (domain_with_positions c))) (is_pair_of (has_form d) (has_form c))
      (pair-same (has_form (domain_with_positions d)) (has_form d) (has_form (domain_with_positions c)) (has_form c) (form_kept d) (form_kept c))
      (to_list vs)
  form_kept (functions ks d c) _ = refl
  form_kept (relations ks ds) (node a_relation vs) =
      all-same (is_tuple_of (have_forms (domains_with_positions ds))) (is_tuple_of (have_forms ds))
      (tuple-same (have_forms (domains_with_positions ds)) (have_forms ds) (forms_kept ds)) (to_list vs)
  form_kept (relations ks ds) _ = refl
  form_kept (partitions ks d) (node a_partition vs) =
      all-same (is_set_of (has_form (domain_with_positions d))) (is_set_of (has_form d))
      (set-same (has_form (domain_with_positions d)) (has_form d) (form_kept d)) (to_list vs)
  form_kept (partitions ks d) _ = refl

  forms_kept : (ds : Domains) (vs : Values) → have_forms (domains_with_positions ds) vs ≡ have_forms ds vs
  forms_kept no_domains nil = refl
  forms_kept no_domains (cons v vs) = refl
  forms_kept (more_domains d ds) nil = refl
  forms_kept (more_domains d ds) (cons v vs) =
      both-same (has_form (domain_with_positions d) v) (has_form d v) (have_forms (domains_with_positions ds) vs) (have_forms ds vs)
      (form_kept d v) (forms_kept ds vs)

  matrix_kept : (is : Domains) (f g : Value → Bool) → Same f g → (v : Value) → has_matrix_form (domains_with_positions is) f v ≡ has_matrix_form is g v
  matrix_kept no_domains f g h v = h v
  matrix_kept (more_domains i is) f g h v =
      matrix-same (domain_with_positions i) i (domains_with_positions is) is f g (form_kept i) (matrix_kept is f g h) v
