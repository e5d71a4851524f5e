-- How many items a value has, and when all parts have equally many.
use Rattle.std.proofs.Common.{◌≡◌, refl, sym, ap, ◌∙◌, suc, zero, ℕ, ◌<◌, Bool, true, ◌&&◌, nat_eq, List, [], ◌∷◌, length, map, get_or, arith}
use Rattle.std.specs.List.{list_all}
use Rattle.std.proofs.lemmas.Bool.Decides.{nat_tests}
use Rattle.ess_semantics.specs.Values.{Value, to_list, of_list, items_of}
use Rattle.ess_semantics.specs.Attributes.{part_sizes, all_equal}
use Rattle.ess_core.specs.declared.values.Val.{Val}
use Rattle.ess_core.specs.declared.values.FieldVal.{FieldVal}
use Rattle.ess_core.specs.declared.values.Pair.{Pair}
use Rattle.ess_core.specs.declared.values.Val.TheVariants as variant
use Rattle.ess_core.specs.ValueViews.{pure_val, pure_vals, pure_field_val, pure_pair}
use Rattle.ess_core.proofs.ValueEquations.{pure_tuple, pure_rec, pure_matrix, pure_set, pure_mset, pure_function, pure_relation, pure_partition}

counted : {A : Type 0} (f : A → Value) (xs : List A) → length xs ≡ length (to_list (of_list (map f xs)))
counted f [] = refl
counted f (x ∷ xs) = ap suc (counted f xs)

vals_counted : (vs : List Val) → length vs ≡ length (to_list (pure_vals vs))
vals_counted vs = counted pure_val vs

pairs_counted : (ps : List Pair) → length ps ≡ length (to_list (of_list (map pure_pair ps)))
pairs_counted ps = counted pure_pair ps

fields_counted : (fs : List FieldVal) → length fs ≡ length (to_list (of_list (map (λ f. f.1) (map pure_field_val fs))))
fields_counted [] = refl
fields_counted (f ∷ fs) = ap suc (fields_counted fs)

pub count_tuple : (vs : List Val) → length vs ≡ length (items_of (pure_val (variant.Tuple vs)))
count_tuple vs = vals_counted vs ∙ sym (ap (λ v. length (items_of v)) (pure_tuple vs))

pub count_rec : (vs : List FieldVal) → length vs ≡ length (items_of (pure_val (variant.Rec vs)))
count_rec vs = fields_counted vs ∙ sym (ap (λ v. length (items_of v)) (pure_rec vs))

pub count_set : (vs : List Val) → length vs ≡ length (items_of (pure_val (variant.Set vs)))
count_set vs = vals_counted vs ∙ sym (ap (λ v. length (items_of v)) (pure_set vs))

pub count_mset : (vs : List Val) → length vs ≡ length (items_of (pure_val (variant.MSet vs)))
count_mset vs = vals_counted vs ∙ sym (ap (λ v. length (items_of v)) (pure_mset vs))

pub count_function : (vs : List Pair) → length vs ≡ length (items_of (pure_val (variant.Function vs)))
count_function vs = pairs_counted vs ∙ sym (ap (λ v. length (items_of v)) (pure_function vs))

pub count_relation : (vs : List Val) → length vs ≡ length (items_of (pure_val (variant.Relation vs)))
count_relation vs = vals_counted vs ∙ sym (ap (λ v. length (items_of v)) (pure_relation vs))

pub count_partition : (vs : List Val) → length vs ≡ length (items_of (pure_val (variant.Partition vs)))
count_partition vs = vals_counted vs ∙ sym (ap (λ v. length (items_of v)) (pure_partition vs))

pub count_matrix : (is vs : List Val) → length vs ≡ length (items_of (pure_val (variant.Matrix is vs)))
count_matrix is vs = vals_counted vs ∙ sym (ap (λ v. length (items_of v)) (pure_matrix is vs))

pub regular_none : (ps : List Val) → length ps ≡ 0 → true ≡ all_equal (part_sizes (map pure_val ps))
regular_none [] h = refl
regular_none (p ∷ ps) h = cc

itself-equal : (n : ℕ) → nat_eq n n ≡ true
itself-equal n = grind (arith, nat_tests)

pub regular_some : (ps : List Val) (p d : Val) (n : ℕ) (b : Bool) → 0 < length ps → p ≡ get_or ps 0 d → n ≡ length (items_of (pure_val p))
    → b ≡ list_all (nat_eq n) (part_sizes (map pure_val ps)) → b ≡ all_equal (part_sizes (map pure_val ps))
regular_some [] p d n b h is e q = absurd (omega arith)
regular_some (x ∷ ps) p d n b h is e q =
    let same : n ≡ length (items_of (pure_val x)) = e ∙ ap (λ v. length (items_of (pure_val v))) is in
    q ∙ ap (λ m. list_all (nat_eq m) (part_sizes (map pure_val (x ∷ ps)))) same
    ∙ ap (λ c. c && list_all (nat_eq (length (items_of (pure_val x)))) (part_sizes (map pure_val ps))) (itself-equal (length (items_of (pure_val x))))

pub ruleset counts = (count_tuple, count_rec, count_matrix, count_set, count_mset, count_function, count_relation, count_partition)
