-- The items of one matrix, and of matrices over an index domain that can't be listed.
use Rattle.std.proofs.Common.{◌≡◌, refl, sym, ap, ◌∙◌, ℕ, suc, ◌<◌, ◌≢◌, Bool, true, false, ◌&&◌, List, [], ◌∷◌, map, length, Option, Some, None, option_map, nat_eq, arith}
use Rattle.std.proofs.lemmas.Bool.Decides.{nat_tests}
use Rattle.ess_semantics.specs.Lists.{and_then, when, all_some, append_all}
use Rattle.ess_semantics.specs.Values.{Value, matrix, to_list, of_list}
use Rattle.ess_semantics.specs.Membership.{same_list}
use Rattle.ess_semantics.proofs.Orders.{to_list-of_list}
use Rattle.ess_core.specs.declared.values.Val.{Val}
use Rattle.ess_core.specs.declared.values.Val.TheVariants as variant
use Rattle.ess_core.specs.ValueViews.{pure_val, pure_vals}
use Rattle.ess_core.proofs.ValueEquations.{pure_matrix}
use Rattle.ess_domains_members.specs.Leaves.{matrix_items, all_items}

pub no_index_empty : (o : Option (List Value)) (vs : List Val) → length vs ≡ 0 → Some [] ≡ all_items o (map pure_val vs)
no_index_empty o [] h = refl
no_index_empty o (v ∷ vs) h = cc

missing : (v : Value) → matrix_items None v ≡ None
missing (matrix ix xs) = refl
missing _ = refl

pub no_index_some : (o : Option (List Value)) (vs : List Val) → None ≡ o → 0 < length vs → None ≡ all_items o (map pure_val vs)
no_index_some o [] e h = absurd (omega arith)
no_index_some o (v ∷ vs) e h =
    sym (ap (λ p. all_items p (pure_val v ∷ map pure_val vs)) (sym e)
    ∙ ap (λ p. option_map append_all (and_then p (λ x. option_map (λ xs. x ∷ xs) (all_some (map (matrix_items None) (map pure_val vs)))))) (missing (pure_val v)))

tested : (ks is xs : List Val) → matrix_items (Some (map pure_val ks)) (pure_val (variant.Matrix is xs))
    ≡ when (same_list (map pure_val ks) (map pure_val is) && nat_eq (length (map pure_val is)) (length (map pure_val xs))) (map pure_val xs)
tested ks is xs =
    ap (matrix_items (Some (map pure_val ks))) (pure_matrix is xs)
    ∙ ap (λ l. when (same_list (map pure_val ks) l && nat_eq (length l) (length (to_list (pure_vals xs)))) (to_list (pure_vals xs))) (to_list-of_list (map pure_val is))
    ∙ ap (λ l. when (same_list (map pure_val ks) (map pure_val is) && nat_eq (length (map pure_val is)) (length l)) l) (to_list-of_list (map pure_val xs))

long : (xs : List Val) → length (map pure_val xs) ≡ length xs
long [] = refl
long (x ∷ xs) = ap suc (long xs)

test-so : (n m : ℕ) → n ≡ m → nat_eq n m ≡ true
test-so n m e = grind (arith, nat_tests)

test-not : (n m : ℕ) → n ≢ m → nat_eq n m ≡ false
test-not n m e = grind (arith, nat_tests)

pub matrix_there : (ks is xs : List Val) → same_list (map pure_val ks) (map pure_val is) ≡ true → length is ≡ length xs
    → Some (map pure_val xs) ≡ matrix_items (Some (map pure_val ks)) (pure_val (variant.Matrix is xs))
matrix_there ks is xs s e =
    sym (tested ks is xs ∙ ap (λ b. when (b && nat_eq (length (map pure_val is)) (length (map pure_val xs))) (map pure_val xs)) s
    ∙ ap (λ b. when b (map pure_val xs)) (test-so (length (map pure_val is)) (length (map pure_val xs)) (long is ∙ e ∙ sym (long xs))))

pub matrix_other : (ks is xs : List Val) → same_list (map pure_val ks) (map pure_val is) ≡ false
    → None ≡ matrix_items (Some (map pure_val ks)) (pure_val (variant.Matrix is xs))
matrix_other ks is xs s =
    sym (tested ks is xs ∙ ap (λ b. when (b && nat_eq (length (map pure_val is)) (length (map pure_val xs))) (map pure_val xs)) s)

pub matrix_short : (ks is xs : List Val) → same_list (map pure_val ks) (map pure_val is) ≡ true → length is ≢ length xs
    → None ≡ matrix_items (Some (map pure_val ks)) (pure_val (variant.Matrix is xs))
matrix_short ks is xs s e =
    sym (tested ks is xs ∙ ap (λ b. when (b && nat_eq (length (map pure_val is)) (length (map pure_val xs))) (map pure_val xs)) s
    ∙ ap (λ b. when b (map pure_val xs)) (test-not (length (map pure_val is)) (length (map pure_val xs)) (λ f. e (sym (long is) ∙ f ∙ long xs))))
