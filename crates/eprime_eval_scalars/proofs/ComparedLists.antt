-- Lists of items, compared.
use Rattle.std.proofs.Common.{◌≡◌, refl, sym, ap, ◌∙◌, ℕ, zero, suc, ◌<◌, ◌≤◌, List, [], ◌∷◌, length, drop, map, Less, Greater, Ordering, is_lt, arith}
use Rattle.std.proofs.lemmas.List.{drop_all}
use Rattle.ess_semantics.specs.Values.{of_list}
use Rattle.ess_semantics.specs.Order.{orders, below}
use Rattle.ess_semantics.specs.Operators.{as_list, list_value}
use Rattle.ess_semantics.proofs.Orders.{to_list-of_list}
use Rattle.eprime_eval_scalars.specs.declared.scalars.Scalar.{Scalar}
use Rattle.eprime_eval_scalars.specs.ScalarViews.{pure_scalar}

nothing_below : (ys : List Scalar) (i : ℕ) → i < length ys → orders (of_list []) (of_list (map pure_scalar (drop i ys))) ≡ Less
nothing_below [] i k = absurd (omega arith)
nothing_below (y ∷ ys) zero k = refl
nothing_below (y ∷ ys) (suc i) k = nothing_below ys i (omega arith)

-- The order of two lists where the left one has ended.
pub lists_end : (xs ys : List Scalar) (i : ℕ) → length xs ≤ i → i < length ys
    → orders (of_list (map pure_scalar (drop i xs))) (of_list (map pure_scalar (drop i ys))) ≡ Less
lists_end xs ys i h k = rw (drop_all i xs h) (nothing_below ys i k)

nothing_above : (xs : List Scalar) (i : ℕ) → i < length xs → Greater ≡ orders (of_list (map pure_scalar (drop i xs))) (of_list [])
nothing_above [] i k = absurd (omega arith)
nothing_above (x ∷ xs) zero k = refl
nothing_above (x ∷ xs) (suc i) k = nothing_above xs i (omega arith)

-- The order of two lists where the right one has ended.
pub lists_over : (xs ys : List Scalar) (i : ℕ) (o : Ordering) → i < length xs → length ys ≤ i
    → o ≡ orders (of_list (map pure_scalar (drop i xs))) (of_list (map pure_scalar (drop i ys))) → Greater ≡ o
lists_over xs ys i o k h e =
    nothing_above xs i k ∙ ap (λ zs. orders (of_list (map pure_scalar (drop i xs))) (of_list (map pure_scalar zs))) (sym (drop_all i ys h)) ∙ sym e

pub ruleset list_ends = (lists_end, lists_over)

-- Lists are compared by their items.
pub as_lists : (xs ys : List Scalar)
    → is_lt (orders (of_list (map pure_scalar xs)) (of_list (map pure_scalar ys)))
    ≡ below (as_list (list_value (map pure_scalar xs))) (as_list (list_value (map pure_scalar ys)))
as_lists xs ys = rw (to_list-of_list (map pure_scalar xs), to_list-of_list (map pure_scalar ys)) refl
