-- Lists of items, compared.
use Rattle.std.proofs.Common.{◌≡◌, ℕ, ◌<◌, ◌≤◌, List, length, drop, map, ap, ◌∙◌, Less, is_lt}
use Rattle.ess_semantics.specs.Values.{of_list, items_of}
use Rattle.ess_semantics.specs.Order.{orders, below}
use Rattle.ess_semantics.specs.Operators.{as_list}
use Rattle.ess_core.specs.declared.values.Val.{Val}
use Rattle.ess_core.specs.ValueViews.{pure_val, pure_vals}
use Rattle.ess_values.proofs.Orders.{vals_end}
use Rattle.ess_eval_operators.specs.Items.{spare_items, items_or}
use Rattle.ess_eval_operators.proofs.ItemLists.{listed_items}

-- The order of two lists where the left one has ended.
pub lists_end : (xs ys : List Val) (i : ℕ) → length xs ≤ i → i < length ys → orders (pure_vals (drop i xs)) (pure_vals (drop i ys)) ≡ Less
lists_end xs ys i h k = vals_end xs ys i h k

-- The items of two values are compared as their lists are.
pub lists_below : (v w : Val) (xs ys ss ts : List Val)
    → map pure_val xs ≡ items_or (map pure_val ss) (pure_val v) → map pure_val ss ≡ spare_items (pure_val v)
    → map pure_val ys ≡ items_or (map pure_val ts) (pure_val w) → map pure_val ts ≡ spare_items (pure_val w)
    → is_lt (orders (pure_vals xs) (pure_vals ys)) ≡ below (as_list (pure_val v)) (as_list (pure_val w))
lists_below v w xs ys ss ts p s q t =
    ap (λ l. is_lt (orders (of_list l) (pure_vals ys))) (listed_items v xs ss p s)
    ∙ ap (λ l. is_lt (orders (of_list (items_of (pure_val v))) (of_list l))) (listed_items w ys ts q t)
