use Rattle.std.proofs.Common.{rules, is_lt}
use Rattle.std.proofs.lemmas.List.Sorted.{ranks_by}
use Rattle.std.proofs.lemmas.Fn.{always_returns_same}
use Rattle.ess_semantics.proofs.Orders.{order_total}
use Rattle.ess_semantics.specs.Order.{order}
use Rattle.ess_core.specs.ValueViews.{pure_val}
use Rattle.ess_values.proofs.Canonical.{sorted_by-sorted}
use Rattle.ess_values.proofs.sorting.sorted.Goals as goal

pub returns : goal.returns
returns c =
    let s = c.in_ok-sort_by.ensures in
    let up = s.sorted (λ a b. is_lt (order (pure_val a) (pure_val b))) (ranks_by order_total pure_val) (always_returns_same _ _ _ (λ a r f k. search rules)) in
    rw (c.from_vec.ensures, ← c.into_vec-items.ensures) (sorted_by-sorted pure_val _ _ s.permutation up)
