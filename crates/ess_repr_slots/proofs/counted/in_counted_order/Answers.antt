use Rattle.std.proofs.Common.{rules, is_lt}
use Rattle.std.proofs.lemmas.List.Sorted.{ranks_by}
use Rattle.std.proofs.lemmas.Fn.{always_returns_same}
use Rattle.ess_semantics.proofs.Orders.{rows_total}
use Rattle.ess_semantics.specs.Cells.{order_rows}
use Rattle.ess_repr_slots.proofs.CountedLoops.{key, sorted-counted}
use Rattle.ess_repr_slots.proofs.counted.in_counted_order.Goals as goal

pub returns : goal.returns
returns c =
    let s = c.in_ok-sort_by.ensures in
    let up = s.sorted (λ a b. is_lt (order_rows (key a) (key b))) (ranks_by rows_total key) (always_returns_same _ _ _ (λ a r f k. search rules)) in
    let st = s.stable (λ a b. is_lt (order_rows (key a) (key b))) (ranks_by rows_total key) (always_returns_same _ _ _ (λ a r f k. search rules)) in
    rw (c.from_vec.ensures, ← c.into_vec-slots.ensures) (sorted-counted _ _ up st)
