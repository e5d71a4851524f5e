use Rattle.std.proofs.Common.{rules, is_lt}
use Rattle.std.proofs.lemmas.List.Sorted.{ranks_by}
use Rattle.std.proofs.lemmas.Fn.{always_returns_same, dedup_same}
use Rattle.ess_semantics.proofs.Orders.{order_total}
use Rattle.ess_semantics.specs.Values.{number}
use Rattle.ess_semantics.specs.Order.{order, same}
use Rattle.ess_values.proofs.Canonical.{sorted_by-sorted_once}
use Rattle.ess_eval_domains.proofs.numbers.sorted_once.Goals as goal

pub returns : goal.returns
returns c =
    let s = c.in_ok-sort_by.ensures in
    let up = s.sorted (λ a b. is_lt (order (number a) (number b))) (ranks_by order_total number) (always_returns_same _ _ _ (λ a r f k. search rules)) in
    let kept = dedup_same _ (λ a b. same (number a) (number b)) _ (λ x y b f' x' y' k. search rules) _ _ c.dedup_by.ensures.filtered in
    rw (c.from_vec.ensures, ← c.into_vec-numbers.ensures) (sorted_by-sorted_once number _ _ _ s.permutation up kept)
