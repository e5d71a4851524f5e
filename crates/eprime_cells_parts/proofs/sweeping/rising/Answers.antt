use Rattle.std.proofs.Common.{rules, is_lt}
use Rattle.std.specs.Ordering.{int_cmp}
use Rattle.std.proofs.lemmas.List.Sorted.{ranks_by}
use Rattle.std.proofs.lemmas.Cmp.{int_cmp_total}
use Rattle.std.proofs.lemmas.Fn.{always_returns_same}
use Rattle.eprime_cells_parts.proofs.sweeping.rising.Goals as goal

pub returns-clause-rising : goal.returns-clause-rising
returns-clause-rising c =
    let up = c.in_ok-sort_by.ensures.sorted (λ a b. is_lt (int_cmp a.from b.from)) (ranks_by int_cmp_total (λ e. e.from))
    (always_returns_same _ _ _ (λ a r f k. search rules)) in
    rw c.from_vec.ensures up
