-- The ranks of values of different kinds.
use Rattle.std.specs.Prelude.{ℕ, ◌+◌}
use Rattle.ess_semantics.specs.Values.{Value, number, truth, item, node}
use Rattle.ess_semantics.specs.Order.{kind_rank}

-- The rank of the form of a value, and of the kind of a compound one.
abbrev pub form_rank : Value → ℕ
form_rank (number n) = 0
form_rank (truth b) = 1
form_rank (item t k) = 2
form_rank (node k xs) = 3 + kind_rank k
