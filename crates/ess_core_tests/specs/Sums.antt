-- Sums among pure expressions.
use Rattle.std.specs.Prelude.{◌≡◌, Bool, true, false}
use Rattle.ess_semantics.specs.declared.words.Op2.{Op2}
use Rattle.ess_semantics.specs.Trees.{Ex, Exs, node_ex, binary, more_exs, no_exs}

-- Whether an expression is a sum of two.
abbrev pub is_sum_ex : Ex → Bool
is_sum_ex (node_ex _ (binary Op2.Plus) _) = true
is_sum_ex _ = false

-- Two operands that are equal.
abbrev pub alike : Exs → Type 0
alike (more_exs a (more_exs b no_exs)) = a ≡ b
alike _ = ⊥

-- That an expression adds something to itself.
abbrev pub is_double_ex : Ex → Type 0
is_double_ex (node_ex _ (binary Op2.Plus) es) = alike es
is_double_ex _ = ⊥
