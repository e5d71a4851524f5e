-- Expressions whose values differ, as their form tells: different numerals, different truth values, and tuples with such components.
use Rattle.std.specs.Prelude.{Bool, false, ◌||◌, not}
use Rattle.ess_semantics.specs.Order.{same_int}
use Rattle.ess_semantics.specs.Operators.{iff}
use Rattle.ess_semantics.specs.Trees.{tuple_literal, Ex, Exs, number_ex, truth_ex, node_ex, more_exs}

abbrev mutual
  -- Whether two expressions have different values wherever both have one, by their form.
  pub are_apart : Ex → Ex → Bool
  are_apart (number_ex m) (number_ex n) = not (same_int m n)
  are_apart (truth_ex b) (truth_ex c) = not (iff b c)
  are_apart (node_ex false tuple_literal es) (node_ex false tuple_literal fs) = any_apart es fs
  are_apart a b = false

  -- Whether two items at one place are.
  pub any_apart : Exs → Exs → Bool
  any_apart (more_exs e es) (more_exs f fs) = are_apart e f || any_apart es fs
  any_apart es fs = false
