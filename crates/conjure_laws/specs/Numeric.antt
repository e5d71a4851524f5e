-- Trees of numbers, truth values, operators, and names whose values have no item of a named type: positions change none of them.
use Rattle.std.specs.Prelude.{◌≡◌, Bool, true, List, Some}
use Rattle.ess_semantics.specs.Values.{Text, Value}
use Rattle.ess_semantics.specs.Names.{look}
use Rattle.ess_semantics.specs.Trees.{Ex, Exs, number_ex, truth_ex, name_ex, node_ex, no_exs, more_exs, Stm}
use Rattle.ess_semantics.specs.Positions.{with_positions}
use Rattle.ess_semantics.specs.Assignments.{Assignment, env_of}
use Rattle.ess_semantics.specs.Parameters.{Param}
use Rattle.ess_semantics.specs.Solutions.{InDomains}

abbrev mutual
  -- Numbers, truth values, the names with the property n, and operators alone.
  pub IsMadeOf : (Text → Bool) → Ex → Type 0
  IsMadeOf n (number_ex k) = Unit {0}
  IsMadeOf n (truth_ex b) = Unit {0}
  IsMadeOf n (name_ex a) = n a ≡ true
  IsMadeOf n (node_ex b op es) = AreMadeOf n es
  IsMadeOf n e = ⊥

  -- The same of operands.
  pub AreMadeOf : (Text → Bool) → Exs → Type 0
  AreMadeOf n no_exs = Unit {0}
  AreMadeOf n (more_exs e es) = IsMadeOf n e × AreMadeOf n es

-- The values of these names are the same with positions. So are numbers and truth values.
abbrev pub HaveNoItems : List Stm → (Text → Bool) → Type 0
HaveNoItems S n =
    (p a : Assignment) → Param S p → InDomains S p a → (x : Text) → n x ≡ true → (v : Value) → look (env_of S p a).vals x ≡ Some v →
    with_positions v ≡ v
