-- What it is for an expression to say how many items a list has at most.
use Rattle.std.specs.Prelude.{◌≡◌, ◌≤◌, ℕ, length, pos, Some}
use Rattle.ess_semantics.specs.Values.{Value, items_of}
use Rattle.ess_semantics.specs.Trees.{Ex}
use Rattle.ess_semantics.specs.Operators.{whole}
use Rattle.ess_semantics.specs.Meaning.{Env, meaning}
use Rattle.ess_semantics.specs.Meets.{Meets}

-- n has a number as its value, and t has no more items, where it has a value. The tables meet the structures of n.
pub record IsBound (n t : Ex) (env : Env) : Type 0 where
  pub number : ℕ
  pub value : meaning n env ≡ whole (pos number)
  pub enough : (v : Value) → meaning t env ≡ Some v → length (items_of v) ≤ number
  pub met : Meets n env
