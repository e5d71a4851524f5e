-- What the lookup of a part counts on.
use Rattle.std.specs.Prelude.{◌≡◌, true, not, Some}
use Rattle.ess_semantics.specs.Values.{Value, items_of, itself}
use Rattle.ess_semantics.specs.Collections.{rises, has_overlap}
use Rattle.ess_semantics.specs.Trees.{Ex, node_ex, no_exs, more_exs}
use Rattle.ess_semantics.specs.Meaning.{Env, meaning}

-- The term has a value whose items rise and share no members, as those of partitions do.
pub record IsParted (p : Ex) (env : Env) : Type 0 where
  pub value : Value
  pub is_value : meaning p env ≡ Some value
  pub rising : rises itself (items_of value) ≡ true
  pub apart : not (has_overlap (items_of value)) ≡ true

-- So it is of the last of two operands.
abbrev pub LastParted : Ex → Env → Type 0
LastParted (node_ex b op (more_exs a (more_exs p no_exs))) env = IsParted p env
LastParted e env = Unit {0}
