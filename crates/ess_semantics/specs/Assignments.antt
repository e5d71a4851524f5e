-- What a parameter or a solution gives, and the env that it makes at each statement. An unnamed type of size n has n
-- different values; their names are this project's own.
use Rattle.std.specs.Prelude.{ℕ, zero, suc, Bool, List, [], ◌∷◌, ◌++◌, length, Option, Some, None, codes, decimal}
use Rattle.std.specs.List.{list_all}
use Rattle.ess_semantics.specs.Lists.{and_then, or_default, list_or_none}
use Rattle.ess_semantics.specs.Values.{Text, Value, item}
use Rattle.ess_semantics.specs.Order.{same_texts}
use Rattle.ess_semantics.specs.Names.{Names, look, keys, is_among}
use Rattle.ess_semantics.specs.Numbers.{natural}
use Rattle.ess_semantics.specs.Trees.{Stm, given, given_enum, let_enum, let_unnamed, find}
use Rattle.ess_semantics.specs.Meaning.{Env, empty_env, meaning, as_int}
use Rattle.ess_semantics.specs.Prepared.{prepared}

-- The enumerated types with the names of their values, and the values of names. A name without a value is one whose text
-- isn't a value of its type.
pub record Assignment : Type 0 where
  pub types : Names (List Text)
  pub vals : Names (Option Value)

-- Gives no name a value.
abbrev pub nothing_given : Assignment
nothing_given = record { types = []; vals = [] }

-- The value of a name, where it has one.
abbrev pub value_of : Assignment → Text → Option Value
value_of a x = and_then (look a.vals x) (λ o. o)

-- Whether the name is given at all.
abbrev pub gives : Assignment → Text → Bool
gives a x = is_among (keys a.types ++ keys a.vals) x

-- ---- the env at a statement

-- The values of an enumerated type by their names, counted from k.
abbrev pub enum_items : Text → ℕ → List Text → Names Value
enum_items t k [] = []
enum_items t k (n ∷ ns) = (n, item t k) ∷ enum_items t (suc k) ns

-- The env with an enumerated type and the values of its names.
abbrev pub with_enum : Text → List Text → Env → Env
with_enum t ns env =
    record env {
      types = record { name = t; count = length ns; names = ns } ∷ env.types;
      vals = enum_items t 1 ns ++ env.vals;
    }

-- The env with an unnamed type of n values.
abbrev pub with_unnamed : Text → ℕ → Env → Env
with_unnamed t n env = record env { types = record { name = t; count = n; names = [] } ∷ env.types }

-- The values, with one more where it is there.
abbrev pub value_if : Text → Option Value → Names Value → Names Value
value_if x None g = g
value_if x (Some v) g = (x, v) ∷ g

-- The env with a name that has this value, where it has one.
abbrev pub with_name : Text → Option Value → Env → Env
with_name x o env = record env { vals = value_if x o env.vals }

-- The size of an unnamed type. A size below 0, or without a meaning, counts as 0.
abbrev pub size_of : Option Value → ℕ
size_of o = or_default (and_then (as_int o) (λ n. Some (natural n))) 0

-- The env behind a statement, where p is the parameter and a the solution.
abbrev pub env_after : Stm → Assignment → Assignment → Env → Env
env_after (given x d) p a env = with_name x (value_of p x) env
env_after (given_enum t) p a env = with_enum t (list_or_none (look p.types t)) env
env_after (let_enum t ns) p a env = with_enum t ns env
env_after (let_unnamed t e) p a env = with_unnamed t (size_of (meaning e env)) env
env_after (find x d) p a env = with_name x (value_of a x) env
env_after s p a env = env

-- A statement with its number and the env before it.
pub record Placed : Type 0 where
  pub stm : Stm
  pub number : ℕ
  pub env : Env

-- The statements with their numbers, counted from k, and the env before each.
abbrev pub placed_from : ℕ → List Stm → Assignment → Assignment → Env → List Placed
placed_from k [] p a env = []
placed_from k (s ∷ ss) p a env = record { stm = s; number = k; env = env } ∷ placed_from (suc k) ss p a (env_after s p a env)

-- The statements in their places, with lettings put in and resolved.
abbrev pub placed : List Stm → Assignment → Assignment → List Placed
placed S p a = placed_from 1 (prepared S) p a empty_env

-- f of each statement in its place.
abbrev pub each_placed : List Placed → (Stm → Env → Bool) → Bool
each_placed ls f = list_all (λ l. f l.stm l.env) ls

-- The env behind all statements.
abbrev pub env_behind : List Stm → Assignment → Assignment → Env → Env
env_behind [] p a env = env
env_behind (s ∷ ss) p a env = env_behind ss p a (env_after s p a env)

-- The env behind all statements of the specification.
abbrev pub env_of : List Stm → Assignment → Assignment → Env
env_of S p a = env_behind (prepared S) p a empty_env

-- ---- the names of the values of unnamed types

-- The unnamed type of a statement, with its size.
abbrev pub unnamed_size_at : Stm → Env → Names ℕ
unnamed_size_at (let_unnamed t e) env = (t, size_of (meaning e env)) ∷ []
unnamed_size_at s env = []

-- The sizes of the unnamed types.
abbrev pub unnamed_sizes : List Placed → Names ℕ
unnamed_sizes [] = []
unnamed_sizes (l ∷ ls) = unnamed_size_at l.stm l.env ++ unnamed_sizes ls

-- The k-th value of the type T is named `T_k`.
abbrev pub unnamed_name : Text → ℕ → Text
unnamed_name t k = t ++ codes "_" ++ decimal k

-- The names of n values of an unnamed type, from the k-th on.
abbrev pub unnamed_names : Text → ℕ → ℕ → List Text
unnamed_names t k zero = []
unnamed_names t k (suc n) = unnamed_name t k ∷ unnamed_names t (suc k) n

-- Exactly the names of all values of the type, in order.
abbrev pub are_unnamed_names : Text → ℕ → List Text → Bool
are_unnamed_names t n ns = same_texts ns (unnamed_names t 1 n)
