-- What the env behind all statements says of each declared name.
use Rattle.std.specs.Prelude.{◌≡◌, ℕ, suc, true, false, List, [], ◌∷◌, map, length, Some, None}
use Rattle.ess_semantics.specs.Lists.{append_all, list_or_none}
use Rattle.ess_semantics.specs.Values.{Text, item}
use Rattle.ess_semantics.specs.Names.{look, is_among}
use Rattle.ess_semantics.specs.NameTokens.{is_name_token}
use Rattle.ess_semantics.specs.Trees.{Stm, given, given_enum, let_enum, let_unnamed, find}
use Rattle.ess_semantics.specs.Contexts.{Each}
use Rattle.ess_semantics.specs.Meaning.{Env, type_entry, meaning}
use Rattle.ess_semantics.specs.Prepared.{prepared}
use Rattle.ess_semantics.specs.Assignments.{Assignment, value_of, size_of, env_of}
use Rattle.ess_semantics.specs.Parameters.{all_declared}
use Rattle.conjure_laws.specs.Premises.{here}

-- The names are those of the values of t, from the k-th on.
abbrev pub AreItems : Env → Text → ℕ → List Text → Type 0
AreItems env t k [] = Unit {0}
AreItems env t k (n ∷ ns) = (look env.vals n ≡ Some (item t k)) × AreItems env t (suc k) ns

-- The env has for what a statement declares what the parameter p, the solution a and the statement say: a given and a find have their
-- values, a type has its entry, the names of its values the values. The size of an unnamed type is that under the parameter.
abbrev pub IsInEnv : List Stm → Assignment → Assignment → Env → Stm → Type 0
IsInEnv S p a env (given x d) = look env.vals x ≡ value_of p x
IsInEnv S p a env (find x d) = look env.vals x ≡ value_of a x
IsInEnv S p a env (given_enum t) =
    type_entry env.types t ≡
    Some (record { name = t; count = length (list_or_none (look p.types t)); names = list_or_none (look p.types t) })
IsInEnv S p a env (let_enum t ns) =
    (type_entry env.types t ≡ Some (record { name = t; count = length ns; names = ns })) × AreItems env t 1 ns
IsInEnv S p a env (let_unnamed t e) =
    type_entry env.types t ≡ Some (record { name = t; count = size_of (meaning e (here S p)); names = [] })
IsInEnv S p a env s = Unit {0}

-- The names to which a statement gives values.
abbrev pub valued_by : Stm → List Text
valued_by (given x d) = x ∷ []
valued_by (find x d) = x ∷ []
valued_by (let_enum t ns) = ns
valued_by s = []

-- The same of several statements.
abbrev pub valued_in : List Stm → List Text
valued_in S = append_all (map valued_by S)

-- Behind all statements the types are those of the parameter, each declared name has what its statement says, and no other declared
-- name has a value, nor has one that isn't declared and that no text can spell.
pub record HasEndValues (S : List Stm) (p a : Assignment) : Type 0 where
  pub types : (env_of S p a).types ≡ (here S p).types
  pub declared : Each (prepared S) (IsInEnv S p a (env_of S p a))
  pub others : (x : Text) → is_among (all_declared S) x ≡ true → is_among (valued_in S) x ≡ false →
      look (env_of S p a).vals x ≡ None
  pub unspelled : (x : Text) → is_among (all_declared S) x ≡ false → is_name_token x ≡ false → look (env_of S p a).vals x ≡ None
