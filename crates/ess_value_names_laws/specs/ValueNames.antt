-- Envs under which each value of a named type has a name of its own, that a text can spell.
use Rattle.std.specs.Prelude.{ℕ, IsTrue}
use Rattle.ess_semantics.specs.Values.{Text}
use Rattle.ess_semantics.specs.Meaning.{Env}
use Rattle.ess_values_laws.specs.Spellable.{have_name_tokens}
use Rattle.ess_values_laws.specs.Laws.{HasItemNames}
use Rattle.ess_member_literals_laws.specs.ToldDomains.{NamesItems}

-- The types of the env have names of their own, `name_of` names each of their values so that it is read as the value, and types and
-- values have name tokens as names.
pub record HasValueNames (name_of : Text → ℕ → Text) (env : Env) : Type 0 where
  pub plain : HasItemNames env
  pub named : NamesItems name_of env.types
  pub tokens : IsTrue (have_name_tokens env.types)
