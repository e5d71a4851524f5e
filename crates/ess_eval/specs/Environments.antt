-- The env in which a part below generators has its meaning.
use Rattle.std.specs.Prelude.{ℕ, false, List, [], ◌∷◌, ◌++◌}
use Rattle.ess_semantics.specs.Meaning as meaning
use Rattle.ess_core.specs.TableViews.{pure_bindings, pure_type_entries}
use Rattle.ess_core.specs.declared.values.Val.{Val}
use Rattle.ess_core.specs.declared.tables.Binding.{Binding}
use Rattle.ess_core.specs.declared.tables.Env.{Env}

-- A name with its value.
abbrev pub named : List ℕ → Val → Binding
named a v = record { name = a; val = v }

-- The bindings but for the newest, and the name of the newest.
abbrev pub all_but_last : List Binding → List Binding
all_but_last [] = []
all_but_last (b ∷ []) = []
all_but_last (b ∷ c ∷ bs) = b ∷ all_but_last (c ∷ bs)

abbrev pub name_of_last : List Binding → List ℕ
name_of_last [] = []
name_of_last (b ∷ []) = b.name
name_of_last (b ∷ c ∷ bs) = name_of_last (c ∷ bs)

-- The env with the names that generators have bound, the newest last, in front of its own. There are no tables.
abbrev pub env_at : Env → List Binding → meaning.Env
env_at env bound =
    record { positions = false; types = pure_type_entries env.types; vals = pure_bindings bound ++ pure_bindings env.vals; cells = [] }
