-- What the lettings before a letting have named.
use Rattle.std.specs.Prelude.{List, [], ◌∷◌, ◌++◌}
use Rattle.ess_semantics.specs.Values.{Text}
use Rattle.ess_semantics.specs.Names.{Names}

-- The names of these lettings, put before others one by one.
abbrev pub names_behind : {A : Type 0} → Names A → List Text → List Text
names_behind [] done = done
names_behind (t ∷ ts) done = names_behind ts (t.0 ∷ done)

-- The names of the values of these types, put before others type by type.
abbrev pub values_behind : Names (List Text) → List Text → List Text
values_behind [] taken = taken
values_behind (t ∷ ts) taken = values_behind ts (t.1 ++ taken)
