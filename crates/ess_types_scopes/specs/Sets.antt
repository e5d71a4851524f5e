-- Sets of names, as lists of them.
use Rattle.std.specs.Prelude.{List, ◌∷◌, map, reverse, if◌then◌else◌, String, string_bytes}
use Rattle.ess_semantics.specs.Values.{Text}
use Rattle.ess_semantics.specs.Names.{is_among}
use Rattle.ess_types_scopes.specs.declared.added.Added.{Added}
use Rattle.ess_types_scopes.specs.declared.added.Added.TheVariants.{New, Standing}

-- The bytes of names, the newest first.
abbrev pub newest_names : {A : Type 0} → List (String A) → List Text
newest_names ks = reverse (map string_bytes ks)

-- Whether a name is new.
abbrev pub name_added : List Text → Text → Added
name_added ns a = if is_among ns a then Standing else New

-- The names behind an addition with this answer.
abbrev pub with_name : Added → List Text → Text → List Text
with_name New ns a = a ∷ ns
with_name Standing ns a = ns
