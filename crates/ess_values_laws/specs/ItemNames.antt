-- The names of values of named types, as texts spell them: an enumerated type lists the names of its values, and the k-th
-- value of an unnamed type T is `T_k`.
use Rattle.std.specs.Prelude.{ℕ, zero, suc, List, [], if◌then◌else◌, Some, None}
use Rattle.ess_semantics.specs.Lists.{is_empty, or_default, item_number}
use Rattle.ess_semantics.specs.Values.{Text}
use Rattle.ess_semantics.specs.Meaning.{TypeEntry, type_entry}
use Rattle.ess_semantics.specs.Assignments.{unnamed_name}

-- The k-th of the names, from 1; none of the others.
abbrev pub name_at : List Text → ℕ → Text
name_at ns zero = []
name_at ns (suc k) = or_default (item_number ns k) []

-- The name of the k-th value of a type.
abbrev pub entry_name : TypeEntry → ℕ → Text
entry_name t k = if is_empty t.names then unnamed_name t.name k else name_at t.names k

-- The name of the k-th value of the type t.
abbrev pub item_name : List TypeEntry → Text → ℕ → Text
item_name ts t k = elim (type_entry ts t) [ Some e ↦ entry_name e k | None ↦ [] ]
