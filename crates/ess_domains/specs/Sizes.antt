-- Unnamed types with their sizes, and the names of their values.
use Rattle.std.specs.Prelude.{ℕ, List, map}
use Rattle.ess_semantics.specs.Lists.{append_all}
use Rattle.ess_semantics.specs.Values.{Text}
use Rattle.ess_semantics.specs.Names.{Names}
use Rattle.ess_semantics.specs.Assignments.{unnamed_names}
use Rattle.ess_domains.specs.declared.unnamed.TypeSize.{TypeSize}

-- The name and the size.
abbrev pub pure_size : TypeSize → Text × ℕ
pure_size s = (s.name, s.count)

-- The names of the values of all these types.
abbrev pub names_of_sizes : Names ℕ → List Text
names_of_sizes us = append_all (map (λ u. unnamed_names u.0 1 u.1) us)
