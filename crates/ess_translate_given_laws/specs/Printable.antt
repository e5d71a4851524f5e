-- Tables whose numbers are all in 64 bits.
use Rattle.std.specs.Prelude.{Bool, ◌&&◌}
use Rattle.std.specs.List.{list_all}
use Rattle.ess_semantics.specs.Values.{Text}
use Rattle.ess_semantics.specs.Names.{Names}
use Rattle.ess_semantics.specs.Large.{in_64_bits}
use Rattle.ess_semantics.specs.Tables.{Table}

-- Whether each member of an axis and each item of the table lies in 64 bits.
abbrev pub is_in_64_bits : Text × Table → Bool
is_in_64_bits c = list_all (list_all in_64_bits) c.1.axes && list_all in_64_bits c.1.items

-- The same of several tables.
abbrev pub are_in_64_bits : Names Table → Bool
are_in_64_bits cs = list_all is_in_64_bits cs
