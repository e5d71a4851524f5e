-- The pure tables of slots with how often the value of each occurs.
use Rattle.std.specs.Prelude.{List, map, ℤ}
use Rattle.ess_semantics.specs.Tables.{Tables}
use Rattle.ess_repr_tables.specs.SlotViews.{pure_tables}
use Rattle.ess_repr_slots.specs.declared.counted.CountedSlot.{CountedSlot}

-- A slot with its number.
abbrev pub pure_counted : CountedSlot → ℤ × Tables
pure_counted s = (s.times, pure_tables s.tables)
