-- The pure tables of the slots of a layer.
use Rattle.std.specs.Prelude.{List, map, Option, option_map}
use Rattle.ess_semantics.specs.Tables.{Tables}
use Rattle.ess_core.specs.declared.tables.Table.{Table}
use Rattle.ess_core.specs.TableViews.{pure_table}

-- The pure tables of several tables.
abbrev pub pure_tables : List Table → Tables
pure_tables ts = map pure_table ts

-- The pure tables of the slots, where slots out of use have none.
abbrev pub pure_slots : List (Option (List Table)) → List (Option Tables)
pure_slots ss = map (option_map pure_tables) ss
