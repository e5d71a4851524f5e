use Rattle.std.proofs.Common.{◌≡◌, map, take}
use Rattle.ess_semantics.specs.Names.{look}
use Rattle.eprime_eval.specs.KnownTables.{named_table, table_at}
use Rattle.eprime_eval.proofs.knowing.places_of.Given as goal

abbrev pub invariant-loop-name : goal.invariant-loop-name
invariant-loop-name l = map (table_at l.tables) l.places ≡ map (look (map named_table l.tables)) (take l.name-index l.names)
