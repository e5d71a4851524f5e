use Rattle.std.proofs.Common.{◌≡◌, map, drop}
use Rattle.ess_semantics.specs.Names.{look}
use Rattle.eprime_eval.specs.KnownTables.{named_table}
use Rattle.eprime_eval.proofs.knowing.place_of.Given as goal

abbrev pub invariant-loop-place : goal.invariant-loop-place
invariant-loop-place l = look (map named_table (drop l.place l.tables)) l.name ≡ look (map named_table l.tables) l.name
