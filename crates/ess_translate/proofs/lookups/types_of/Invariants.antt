use Rattle.std.proofs.Common.{◌≡◌, ◌++◌, map, drop}
use Rattle.ess_parse.specs.LettingViews.{pure_letting}
use Rattle.ess_domains.specs.Assignments.{pure_type_names}
use Rattle.ess_translate_laws.specs.FileAssignments.{type_lettings}
use Rattle.ess_translate.proofs.lookups.types_of.Given as goal

abbrev pub invariant-loop-letting : goal.invariant-loop-letting
invariant-loop-letting l =
    map pure_type_names l.types ++ type_lettings (map pure_letting (drop l.letting-index l.file)) ≡ type_lettings (map pure_letting l.file)
