use Rattle.std.proofs.Common.{◌≡◌, map, drop}
use Rattle.ess_semantics.specs.Names.{look}
use Rattle.ess_parse.specs.LettingViews.{pure_letting}
use Rattle.ess_translate_laws.specs.FileAssignments.{value_lettings}
use Rattle.conjure_cli.proofs.members.first_letting.Given as goal

abbrev pub invariant-loop-letting : goal.invariant-loop-letting
invariant-loop-letting l =
    look (value_lettings (map pure_letting l.file)) l.name ≡ look (value_lettings (map pure_letting (drop l.letting-index l.file))) l.name
