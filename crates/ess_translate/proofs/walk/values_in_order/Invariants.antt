use Rattle.std.proofs.Common.{◌≡◌, ◌++◌, map, drop}
use Rattle.ess_semantics.specs.Assignments.{value_of}
use Rattle.ess_parse.specs.LettingViews.{pure_letting}
use Rattle.ess_domains.specs.Assignments.{pure_assignment, pure_named_value}
use Rattle.ess_translate_laws.specs.FileAssignments.{value_lettings}
use Rattle.ess_translate.proofs.walk.values_in_order.Given as goal

abbrev pub invariant-loop-letting : goal.invariant-loop-letting
invariant-loop-letting l =
    map pure_named_value l.vals
    ++ map (λ b. (b.0, value_of (pure_assignment l.found) b.0)) (value_lettings (map pure_letting (drop l.letting-index l.file)))
    ≡ map (λ b. (b.0, value_of (pure_assignment l.found) b.0)) (value_lettings (map pure_letting l.file))
