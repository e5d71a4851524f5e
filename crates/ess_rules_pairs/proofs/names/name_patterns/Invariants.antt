use Rattle.std.proofs.Common.{◌≡◌, map, take}
use Rattle.ess_semantics.specs.Trees.{name_pat}
use Rattle.ess_core.specs.TreeViews.{pure_pat}
use Rattle.ess_rules_pairs.proofs.names.name_patterns.Given as goal

abbrev pub invariant-loop-name : goal.invariant-loop-name
invariant-loop-name l = map pure_pat l.all ≡ map name_pat (take l.name-index l.names)
