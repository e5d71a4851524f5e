use Rattle.std.proofs.Common.{◌≡◌, ◌++◌, map, drop}
use Rattle.ess_core.specs.TreeViews.{pure_pat}
use Rattle.ess_core_nodes.specs.NodeViews.{pure_gen, pure_dom}
use Rattle.ess_rules_generators.specs.GeneratorParts.{items_over}
use Rattle.ess_rules_generators.proofs.domains.each_over.Given as goal

abbrev pub invariant-loop-place : goal.invariant-loop-place
invariant-loop-place l =
    map pure_gen l.gens ++ items_over (map pure_pat (drop l.place l.pats)) (map pure_dom (drop l.place l.doms))
    ≡ items_over (map pure_pat l.pats) (map pure_dom l.doms)
