use Rattle.std.proofs.Common.{◌≡◌, ℕ, ◌≤◌, map, get_or}
use Rattle.ess_core_nodes.specs.declared.nodes.Node.{Node}
use Rattle.ess_core_nodes.specs.declared.nodes.Gen.{Gen}
use Rattle.ess_core_nodes.specs.declared.nodes.NodeDom.{NodeDom}
use Rattle.ess_core_nodes.specs.NodeViews.{pure_node, pure_gen, pure_dom}
use Rattle.ess_simplify_laws.specs.Simplifying.{simplified, dom_simplified}
use Rattle.ess_simplify.specs.Turns.{item_simplified, turned}
use Rattle.ess_simplify.proofs.simplifying.+simplify.Given as goal

abbrev pub invariant-simplify_all-loop-i : goal.invariant-simplify_all-loop-i
invariant-simplify_all-loop-i l =
    (map pure_node l.nodes ≡ turned simplified l.i (map pure_node l.initial.nodes))
    × ((k : ℕ) (d : Node) → l.i ≤ k → get_or l.nodes k d ≡ get_or l.initial.nodes k d)

abbrev pub invariant-simplify_gens-loop-i : goal.invariant-simplify_gens-loop-i
invariant-simplify_gens-loop-i l =
    (map pure_gen l.gens ≡ turned item_simplified l.i (map pure_gen l.initial.gens))
    × ((k : ℕ) (d : Gen) → l.i ≤ k → get_or l.gens k d ≡ get_or l.initial.gens k d)

abbrev pub invariant-simplify_doms-loop-i : goal.invariant-simplify_doms-loop-i
invariant-simplify_doms-loop-i l =
    (map pure_dom l.doms ≡ turned dom_simplified l.i (map pure_dom l.initial.doms))
    × ((k : ℕ) (d : NodeDom) → l.i ≤ k → get_or l.doms k d ≡ get_or l.initial.doms k d)
