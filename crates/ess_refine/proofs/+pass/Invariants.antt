use Rattle.std.proofs.Common.{◌≡◌, ℕ, ◌≤◌, map, get_or, take}
use Rattle.ess_semantics.specs.NamesAt.{names_behind}
use Rattle.ess_core.specs.TreeViews.{gens_of}
use Rattle.ess_core_nodes.specs.declared.nodes.Node.{Node}
use Rattle.ess_core_nodes.specs.declared.nodes.Gen.{Gen}
use Rattle.ess_core_nodes.specs.declared.nodes.NodeDom.{NodeDom}
use Rattle.ess_core_nodes.specs.NodeViews.{pure_nodes, pure_gen, pure_gens, pure_doms}
use Rattle.ess_node_types.specs.TypedNames.{pure_names}
use Rattle.ess_refine.specs.Passes.{AllPass, GensPass, DomsPass}
use Rattle.ess_refine.proofs.+pass.Given as goal

abbrev pub invariant-passing::pass_all-loop-i : goal.invariant-passing::pass_all-loop-i
invariant-passing::pass_all-loop-i l =
    AllPass l.initial.turns (pure_names l.names) (pure_nodes l.initial.nodes) (pure_nodes l.nodes) l.turns
    × ((k : ℕ) (d : Node) → l.i ≤ k → get_or l.nodes k d ≡ get_or l.initial.nodes k d)

abbrev pub invariant-passing_domains::pass_doms-loop-i : goal.invariant-passing_domains::pass_doms-loop-i
invariant-passing_domains::pass_doms-loop-i l =
    DomsPass l.initial.turns (pure_names l.names) (pure_doms l.initial.doms) (pure_doms l.doms) l.turns
    × ((k : ℕ) (d : NodeDom) → l.i ≤ k → get_or l.doms k d ≡ get_or l.initial.doms k d)

abbrev pub invariant-passing_generators::pass_gens-loop-i : goal.invariant-passing_generators::pass_gens-loop-i
invariant-passing_generators::pass_gens-loop-i l =
    GensPass l.initial.turns (pure_names l.names) (pure_gens l.initial.gens) (pure_gens l.gens) l.turns
    × (pure_names l.under ≡ names_behind (gens_of (take l.i (map pure_gen l.gens))) (pure_names l.names))
    × ((k : ℕ) (d : Gen) → l.i ≤ k → get_or l.gens k d ≡ get_or l.initial.gens k d)
