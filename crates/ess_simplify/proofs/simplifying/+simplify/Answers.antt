use Rattle.std.proofs.Common.{◌≡◌, ap, sym, ◌∙◌, map, get_or, arith}
use Rattle.std.proofs.lemmas.List.{get_or-set_other}
use Rattle.ess_core_nodes.specs.NodeViews.{pure_node, pure_gen, pure_dom}
use Rattle.ess_simplify_laws.specs.Simplifying.{simplified, dom_simplified}
use Rattle.ess_simplify.specs.Turns.{item_simplified}
use Rattle.ess_simplify.proofs.Turned.{turn, same-length, none-there}
use Rattle.ess_simplify.proofs.simplifying.+simplify.Goals as goal
use Rattle.ess_simplify.proofs.simplifying.+simplify.Goals.{simplify_all-in-Some, simplify_all-in_default, simplify_doms-in-Some, simplify_doms-in_default, simplify_gens-in-Some, simplify_gens-in_default}

pub simplify_all-loop-i-preserved : goal.simplify_all-loop-i-preserved
simplify_all-loop-i-preserved t c =
    elim c.match-get_mut.branch [
      | simplify_all-in-Some w ↦ (
        turn pure_node simplified c.loop-i.nodes c.match-get_mut.nodes (map pure_node c.args.nodes.now) c.loop-i.i
            w.in-Some.node.now w.replace.new.dest c.loop-i.invariant.0 (sym w.in-Some.ensures.value)
            (ap pure_node w.replace.ensures.after ∙ w.simpler_tree-new.ensures ∙ ap (λ z. simplified (pure_node z)) w.replace-old.ensures.value)
            w.nodes-is,
        λ k d h. ap (λ xs. get_or xs k d) w.nodes-is ∙ get_or-set_other c.loop-i.nodes c.loop-i.i k w.replace.new.dest d (λ e. omega arith)
            ∙ c.loop-i.invariant.1 k d (omega arith),
      )
      | simplify_all-in_default w ↦
          let e = same-length pure_node simplified c.loop-i.nodes c.args.nodes.now c.loop-i.i c.loop-i.invariant.0 in
          absurd (none-there c.loop-i.nodes c.loop-i.i (sym w.in_default.ensures.value) (omega (arith, c.loop-i-test.true, c.len-i-end.ensures, e)))
    ]

pub simplify_doms-loop-i-preserved : goal.simplify_doms-loop-i-preserved
simplify_doms-loop-i-preserved t c =
    elim c.match-get_mut.branch [
      | simplify_doms-in-Some w ↦ (
        turn pure_dom dom_simplified c.loop-i.doms c.match-get_mut.doms (map pure_dom c.args.doms.now) c.loop-i.i
            w.in-Some.dom.now w.simplify_dom.new.dom c.loop-i.invariant.0 (sym w.in-Some.ensures.value) w.simplify_dom.ensures w.doms-is,
        λ k d h. ap (λ xs. get_or xs k d) w.doms-is ∙ get_or-set_other c.loop-i.doms c.loop-i.i k w.simplify_dom.new.dom d (λ e. omega arith)
            ∙ c.loop-i.invariant.1 k d (omega arith),
      )
      | simplify_doms-in_default w ↦
          let e = same-length pure_dom dom_simplified c.loop-i.doms c.args.doms.now c.loop-i.i c.loop-i.invariant.0 in
          absurd (none-there c.loop-i.doms c.loop-i.i (sym w.in_default.ensures.value) (omega (arith, c.loop-i-test.true, c.len-i-end.ensures, e)))
    ]

pub simplify_gens-loop-i-preserved : goal.simplify_gens-loop-i-preserved
simplify_gens-loop-i-preserved t c =
    elim c.match-get_mut.branch [
      | simplify_gens-in-Some w ↦ (
        turn pure_gen item_simplified c.loop-i.gens c.match-get_mut.gens (map pure_gen c.args.gens.now) c.loop-i.i
            w.in-Some.item.now w.simplify_gen.new.item c.loop-i.invariant.0 (sym w.in-Some.ensures.value) w.simplify_gen.ensures w.gens-is,
        λ k d h. ap (λ xs. get_or xs k d) w.gens-is ∙ get_or-set_other c.loop-i.gens c.loop-i.i k w.simplify_gen.new.item d (λ e. omega arith)
            ∙ c.loop-i.invariant.1 k d (omega arith),
      )
      | simplify_gens-in_default w ↦
          let e = same-length pure_gen item_simplified c.loop-i.gens c.args.gens.now c.loop-i.i c.loop-i.invariant.0 in
          absurd (none-there c.loop-i.gens c.loop-i.i (sym w.in_default.ensures.value) (omega (arith, c.loop-i-test.true, c.len-i-end.ensures, e)))
    ]
