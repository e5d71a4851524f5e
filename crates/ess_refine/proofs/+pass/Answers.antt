use Rattle.std.proofs.Common.{rules, [], ◌∷◌, refl, sym, ap, ◌∙◌, subst, get_or, arith}
use Rattle.std.proofs.lemmas.List.{get_or-set_other}
use Rattle.std.proofs.lemmas.Result.{on_ok_weaker}
use Rattle.ess_core_nodes.specs.NodeViews.{pure_node, pure_nodes, pure_gen, pure_gens, pure_doms}
use Rattle.ess_semantics.specs.NamesAt.{names_behind}
use Rattle.ess_core.specs.TreeViews.{gens_of}
use Rattle.ess_node_types.specs.TypedNames.{pure_names}
use Rattle.ess_semantics.specs.Contexts.{fill_exs, fill_gens, fill_doms}
use Rattle.ess_semantics.specs.NamesAt.{names_at_exs, names_at_gens, names_at_doms}
use Rattle.ess_refine.specs.Passes.{AllPass, DomsPass, GensPass}
use Rattle.ess_refine.proofs.Chains.{passes-none}
use Rattle.ess_refine.proofs.Rows.{nodes_step, doms_step, gens_step, names_turn, names_end}
use Rattle.ess_refine.proofs.NodeTurns.{turn_passes, none_turn, stays_turn, op_turn, cell_turn, matrix_turn, comp_turn, parts_turn, view_stays, view_turn, boxed_turn}
use Rattle.ess_refine.proofs.DomainTurns.{bounds_turn, tuple_turn, record_turn, axes_turn, set_turn, mset_turn, partition_turn, relation_turn, function_turn, dom_stays, boxed_dom_turn}
use Rattle.ess_refine.proofs.+pass.Goals as goal
use Rattle.ess_refine.proofs.+pass.Goals.{passing::pass_all-in-Some+in_ok-new, passing::pass_all-in_default, passing_domains::pass_doms-in-Some+in_ok-new, passing_domains::pass_doms-in_default, passing_generators::pass_gens-in-Some+in_ok-spare+in_ok-new+in_ok-pass, passing_generators::pass_gens-in_default}

pub passing::pass-returns-in-Some : goal.passing::pass-returns-in-Some
passing::pass-returns-in-Some t c =
    turn_passes c.args.turns.now c.turn_at.new.turns (pure_names c.args.names.now) (pure_node c.args.node) c.in-Ok.found c.in-Some.new
    c.into_inner.result c.in-Ok.ensures c.in-Some.is c.into_inner.ensures

pub passing::pass-returns-in_ok-pass_all-in-Op : goal.passing::pass-returns-in_ok-pass_all-in-Op
passing::pass-returns-in_ok-pass_all-in-Op t c =
    op_turn c.args.turns.now c.turn_at.new.turns c.pass_all.new.turns (pure_names c.args.names.now) c.args.node c.in-Op.mark c.in-Op.op
    c.in-Op.operands c.pass_all.new.nodes
    (none_turn c.args.turns.now c.turn_at.new.turns (pure_names c.args.names.now) (pure_node c.args.node) c.in-Ok.found c.in-Ok.ensures c.in_default.is)
    c.in-Op.is c.in_ok-pass_all-in-Op.ensures

pub passing::pass-returns-in_ok-pass_boxed_dom-in-MatrixOn : goal.passing::pass-returns-in_ok-pass_boxed_dom-in-MatrixOn
passing::pass-returns-in_ok-pass_boxed_dom-in-MatrixOn t c =
    matrix_turn c.args.turns.now c.turn_at.new.turns c.pass_all-in-MatrixOn.new.turns c.pass_boxed_dom.new.turns
    (pure_names c.args.names.now) c.args.node c.in-MatrixOn.items c.pass_all-in-MatrixOn.new.nodes c.in-MatrixOn.axis c.pass_boxed_dom.new.dom
    (none_turn c.args.turns.now c.turn_at.new.turns (pure_names c.args.names.now) (pure_node c.args.node) c.in-Ok.found c.in-Ok.ensures c.in_default.is)
    c.in-MatrixOn.is c.in_ok-pass_all-in-MatrixOn.ensures c.in_ok-pass_boxed_dom-in-MatrixOn.ensures

pub passing::pass-returns-in_ok-pass_boxed-in-Comp : goal.passing::pass-returns-in_ok-pass_boxed-in-Comp
passing::pass-returns-in_ok-pass_boxed-in-Comp t c =
    comp_turn c.args.turns.now c.turn_at.new.turns c.pass_gens.new.turns c.pass_boxed.new.turns
    (pure_names c.args.names.now) (pure_names c.in_ok-behind-in-Comp.behind) c.args.node c.in-Comp.body c.pass_boxed.new.node c.in-Comp.gens
    c.pass_gens.new.gens c.as_slice.result.now
    (none_turn c.args.turns.now c.turn_at.new.turns (pure_names c.args.names.now) (pure_node c.args.node) c.in-Ok.found c.in-Ok.ensures c.in_default.is)
    c.in-Comp.is c.in_ok-pass_gens-in-Comp.ensures c.as_slice.ensures c.in_ok-behind-in-Comp.ensures c.in_ok-pass_boxed-in-Comp.ensures

pub passing::pass-returns-in_ok-pass_all-in-Cell : goal.passing::pass-returns-in_ok-pass_all-in-Cell
passing::pass-returns-in_ok-pass_all-in-Cell t c =
    cell_turn c.args.turns.now c.turn_at.new.turns c.pass_all-in-Cell.new.turns (pure_names c.args.names.now) c.args.node
    c.in-Cell.is_bool c.in-Cell.name c.in-Cell.at c.pass_all-in-Cell.new.nodes
    (none_turn c.args.turns.now c.turn_at.new.turns (pure_names c.args.names.now) (pure_node c.args.node) c.in-Ok.found c.in-Ok.ensures c.in_default.is)
    c.in-Cell.is c.in_ok-pass_all-in-Cell.ensures

pub passing::pass_all-loop-i-init : goal.passing::pass_all-loop-i-init
passing::pass_all-loop-i-init t c = (
  passes-none fill_exs names_at_exs c.args.turns.now c.args.turns.now (pure_names c.args.names.now) (pure_nodes c.args.nodes.now) refl,
  λ k d h. refl,
)

pub passing::pass_all-loop-i-preserved : goal.passing::pass_all-loop-i-preserved
passing::pass_all-loop-i-preserved t c =
    elim c.match-get_mut.branch [
      | passing::pass_all-in-Some+in_ok-new w ↦ (
        nodes_step c.args.turns.now c.loop-i.turns w.pass.new.turns c.match-get_mut.turns
            (pure_names c.args.names.now) c.args.nodes.now c.loop-i.nodes c.match-get_mut.nodes c.loop-i.i w.in-Some.node.now
            w.replace-old.result w.in_ok-new.new w.replace.new.dest c.loop-i.invariant.0 w.in-Some.ensures.value
            w.replace-old.ensures.value w.in_ok-new.ensures w.replace.ensures.after w.nodes-is w.turns-is,
        λ k d h. ap (λ xs. get_or xs k d) w.nodes-is ∙ get_or-set_other c.loop-i.nodes c.loop-i.i k w.replace.new.dest d (λ e. omega arith)
            ∙ c.loop-i.invariant.1 k d (omega arith),
      )
      | passing::pass_all-in_default w ↦ (
        subst (λ z. AllPass c.args.turns.now (pure_names c.args.names.now) (pure_nodes c.args.nodes.now) (pure_nodes z) c.match-get_mut.turns)
            (sym w.nodes-is) (subst (λ z. AllPass c.args.turns.now (pure_names c.args.names.now) (pure_nodes c.args.nodes.now)
            (pure_nodes c.loop-i.nodes) z) (sym w.turns-is) c.loop-i.invariant.0),
        λ k d h. ap (λ xs. get_or xs k d) w.nodes-is ∙ c.loop-i.invariant.1 k d (omega arith),
      )
    ]

pub passing::pass-returns-in-Number : goal.passing::pass-returns-in-Number
passing::pass-returns-in-Number t c =
    stays_turn c.args.turns.now c.turn_at.new.turns (pure_names c.args.names.now) c.args.node _
    (none_turn c.args.turns.now c.turn_at.new.turns (pure_names c.args.names.now) (pure_node c.args.node) c.in-Ok.found c.in-Ok.ensures c.in_default.is) (search rules)

pub passing::pass-returns-in-Truth : goal.passing::pass-returns-in-Truth
passing::pass-returns-in-Truth t c =
    stays_turn c.args.turns.now c.turn_at.new.turns (pure_names c.args.names.now) c.args.node _
    (none_turn c.args.turns.now c.turn_at.new.turns (pure_names c.args.names.now) (pure_node c.args.node) c.in-Ok.found c.in-Ok.ensures c.in_default.is) (search rules)

pub passing::pass-returns-in-Name : goal.passing::pass-returns-in-Name
passing::pass-returns-in-Name t c =
    stays_turn c.args.turns.now c.turn_at.new.turns (pure_names c.args.names.now) c.args.node _
    (none_turn c.args.turns.now c.turn_at.new.turns (pure_names c.args.names.now) (pure_node c.args.node) c.in-Ok.found c.in-Ok.ensures c.in_default.is) (search rules)

pub passing_domains::pass_dom-returns-in_ok-pass_all-in-Int : goal.passing_domains::pass_dom-returns-in_ok-pass_all-in-Int
passing_domains::pass_dom-returns-in_ok-pass_all-in-Int t c =
    bounds_turn c.args.turns.now c.pass_all.new.turns (pure_names c.args.names.now) c.args.dom c.in-Int.ends c.in-Int.bounds
    c.pass_all.new.nodes c.in-Int.is c.in_ok-pass_all-in-Int.ensures

pub passing_domains::pass_dom-returns-in_ok-pass_doms-in-Tuple : goal.passing_domains::pass_dom-returns-in_ok-pass_doms-in-Tuple
passing_domains::pass_dom-returns-in_ok-pass_doms-in-Tuple t c =
    tuple_turn c.args.turns.now c.pass_doms.new.turns (pure_names c.args.names.now) c.args.dom c.in-Tuple.doms
    c.pass_doms.new.doms c.in-Tuple.is c.in_ok-pass_doms-in-Tuple.ensures

pub passing_domains::pass_dom-returns-in_ok-pass_doms-in-Record : goal.passing_domains::pass_dom-returns-in_ok-pass_doms-in-Record
passing_domains::pass_dom-returns-in_ok-pass_doms-in-Record t c =
    record_turn c.args.turns.now c.pass_doms-in-Record.new.turns (pure_names c.args.names.now) c.args.dom c.in-Record.fields
    c.in-Record.doms c.pass_doms-in-Record.new.doms c.in-Record.is c.in_ok-pass_doms-in-Record.ensures

pub passing_domains::pass_dom-returns-in_ok-pass_boxed_dom-in-Matrix : goal.passing_domains::pass_dom-returns-in_ok-pass_boxed_dom-in-Matrix
passing_domains::pass_dom-returns-in_ok-pass_boxed_dom-in-Matrix t c =
    axes_turn c.args.turns.now c.pass_doms-in-Matrix.new.turns c.pass_boxed_dom.new.turns (pure_names c.args.names.now)
    c.args.dom c.in-Matrix.axes c.pass_doms-in-Matrix.new.doms c.in-Matrix.item c.pass_boxed_dom.new.dom c.in-Matrix.is
    c.in_ok-pass_doms-in-Matrix.ensures c.in_ok-pass_boxed_dom-in-Matrix.ensures

pub passing_domains::pass_doms-loop-i-init : goal.passing_domains::pass_doms-loop-i-init
passing_domains::pass_doms-loop-i-init t c = (
  passes-none fill_doms names_at_doms c.args.turns.now c.args.turns.now (pure_names c.args.names.now) (pure_doms c.args.doms.now) refl,
  λ k d h. refl,
)

pub passing_domains::pass_doms-loop-i-preserved : goal.passing_domains::pass_doms-loop-i-preserved
passing_domains::pass_doms-loop-i-preserved t c =
    elim c.match-get_mut.branch [
      | passing_domains::pass_doms-in-Some+in_ok-new w ↦ (
        doms_step c.args.turns.now c.loop-i.turns w.pass_dom.new.turns c.match-get_mut.turns
            (pure_names c.args.names.now) c.args.doms.now c.loop-i.doms c.match-get_mut.doms c.loop-i.i w.in-Some.dom.now
            w.replace-old.result w.in_ok-new.new w.replace.new.dest c.loop-i.invariant.0 w.in-Some.ensures.value
            w.replace-old.ensures.value w.in_ok-new.ensures w.replace.ensures.after w.doms-is w.turns-is,
        λ k d h. ap (λ xs. get_or xs k d) w.doms-is ∙ get_or-set_other c.loop-i.doms c.loop-i.i k w.replace.new.dest d (λ e. omega arith)
            ∙ c.loop-i.invariant.1 k d (omega arith),
      )
      | passing_domains::pass_doms-in_default w ↦ (
        subst (λ z. DomsPass c.args.turns.now (pure_names c.args.names.now) (pure_doms c.args.doms.now) (pure_doms z) c.match-get_mut.turns)
            (sym w.doms-is) (subst (λ z. DomsPass c.args.turns.now (pure_names c.args.names.now) (pure_doms c.args.doms.now)
            (pure_doms c.loop-i.doms) z) (sym w.turns-is) c.loop-i.invariant.0),
        λ k d h. ap (λ xs. get_or xs k d) w.doms-is ∙ c.loop-i.invariant.1 k d (omega arith),
      )
    ]

pub passing_generators::pass_gens-loop-i-init : goal.passing_generators::pass_gens-loop-i-init
passing_generators::pass_gens-loop-i-init t c = (
  passes-none fill_gens names_at_gens c.args.turns.now c.args.turns.now (pure_names c.args.names.now) (pure_gens c.args.gens.now) refl,
  ap pure_names c.in_ok-under.ensures,
  λ k d h. refl,
)

pub passing_domains::pass_dom-returns-in-Bool : goal.passing_domains::pass_dom-returns-in-Bool
passing_domains::pass_dom-returns-in-Bool t c = dom_stays c.args.turns.now (pure_names c.args.names.now) c.args.dom _ (search rules)

pub passing_domains::pass_dom-returns-in-Name : goal.passing_domains::pass_dom-returns-in-Name
passing_domains::pass_dom-returns-in-Name t c = dom_stays c.args.turns.now (pure_names c.args.names.now) c.args.dom _ (search rules)

pub passing_generators::pass_gens-loop-i-preserved : goal.passing_generators::pass_gens-loop-i-preserved
passing_generators::pass_gens-loop-i-preserved t c =
    elim c.match-get_mut.branch [
      | passing_generators::pass_gens-in-Some+in_ok-spare+in_ok-new+in_ok-pass w ↦ (
        gens_step c.args.turns.now c.loop-i.turns w.pass_gen.new.turns c.match-get_mut.turns
            (pure_names c.args.names.now) (pure_names c.loop-i.under) c.args.gens.now c.loop-i.gens c.match-get_mut.gens c.loop-i.i
            w.in-Some.item.now w.replace-old.result w.in_ok-new.new w.replace.new.dest c.loop-i.invariant.0 c.loop-i.invariant.1
            w.in-Some.ensures.value w.replace-old.ensures.value w.in_ok-new.ensures w.replace.ensures.after w.gens-is
            w.turns-is,
        names_turn (pure_names c.args.names.now) (pure_names c.loop-i.under) (pure_names c.match-get_mut.under) c.loop-i.gens
            c.match-get_mut.gens c.loop-i.i w.in-Some.item.now w.replace.new.dest c.loop-i.invariant.1 (sym w.in-Some.ensures.value) w.gens-is
            (ap (λ z. names_behind (gens_of (pure_gen z ∷ [])) (pure_names c.loop-i.under)) w.replace.ensures.after ∙ w.in_ok-pass.ensures
            ∙ ap pure_names (sym w.under-is)),
        λ k d h. ap (λ xs. get_or xs k d) w.gens-is ∙ get_or-set_other c.loop-i.gens c.loop-i.i k w.replace.new.dest d (λ e. omega arith)
            ∙ c.loop-i.invariant.2 k d (omega arith),
      )
      | passing_generators::pass_gens-in_default w ↦ (
        subst (λ z. GensPass c.args.turns.now (pure_names c.args.names.now) (pure_gens c.args.gens.now) (pure_gens z) c.match-get_mut.turns)
            (sym w.gens-is) (subst (λ z. GensPass c.args.turns.now (pure_names c.args.names.now) (pure_gens c.args.gens.now)
            (pure_gens c.loop-i.gens) z) (sym w.turns-is) c.loop-i.invariant.0),
        ap pure_names w.under-is ∙ names_end (pure_names c.args.names.now) (pure_names c.loop-i.under) c.loop-i.gens c.match-get_mut.gens
            c.loop-i.i c.loop-i.invariant.1 w.in_default.ensures.value w.gens-is,
        λ k d h. ap (λ xs. get_or xs k d) w.gens-is ∙ c.loop-i.invariant.2 k d (omega arith),
      )
    ]

pub passing::pass-returns-in_ok-pass_view-in-Seen : goal.passing::pass-returns-in_ok-pass_view-in-Seen
passing::pass-returns-in_ok-pass_view-in-Seen t c =
    view_turn c.args.turns.now c.turn_at.new.turns c.pass_view.new.turns (pure_names c.args.names.now) c.args.node c.in-Seen.seen
    c.get_mut.result.now c.pass_view.new.seen
    (none_turn c.args.turns.now c.turn_at.new.turns (pure_names c.args.names.now) (pure_node c.args.node) c.in-Ok.found c.in-Ok.ensures c.in_default.is)
    c.in-Seen.is c.get_mut.ensures.value c.in_ok-pass_view-in-Seen.ensures

pub passing::pass_boxed-returns : goal.passing::pass_boxed-returns
passing::pass_boxed-returns t c =
    boxed_turn c.args.turns.now c.pass.new.turns (pure_names c.args.names.now) c.args.node.now c.replace-old.result c.in_ok-new.new
    c.replace.new.self c.replace-old.ensures.before c.in_ok-new.ensures c.replace.ensures.after

pub passing::pass_view-returns-then-not-turns : goal.passing::pass_view-returns-then-not-turns
passing::pass_view-returns-then-not-turns t c = view_stays c.args.turns.now (pure_names c.args.names.now) c.args.seen.now

pub passing::pass_view-returns : goal.passing::pass_view-returns
passing::pass_view-returns t c =
    on_ok_weaker c.pass_all.result
    (λ w. parts_turn c.args.turns.now c.pass_boxed_dom.new.turns c.pass_all.new.turns (pure_names c.args.names.now) c.args.seen.now _ _
    c.pass_boxed_dom.new.dom c.pass_all.new.nodes refl refl c.in_ok-pass_boxed_dom.ensures w) c.pass_all.ensures

pub passing_domains::pass_boxed_dom-returns : goal.passing_domains::pass_boxed_dom-returns
passing_domains::pass_boxed_dom-returns t c =
    boxed_dom_turn c.args.turns.now c.pass_dom.new.turns (pure_names c.args.names.now) c.args.dom.now c.replace-old.result c.in_ok-new.new
    c.replace.new.self c.replace-old.ensures.before c.in_ok-new.ensures c.replace.ensures.after

pub passing_domains::pass_compound-returns-then-not-turns : goal.passing_domains::pass_compound-returns-then-not-turns
passing_domains::pass_compound-returns-then-not-turns t c =
    dom_stays c.args.turns.now (pure_names c.args.names.now) c.args.dom c.args.dom refl

pub passing_domains::pass_compound-returns-in_ok-pass_boxed_dom-in-Set : goal.passing_domains::pass_compound-returns-in_ok-pass_boxed_dom-in-Set
passing_domains::pass_compound-returns-in_ok-pass_boxed_dom-in-Set t c =
    set_turn c.args.turns.now c.pass_all.new.turns c.pass_boxed_dom.new.turns (pure_names c.args.names.now) c.args.dom c.in-Set.marks
    c.in-Set.numbers c.pass_all.new.nodes c.in-Set.member c.pass_boxed_dom.new.dom c.in-Set.is c.in_ok-pass_all-in-Set.ensures
    c.in_ok-pass_boxed_dom-in-Set.ensures

pub passing_domains::pass_compound-returns-in_ok-pass_boxed_dom-in-MSet : goal.passing_domains::pass_compound-returns-in_ok-pass_boxed_dom-in-MSet
passing_domains::pass_compound-returns-in_ok-pass_boxed_dom-in-MSet t c =
    mset_turn c.args.turns.now c.pass_all-in-MSet.new.turns c.pass_boxed_dom-in-MSet.new.turns (pure_names c.args.names.now) c.args.dom
    c.in-MSet.marks c.in-MSet.numbers c.pass_all-in-MSet.new.nodes c.in-MSet.member c.pass_boxed_dom-in-MSet.new.dom c.in-MSet.is
    c.in_ok-pass_all-in-MSet.ensures c.in_ok-pass_boxed_dom-in-MSet.ensures

pub passing_domains::pass_compound-returns-in_ok-pass_boxed_dom-in-Function-2 : goal.passing_domains::pass_compound-returns-in_ok-pass_boxed_dom-in-Function-2
passing_domains::pass_compound-returns-in_ok-pass_boxed_dom-in-Function-2 t c =
    function_turn c.args.turns.now c.pass_all-in-Function.new.turns c.pass_boxed_dom-in-Function.new.turns
    c.pass_boxed_dom-in-Function-2.new.turns (pure_names c.args.names.now) c.args.dom c.in-Function.marks c.in-Function.numbers
    c.pass_all-in-Function.new.nodes c.in-Function.from c.pass_boxed_dom-in-Function.new.dom c.in-Function.to
    c.pass_boxed_dom-in-Function-2.new.dom c.in-Function.is c.in_ok-pass_all-in-Function.ensures
    c.in_ok-pass_boxed_dom-in-Function.ensures c.in_ok-pass_boxed_dom-in-Function-2.ensures

pub passing_domains::pass_compound-returns-in_ok-pass_doms-in-Relation : goal.passing_domains::pass_compound-returns-in_ok-pass_doms-in-Relation
passing_domains::pass_compound-returns-in_ok-pass_doms-in-Relation t c =
    relation_turn c.args.turns.now c.pass_all-in-Relation.new.turns c.pass_doms.new.turns (pure_names c.args.names.now)
    c.args.dom c.in-Relation.marks c.in-Relation.numbers c.pass_all-in-Relation.new.nodes c.in-Relation.parts c.pass_doms.new.doms
    c.in-Relation.is c.in_ok-pass_all-in-Relation.ensures c.in_ok-pass_doms-in-Relation.ensures

pub passing_domains::pass_compound-returns-in_ok-pass_boxed_dom-in-Partition : goal.passing_domains::pass_compound-returns-in_ok-pass_boxed_dom-in-Partition
passing_domains::pass_compound-returns-in_ok-pass_boxed_dom-in-Partition t c =
    partition_turn c.args.turns.now c.pass_all-in-Partition.new.turns c.pass_boxed_dom-in-Partition.new.turns (pure_names c.args.names.now)
    c.args.dom c.in-Partition.marks c.in-Partition.numbers c.pass_all-in-Partition.new.nodes c.in-Partition.member
    c.pass_boxed_dom-in-Partition.new.dom c.in-Partition.is c.in_ok-pass_all-in-Partition.ensures
    c.in_ok-pass_boxed_dom-in-Partition.ensures

pub passing_domains::pass_compound-returns-in_default : goal.passing_domains::pass_compound-returns-in_default
passing_domains::pass_compound-returns-in_default t c = dom_stays c.args.turns.now (pure_names c.args.names.now) c.args.dom c.args.dom refl
