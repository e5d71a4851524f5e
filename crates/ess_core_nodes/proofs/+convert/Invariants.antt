use Rattle.std.proofs.Common.{◌≡◌, ◌++◌, map, take, drop}
use Rattle.ess_core.specs.TreeViews as code
use Rattle.ess_core.specs.TreeViews.{words_of, within, field_values}
use Rattle.ess_core_nodes.specs.NodeViews.{pure_node, pure_gen, pure_dom, pure_step, pure_ends, pure_mark}
use Rattle.ess_core_nodes.proofs.+convert.Given as goal

abbrev pub invariant-converting::nodes_of-loop-ex : goal.invariant-converting::nodes_of-loop-ex
invariant-converting::nodes_of-loop-ex l = map pure_node l.nodes ≡ map code.pure_ex (take l.ex-index l.exs)

abbrev pub invariant-converting_domains::doms_of-loop-dom : goal.invariant-converting_domains::doms_of-loop-dom
invariant-converting_domains::doms_of-loop-dom l = map pure_dom l.converted ≡ map code.pure_dom (take l.dom-index l.doms)

abbrev pub invariant-converting_domains::field_doms-loop-field : goal.invariant-converting_domains::field_doms-loop-field
invariant-converting_domains::field_doms-loop-field l =
    map pure_dom l.doms ≡ field_values (map code.pure_field_dom (take l.field-index l.fields))

abbrev pub invariant-converting_domains::ranges_of-loop-range : goal.invariant-converting_domains::ranges_of-loop-range
invariant-converting_domains::ranges_of-loop-range l = record {
  forms : map pure_ends l.ends ++ words_of (map code.pure_range (drop l.range-index l.ranges)) ≡ words_of (map code.pure_range l.ranges);
  bounds : map pure_node l.bounds ++ within (map code.pure_range (drop l.range-index l.ranges)) ≡ within (map code.pure_range l.ranges);
}

abbrev pub invariant-converting_domains::attrs_of-loop-attr : goal.invariant-converting_domains::attrs_of-loop-attr
invariant-converting_domains::attrs_of-loop-attr l = record {
  marks : map pure_mark l.marks ++ words_of (map code.pure_attr (drop l.attr-index l.attrs)) ≡ words_of (map code.pure_attr l.attrs);
  numbers : map pure_node l.numbers ++ within (map code.pure_attr (drop l.attr-index l.attrs)) ≡ within (map code.pure_attr l.attrs);
}

abbrev pub invariant-converting_generators::gens_of-loop-item : goal.invariant-converting_generators::gens_of-loop-item
invariant-converting_generators::gens_of-loop-item l = map pure_gen l.gens ≡ map code.pure_gen (take l.item-index l.items)

abbrev pub invariant-converting_literals::steps_of-loop-step : goal.invariant-converting_literals::steps_of-loop-step
invariant-converting_literals::steps_of-loop-step l = record {
  path : map pure_step l.path ++ words_of (map code.pure_step (drop l.step-index l.steps)) ≡ words_of (map code.pure_step l.steps);
  values : map pure_node l.values ++ within (map code.pure_step (drop l.step-index l.steps)) ≡ within (map code.pure_step l.steps);
}

abbrev pub invariant-converting_literals::pair_nodes-loop-pair : goal.invariant-converting_literals::pair_nodes-loop-pair
invariant-converting_literals::pair_nodes-loop-pair l = map pure_node l.nodes ≡ map code.pure_pair_ex (take l.pair-index l.pairs)

abbrev pub invariant-converting_literals::field_nodes-loop-field : goal.invariant-converting_literals::field_nodes-loop-field
invariant-converting_literals::field_nodes-loop-field l =
    map pure_node l.nodes ≡ field_values (map code.pure_field_ex (take l.field-index l.fields))
