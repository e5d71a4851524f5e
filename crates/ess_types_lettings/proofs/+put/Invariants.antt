use Rattle.std.proofs.Common.{◌≡◌, ◌++◌, true, List, map, take, drop, option_map}
use Rattle.ess_semantics.specs.Lists.{all_some}
use Rattle.ess_semantics.specs.Trees.{Step}
use Rattle.ess_semantics.specs.Typing.{types_of, types_under}
use Rattle.ess_semantics.specs.Lettings.{put_ex, put_dom}
use Rattle.ess_core.specs.TypeViews.{pure_ty}
use Rattle.ess_core.specs.TreeViews.{With, words_of, within, exs_of, gens_of, field_values, pure_ex, pure_pair_ex, pure_field_ex, pure_step, pure_gen, pure_dom, pure_field_dom, pure_range, pure_attr}
use Rattle.ess_types_names.specs.Tables.{pure_table, Extends}
use Rattle.ess_types_names.specs.Generators.{under}
use Rattle.ess_types_scopes.specs.Kept.{pure_lettings}
use Rattle.ess_types_lettings.specs.Paths.{path_behind}
use Rattle.ess_types_lettings.specs.Putting.{put_field, put_field_dom, put_with, put_items, names_behind, put_values, exs_before}
use Rattle.ess_types_lettings.proofs.+put.Given as goal

abbrev pub invariant-rows::each_ex-loop-ex : goal.invariant-rows::each_ex-loop-ex
invariant-rows::each_ex-loop-ex l = record {
  kept : l.table ≡ l.initial.table;
  puts : map pure_ex l.puts ≡ map (λ e. put_ex (pure_ex e) (pure_lettings l.lettings) (pure_table l.initial.table)) (take l.ex-index l.exs);
  types : l.asked ≡ true → option_map (map pure_ty) l.tys ≡ all_some (types_of (exs_of (map pure_ex l.puts)) (pure_table l.initial.table));
}

abbrev pub invariant-rows::each_pair-loop-pair : goal.invariant-rows::each_pair-loop-pair
invariant-rows::each_pair-loop-pair l = record {
  kept : l.table ≡ l.initial.table;
  puts : map pure_pair_ex l.puts
      ≡ map (λ p. put_ex (pure_pair_ex p) (pure_lettings l.lettings) (pure_table l.initial.table)) (take l.pair-index l.pairs);
  types : l.asked ≡ true
      → option_map (map pure_ty) l.tys ≡ all_some (types_of (exs_of (map pure_pair_ex l.puts)) (pure_table l.initial.table));
}

abbrev pub invariant-rows::each_field-loop-field : goal.invariant-rows::each_field-loop-field
invariant-rows::each_field-loop-field l = record {
  kept : l.table ≡ l.initial.table;
  puts : map pure_field_ex l.puts
      ≡ map (λ f. put_field (pure_field_ex f) (pure_lettings l.lettings) (pure_table l.initial.table)) (take l.field-index l.fields);
  types : l.asked ≡ true
      → option_map (map pure_ty) l.tys
      ≡ all_some (types_of (exs_of (field_values (map pure_field_ex l.puts))) (pure_table l.initial.table));
}

abbrev pub invariant-domain_rows::each_dom-loop-dom : goal.invariant-domain_rows::each_dom-loop-dom
invariant-domain_rows::each_dom-loop-dom l = record {
  kept : l.table ≡ l.initial.table;
  puts : map pure_dom l.puts
      ≡ map (λ d. put_dom (pure_dom d) (pure_lettings l.lettings) (pure_table l.initial.table)) (take l.dom-index l.doms);
}

abbrev pub invariant-domain_rows::each_field_dom-loop-field : goal.invariant-domain_rows::each_field_dom-loop-field
invariant-domain_rows::each_field_dom-loop-field l = record {
  kept : l.table ≡ l.initial.table;
  puts : map pure_field_dom l.puts
      ≡ map (λ f. put_field_dom (pure_field_dom f) (pure_lettings l.lettings) (pure_table l.initial.table)) (take l.field-index l.fields);
}

abbrev pub invariant-ranges::each_range-loop-range : goal.invariant-ranges::each_range-loop-range
invariant-ranges::each_range-loop-range l = record {
  kept : l.table ≡ l.initial.table;
  puts : map pure_range l.puts
      ≡ map (λ x. put_with (pure_range x) (pure_lettings l.lettings) (pure_table l.initial.table)) (take l.range-index l.ranges);
}

abbrev pub invariant-attributes::each_attr-loop-attr : goal.invariant-attributes::each_attr-loop-attr
invariant-attributes::each_attr-loop-attr l = record {
  kept : l.table ≡ l.initial.table;
  puts : map pure_attr l.puts
      ≡ map (λ x. put_with (pure_attr x) (pure_lettings l.lettings) (pure_table l.initial.table)) (take l.attr-index l.attrs);
}

abbrev pub invariant-indices::put_steps-loop-i : goal.invariant-indices::put_steps-loop-i
invariant-indices::put_steps-loop-i l = record {
  kept : l.table ≡ l.initial.table;
  words : words_of (map pure_step l.puts) ++ words_of (map pure_step (drop l.i l.steps)) ≡ words_of (map pure_step l.steps);
  operands : exs_before (within (map pure_step l.puts))
      (put_values (option_map pure_ty l.reached) (map pure_step (drop l.i l.steps)) (pure_lettings l.lettings)
      (pure_table l.initial.table))
      ≡ put_values (option_map pure_ty l.initial.reached) (map pure_step l.steps) (pure_lettings l.lettings) (pure_table l.initial.table);
  behind : l.asked ≡ true → (ws : List (With Step))
      → path_behind (option_map pure_ty l.initial.reached) (map pure_step l.puts ++ ws) (pure_table l.initial.table)
      ≡ path_behind (option_map pure_ty l.reached) ws (pure_table l.initial.table);
}

abbrev pub invariant-generators::put_gens-loop-item : goal.invariant-generators::put_gens-loop-item
invariant-generators::put_gens-loop-item l = record {
  kept : Extends l.initial.table l.table;
  puts : map pure_gen l.puts ++ put_items (map pure_gen (drop l.item-index l.gens)) (pure_lettings l.lettings) (pure_table l.table)
      ≡ put_items (map pure_gen l.gens) (pure_lettings l.lettings) (pure_table l.initial.table);
  types : l.asked ≡ true
      → types_under (gens_of (map pure_gen l.puts)) (pure_table l.initial.table) ≡ under l.under (pure_table l.table);
  names : names_behind (map pure_gen (drop l.item-index l.gens)) (pure_lettings l.lettings) (pure_table l.table)
      ≡ names_behind (map pure_gen l.gens) (pure_lettings l.lettings) (pure_table l.initial.table);
}
