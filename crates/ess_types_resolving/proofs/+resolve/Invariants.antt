use Rattle.std.proofs.Common.{◌≡◌, ◌++◌, map, drop, option_map}
use Rattle.ess_semantics.specs.Kinds.{doms_of}
use Rattle.ess_semantics.specs.Lists.{all_some}
use Rattle.ess_semantics.specs.Names.{keys}
use Rattle.ess_semantics.specs.Typing.{types_of, types_under}
use Rattle.ess_semantics.specs.Resolving.{resolve_exs, resolve_doms}
use Rattle.ess_core.specs.TypeViews.{pure_ty}
use Rattle.ess_core.specs.TreeViews.{pure_ex, pure_exs, pure_pair_ex, pure_field_ex, pure_step, pure_gen, pure_gens, pure_dom, pure_doms, pure_field_dom, pure_range, pure_attr, exs_of, field_values, words_of, within}
use Rattle.ess_types_names.specs.Tables.{pure_table, Extends}
use Rattle.ess_types_resolving.specs.Parts.{joined}
use Rattle.ess_types_resolving.specs.Generators.{resolved_items, names_behind, fitting}
use Rattle.ess_types_resolving.specs.Paths.{resolved_path, path_behind}
use Rattle.ess_types_resolving.proofs.Ahead.{exs_ahead, doms_ahead}
use Rattle.ess_types_resolving.proofs.+resolve.Given as goal

abbrev pub invariant-rows::resolve_exs-loop-ex : goal.invariant-rows::resolve_exs-loop-ex
invariant-rows::resolve_exs-loop-ex l = record {
  kept : l.table ≡ l.initial.table;
  trees : exs_ahead (map pure_ex l.resolved)
      (resolve_exs (pure_exs (drop l.ex-index l.exs)) (pure_table l.initial.table))
      ≡ resolve_exs (pure_exs l.exs) (pure_table l.initial.table);
  types : joined (option_map (map pure_ty) l.tys)
      (all_some (types_of (pure_exs (drop l.ex-index l.exs)) (pure_table l.initial.table)))
      ≡ all_some (types_of (pure_exs l.exs) (pure_table l.initial.table));
}

abbrev pub invariant-rows::resolve_pairs-loop-pair : goal.invariant-rows::resolve_pairs-loop-pair
invariant-rows::resolve_pairs-loop-pair l = record {
  kept : l.table ≡ l.initial.table;
  trees : exs_ahead (map pure_pair_ex l.resolved)
      (resolve_exs (exs_of (map pure_pair_ex (drop l.pair-index l.pairs))) (pure_table l.initial.table))
      ≡ resolve_exs (exs_of (map pure_pair_ex l.pairs)) (pure_table l.initial.table);
  types : joined (option_map (map pure_ty) l.tys)
      (all_some (types_of (exs_of (map pure_pair_ex (drop l.pair-index l.pairs))) (pure_table l.initial.table)))
      ≡ all_some (types_of (exs_of (map pure_pair_ex l.pairs)) (pure_table l.initial.table));
}

abbrev pub invariant-rows::resolve_fields-loop-field : goal.invariant-rows::resolve_fields-loop-field
invariant-rows::resolve_fields-loop-field l = record {
  kept : l.table ≡ l.initial.table;
  names : keys (map pure_field_ex l.resolved) ++ keys (map pure_field_ex (drop l.field-index l.fields))
      ≡ keys (map pure_field_ex l.fields);
  trees : exs_ahead (field_values (map pure_field_ex l.resolved))
      (resolve_exs (exs_of (field_values (map pure_field_ex (drop l.field-index l.fields)))) (pure_table l.initial.table))
      ≡ resolve_exs (exs_of (field_values (map pure_field_ex l.fields))) (pure_table l.initial.table);
  types : joined (option_map (map pure_ty) l.tys)
      (all_some (types_of (exs_of (field_values (map pure_field_ex (drop l.field-index l.fields)))) (pure_table l.initial.table)))
      ≡ all_some (types_of (exs_of (field_values (map pure_field_ex l.fields))) (pure_table l.initial.table));
}

abbrev pub invariant-indices::resolve_steps-loop-step : goal.invariant-indices::resolve_steps-loop-step
invariant-indices::resolve_steps-loop-step l = record {
  kept : l.table ≡ l.initial.table;
  trees : map pure_step l.resolved ++ resolved_path (option_map pure_ty l.reached) (map pure_step (drop l.step-index l.steps))
      (pure_table l.initial.table) ≡ resolved_path (option_map pure_ty l.initial.reached) (map pure_step l.steps)
      (pure_table l.initial.table);
  types : path_behind (option_map pure_ty l.reached) (map pure_step (drop l.step-index l.steps)) (pure_table l.initial.table)
      ≡ path_behind (option_map pure_ty l.initial.reached) (map pure_step l.steps) (pure_table l.initial.table);
}

abbrev pub invariant-generators::resolve_gens-loop-item : goal.invariant-generators::resolve_gens-loop-item
invariant-generators::resolve_gens-loop-item l = record {
  kept : Extends l.initial.table l.table;
  trees : map pure_gen l.resolved ++ resolved_items (map pure_gen (drop l.item-index l.gens)) (pure_table l.table)
      ≡ resolved_items (map pure_gen l.gens) (pure_table l.initial.table);
  names : names_behind (map pure_gen (drop l.item-index l.gens)) (pure_table l.table)
      ≡ names_behind (map pure_gen l.gens) (pure_table l.initial.table);
  types : fitting l.under (types_under (pure_gens (drop l.item-index l.gens)) (pure_table l.table))
      ≡ types_under (pure_gens l.gens) (pure_table l.initial.table);
}

abbrev pub invariant-domain_rows::resolve_doms-loop-dom : goal.invariant-domain_rows::resolve_doms-loop-dom
invariant-domain_rows::resolve_doms-loop-dom l = record {
  kept : l.table ≡ l.initial.table;
  trees : doms_ahead (map pure_dom l.resolved)
      (resolve_doms (pure_doms (drop l.dom-index l.doms)) (pure_table l.initial.table))
      ≡ resolve_doms (pure_doms l.doms) (pure_table l.initial.table);
}

abbrev pub invariant-domain_rows::resolve_dom_fields-loop-field : goal.invariant-domain_rows::resolve_dom_fields-loop-field
invariant-domain_rows::resolve_dom_fields-loop-field l = record {
  kept : l.table ≡ l.initial.table;
  names : keys (map pure_field_dom l.resolved) ++ keys (map pure_field_dom (drop l.field-index l.fields))
      ≡ keys (map pure_field_dom l.fields);
  trees : doms_ahead (field_values (map pure_field_dom l.resolved))
      (resolve_doms (doms_of (field_values (map pure_field_dom (drop l.field-index l.fields)))) (pure_table l.initial.table))
      ≡ resolve_doms (doms_of (field_values (map pure_field_dom l.fields))) (pure_table l.initial.table);
}

abbrev pub invariant-domain_rows::resolve_ranges-loop-range : goal.invariant-domain_rows::resolve_ranges-loop-range
invariant-domain_rows::resolve_ranges-loop-range l = record {
  kept : l.table ≡ l.initial.table;
  words : words_of (map pure_range l.resolved) ++ words_of (map pure_range (drop l.range-index l.ranges))
      ≡ words_of (map pure_range l.ranges);
  trees : exs_ahead (within (map pure_range l.resolved))
      (resolve_exs (exs_of (within (map pure_range (drop l.range-index l.ranges)))) (pure_table l.initial.table))
      ≡ resolve_exs (exs_of (within (map pure_range l.ranges))) (pure_table l.initial.table);
}

abbrev pub invariant-domain_rows::resolve_attrs-loop-attr : goal.invariant-domain_rows::resolve_attrs-loop-attr
invariant-domain_rows::resolve_attrs-loop-attr l = record {
  kept : l.table ≡ l.initial.table;
  words : words_of (map pure_attr l.resolved) ++ words_of (map pure_attr (drop l.attr-index l.attrs))
      ≡ words_of (map pure_attr l.attrs);
  trees : exs_ahead (within (map pure_attr l.resolved))
      (resolve_exs (exs_of (within (map pure_attr (drop l.attr-index l.attrs)))) (pure_table l.initial.table))
      ≡ resolve_exs (exs_of (within (map pure_attr l.attrs))) (pure_table l.initial.table);
}
