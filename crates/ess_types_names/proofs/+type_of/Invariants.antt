use Rattle.std.proofs.Common.{◌≡◌, map, drop}
use Rattle.ess_semantics.specs.Lists.{all_some}
use Rattle.ess_semantics.specs.Typing.{types_of, types_under}
use Rattle.ess_core.specs.TypeViews.{pure_ty}
use Rattle.ess_core.specs.TreeViews.{pure_exs, pure_pair_ex, pure_field_ex, pure_step, pure_gens, exs_of, field_values}
use Rattle.ess_types_names.specs.Tables.{pure_table, Extends}
use Rattle.ess_types_names.specs.Paths.{steps_ty}
use Rattle.ess_types_names.proofs.Ahead.{ahead}
use Rattle.ess_types_names.proofs.+type_of.Given as goal

abbrev pub invariant-rows::types_of-loop-ex : goal.invariant-rows::types_of-loop-ex
invariant-rows::types_of-loop-ex l = record {
  kept : l.table ≡ l.initial.table;
  found : ahead (map pure_ty l.tys) (all_some (types_of (pure_exs (drop l.ex-index l.exs)) (pure_table l.initial.table))) ≡ all_some (types_of (pure_exs l.exs) (pure_table l.initial.table));
}

abbrev pub invariant-rows::types_of_pairs-loop-pair : goal.invariant-rows::types_of_pairs-loop-pair
invariant-rows::types_of_pairs-loop-pair l = record {
  kept : l.table ≡ l.initial.table;
  found : ahead (map pure_ty l.tys) (all_some (types_of (exs_of (map pure_pair_ex (drop l.pair-index l.pairs))) (pure_table l.initial.table))) ≡ all_some (types_of (exs_of (map pure_pair_ex l.pairs)) (pure_table l.initial.table));
}

abbrev pub invariant-rows::types_of_fields-loop-field : goal.invariant-rows::types_of_fields-loop-field
invariant-rows::types_of_fields-loop-field l = record {
  kept : l.table ≡ l.initial.table;
  found : ahead (map pure_ty l.tys) (all_some (types_of (exs_of (field_values (map pure_field_ex (drop l.field-index l.fields)))) (pure_table l.initial.table))) ≡ all_some (types_of (exs_of (field_values (map pure_field_ex l.fields))) (pure_table l.initial.table));
}

abbrev pub invariant-indices::type_behind-loop-step : goal.invariant-indices::type_behind-loop-step
invariant-indices::type_behind-loop-step l = record {
  kept : l.table ≡ l.initial.table;
  left : steps_ty (pure_ty l.reached) (map pure_step (drop l.step-index l.steps)) (pure_table l.initial.table) ≡ steps_ty (pure_ty l.initial.reached) (map pure_step l.steps) (pure_table l.initial.table);
}

abbrev pub invariant-under::types_under-loop-item : goal.invariant-under::types_under-loop-item
invariant-under::types_under-loop-item l = record {
  kept : Extends l.initial.table l.table;
  left : types_under (pure_gens (drop l.item-index l.gens)) (pure_table l.table) ≡ types_under (pure_gens l.gens) (pure_table l.initial.table);
}
