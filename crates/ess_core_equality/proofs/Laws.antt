-- That `==` decides equality, at every type of trees and at lists of them. A crate names these laws once, at the head of
-- its root file, as `#![tactic(auto, using(ess_core_equality::proofs::Laws::equality))]`.
use Rattle.ess_core_equality.proofs.KnownPatterns.{decides_pat}
use Rattle.ess_core_equality.proofs.KnownRepresentations.{decides_repr}
use Rattle.ess_core_equality.proofs.KnownRows.{decides_vals, decides_field_vals, decides_pairs, decides_tys, decides_field_tys, decides_pats, decides_reprs, decides_doms, decides_field_doms, decides_ranges, decides_attrs, decides_exs, decides_gens, decides_steps, decides_field_exs, decides_pair_exs, decides_stms, decides_cell_decls, decides_named_tables, decides_type_entries, decides_bindings}
use Rattle.ess_core_equality.proofs.KnownStatements.{decides_stm, decides_spec}
use Rattle.ess_core_equality.proofs.KnownTables.{decides_cell_decl, decides_table, decides_named_table, decides_cells, decides_type_entry, decides_binding, decides_env}
use Rattle.ess_core_equality.proofs.KnownTrees.{decides_dom, decides_range, decides_ex, decides_gen, decides_step, decides_attr, decides_field_dom, decides_field_ex, decides_pair_ex, decides_view}
use Rattle.ess_core_equality.proofs.KnownTypes.{decides_ty, decides_field_ty}
use Rattle.ess_core_equality.proofs.KnownValues.{decides_val, decides_field_val, decides_pair}

pub ruleset equality = (
  decides_pat,
  decides_repr,
  decides_vals,
  decides_field_vals,
  decides_pairs,
  decides_tys,
  decides_field_tys,
  decides_pats,
  decides_reprs,
  decides_doms,
  decides_field_doms,
  decides_ranges,
  decides_attrs,
  decides_exs,
  decides_gens,
  decides_steps,
  decides_field_exs,
  decides_pair_exs,
  decides_stms,
  decides_cell_decls,
  decides_named_tables,
  decides_type_entries,
  decides_bindings,
  decides_stm,
  decides_spec,
  decides_cell_decl,
  decides_table,
  decides_named_table,
  decides_cells,
  decides_type_entry,
  decides_binding,
  decides_env,
  decides_dom,
  decides_range,
  decides_ex,
  decides_gen,
  decides_step,
  decides_attr,
  decides_field_dom,
  decides_field_ex,
  decides_pair_ex,
  decides_view,
  decides_ty,
  decides_field_ty,
  decides_val,
  decides_field_val,
  decides_pair,
)
