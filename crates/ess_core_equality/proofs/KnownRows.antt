-- That `==` decides which lists of trees are equal.
use Rattle.std.proofs.Common.{◌≡◌, List, ◌↔◌, IsTrue}
use Rattle.std.specs.Cmp.Lexicographic.{pointwise}
use Rattle.ess_core.specs.declared.values.Val.{Val}
use Rattle.ess_core.specs.declared.values.FieldVal.{FieldVal}
use Rattle.ess_core.specs.declared.values.Pair.{Pair}
use Rattle.ess_core.specs.declared.types.Ty.{Ty}
use Rattle.ess_core.specs.declared.types.FieldTy.{FieldTy}
use Rattle.ess_core.specs.declared.expressions.Pat.{Pat}
use Rattle.ess_core.specs.declared.representations.Repr.{Repr}
use Rattle.ess_core.specs.declared.domains.Dom.{Dom}
use Rattle.ess_core.specs.declared.domains.FieldDom.{FieldDom}
use Rattle.ess_core.specs.declared.domains.Range.{Range}
use Rattle.ess_core.specs.declared.domains.Attr.{Attr}
use Rattle.ess_core.specs.declared.expressions.Ex.{Ex}
use Rattle.ess_core.specs.declared.expressions.Gen.{Gen}
use Rattle.ess_core.specs.declared.expressions.Step.{Step}
use Rattle.ess_core.specs.declared.expressions.FieldEx.{FieldEx}
use Rattle.ess_core.specs.declared.expressions.PairEx.{PairEx}
use Rattle.ess_core.specs.declared.statements.Stm.{Stm}
use Rattle.ess_core.specs.declared.tables.CellDecl.{CellDecl}
use Rattle.ess_core.specs.declared.tables.NamedTable.{NamedTable}
use Rattle.ess_core.specs.declared.tables.TypeEntry.{TypeEntry}
use Rattle.ess_core.specs.declared.tables.Binding.{Binding}
use Rattle.ess_core_equality.proofs.Known.{decides, known_all}
use Rattle.ess_core_equality.proofs.KnownValues.{val_same, field_val_same, pair_same, known_val, known_field_val, known_pair}
use Rattle.ess_core_equality.proofs.KnownTypes.{ty_same, field_ty_same, known_ty, known_field_ty}
use Rattle.ess_core_equality.proofs.KnownPatterns.{pat_same, known_pat}
use Rattle.ess_core_equality.proofs.KnownRepresentations.{repr_same, known_repr}
use Rattle.ess_core_equality.proofs.TreeLayers.{dom_same, field_dom_same, range_same, attr_same, ex_same, gen_same, step_same, field_ex_same, pair_ex_same}
use Rattle.ess_core_equality.proofs.KnownTrees.{known_dom, known_field_dom, known_range, known_attr, known_ex, known_gen, known_step, known_field_ex, known_pair_ex}
use Rattle.ess_core_equality.proofs.KnownStatements.{stm_same, known_stm}
use Rattle.ess_core_equality.proofs.KnownTables.{cell_decl_same, named_table_same, type_entry_same, binding_same, known_cell_decl, known_named_table, known_type_entry, known_binding}

pub decides_vals : (xs ys : List Val) → IsTrue (pointwise val_same xs ys) ↔ (xs ≡ ys)
decides_vals xs ys = decides (known_all known_val xs) ys

pub decides_field_vals : (xs ys : List FieldVal) → IsTrue (pointwise field_val_same xs ys) ↔ (xs ≡ ys)
decides_field_vals xs ys = decides (known_all known_field_val xs) ys

pub decides_pairs : (xs ys : List Pair) → IsTrue (pointwise pair_same xs ys) ↔ (xs ≡ ys)
decides_pairs xs ys = decides (known_all known_pair xs) ys

pub decides_tys : (xs ys : List Ty) → IsTrue (pointwise ty_same xs ys) ↔ (xs ≡ ys)
decides_tys xs ys = decides (known_all known_ty xs) ys

pub decides_field_tys : (xs ys : List FieldTy) → IsTrue (pointwise field_ty_same xs ys) ↔ (xs ≡ ys)
decides_field_tys xs ys = decides (known_all known_field_ty xs) ys

pub decides_pats : (xs ys : List Pat) → IsTrue (pointwise pat_same xs ys) ↔ (xs ≡ ys)
decides_pats xs ys = decides (known_all known_pat xs) ys

pub decides_reprs : (xs ys : List Repr) → IsTrue (pointwise repr_same xs ys) ↔ (xs ≡ ys)
decides_reprs xs ys = decides (known_all known_repr xs) ys

pub decides_doms : (xs ys : List Dom) → IsTrue (pointwise dom_same xs ys) ↔ (xs ≡ ys)
decides_doms xs ys = decides (known_all known_dom xs) ys

pub decides_field_doms : (xs ys : List FieldDom) → IsTrue (pointwise field_dom_same xs ys) ↔ (xs ≡ ys)
decides_field_doms xs ys = decides (known_all known_field_dom xs) ys

pub decides_ranges : (xs ys : List Range) → IsTrue (pointwise range_same xs ys) ↔ (xs ≡ ys)
decides_ranges xs ys = decides (known_all known_range xs) ys

pub decides_attrs : (xs ys : List Attr) → IsTrue (pointwise attr_same xs ys) ↔ (xs ≡ ys)
decides_attrs xs ys = decides (known_all known_attr xs) ys

pub decides_exs : (xs ys : List Ex) → IsTrue (pointwise ex_same xs ys) ↔ (xs ≡ ys)
decides_exs xs ys = decides (known_all known_ex xs) ys

pub decides_gens : (xs ys : List Gen) → IsTrue (pointwise gen_same xs ys) ↔ (xs ≡ ys)
decides_gens xs ys = decides (known_all known_gen xs) ys

pub decides_steps : (xs ys : List Step) → IsTrue (pointwise step_same xs ys) ↔ (xs ≡ ys)
decides_steps xs ys = decides (known_all known_step xs) ys

pub decides_field_exs : (xs ys : List FieldEx) → IsTrue (pointwise field_ex_same xs ys) ↔ (xs ≡ ys)
decides_field_exs xs ys = decides (known_all known_field_ex xs) ys

pub decides_pair_exs : (xs ys : List PairEx) → IsTrue (pointwise pair_ex_same xs ys) ↔ (xs ≡ ys)
decides_pair_exs xs ys = decides (known_all known_pair_ex xs) ys

pub decides_stms : (xs ys : List Stm) → IsTrue (pointwise stm_same xs ys) ↔ (xs ≡ ys)
decides_stms xs ys = decides (known_all known_stm xs) ys

pub decides_cell_decls : (xs ys : List CellDecl) → IsTrue (pointwise cell_decl_same xs ys) ↔ (xs ≡ ys)
decides_cell_decls xs ys = decides (known_all known_cell_decl xs) ys

pub decides_named_tables : (xs ys : List NamedTable) → IsTrue (pointwise named_table_same xs ys) ↔ (xs ≡ ys)
decides_named_tables xs ys = decides (known_all known_named_table xs) ys

pub decides_type_entries : (xs ys : List TypeEntry) → IsTrue (pointwise type_entry_same xs ys) ↔ (xs ≡ ys)
decides_type_entries xs ys = decides (known_all known_type_entry xs) ys

pub decides_bindings : (xs ys : List Binding) → IsTrue (pointwise binding_same xs ys) ↔ (xs ≡ ys)
decides_bindings xs ys = decides (known_all known_binding xs) ys
