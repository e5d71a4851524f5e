-- That `==` decides which tables, and which types and values of names, are equal.
use Rattle.std.proofs.Common.{◌≡◌, refl, Bool, ◌↔◌, IsTrue}
use Rattle.ess_core.specs.declared.tables.CellDecl.{CellDecl}
use Rattle.ess_core.specs.declared.tables.Table.{Table}
use Rattle.ess_core.specs.declared.tables.NamedTable.{NamedTable}
use Rattle.ess_core.specs.declared.tables.Cells.{Cells}
use Rattle.ess_core.specs.declared.tables.TypeEntry.{TypeEntry}
use Rattle.ess_core.specs.declared.tables.Binding.{Binding}
use Rattle.ess_core.specs.declared.tables.Env.{Env}
use Rattle.ess_core.specs.contracts.tables.CellDeclPartialEq.TheImpl as cell_decl_test
use Rattle.ess_core.specs.contracts.tables.TablePartialEq.TheImpl as table_test
use Rattle.ess_core.specs.contracts.tables.NamedTablePartialEq.TheImpl as named_table_test
use Rattle.ess_core.specs.contracts.tables.CellsPartialEq.TheImpl as cells_test
use Rattle.ess_core.specs.contracts.tables.TypeEntryPartialEq.TheImpl as type_entry_test
use Rattle.ess_core.specs.contracts.tables.BindingPartialEq.TheImpl as binding_test
use Rattle.ess_core.specs.contracts.tables.EnvPartialEq.TheImpl as env_test
use Rattle.ess_core_equality.proofs.Known.{Knows, decides, known_last, known_field, known_whole, known_text, known_texts, known_int, known_nat, known_all}
use Rattle.ess_core_equality.proofs.KnownTrees.{known_dom}
use Rattle.ess_core_equality.proofs.KnownValues.{known_val}

-- ---- the derived tests

abbrev pub cell_decl_same : CellDecl → CellDecl → Bool
cell_decl_same = cell_decl_test.ghosts.eq

abbrev pub table_same : Table → Table → Bool
table_same = table_test.ghosts.eq

abbrev pub named_table_same : NamedTable → NamedTable → Bool
named_table_same = named_table_test.ghosts.eq

abbrev pub cells_same : Cells → Cells → Bool
cells_same = cells_test.ghosts.eq

abbrev pub type_entry_same : TypeEntry → TypeEntry → Bool
type_entry_same = type_entry_test.ghosts.eq

abbrev pub binding_same : Binding → Binding → Bool
binding_same = binding_test.ghosts.eq

abbrev pub env_same : Env → Env → Bool
env_same = env_test.ghosts.eq

-- ---- all values

pub known_cell_decl : (x : CellDecl) → Knows cell_decl_same x
known_cell_decl x = known_whole (λ s. (s.name, (s.axes, (s.cell, tt)))) (λ c. record { name = c.0; axes = c.1.0; cell = c.1.1.0 }) (λ s. refl) (λ x y. refl) x (known_field (known_text x.name) (known_field (known_all known_dom x.axes) (known_last (known_dom x.cell))))

pub known_table : (x : Table) → Knows table_same x
known_table x = known_whole (λ s. (s.axes, (s.items, tt))) (λ c. record { axes = c.0; items = c.1.0 }) (λ s. refl) (λ x y. refl) x (known_field (known_all (known_all known_int) x.axes) (known_last (known_all known_int x.items)))

pub known_named_table : (x : NamedTable) → Knows named_table_same x
known_named_table x = known_whole (λ s. (s.name, (s.table, tt))) (λ c. record { name = c.0; table = c.1.0 }) (λ s. refl) (λ x y. refl) x (known_field (known_text x.name) (known_last (known_table x.table)))

pub known_cells : (x : Cells) → Knows cells_same x
known_cells x = known_whole (λ s. (s.list, tt)) (λ c. record { list = c.0 }) (λ s. refl) (λ x y. refl) x (known_last (known_all known_named_table x.list))

pub known_type_entry : (x : TypeEntry) → Knows type_entry_same x
known_type_entry x = known_whole (λ s. (s.name, (s.count, (s.names, tt)))) (λ c. record { name = c.0; count = c.1.0; names = c.1.1.0 }) (λ s. refl) (λ x y. refl) x (known_field (known_text x.name) (known_field (known_nat x.count) (known_last (known_texts x.names))))

pub known_binding : (x : Binding) → Knows binding_same x
known_binding x = known_whole (λ s. (s.name, (s.val, tt))) (λ c. record { name = c.0; val = c.1.0 }) (λ s. refl) (λ x y. refl) x (known_field (known_text x.name) (known_last (known_val x.val)))

pub known_env : (x : Env) → Knows env_same x
known_env x = known_whole (λ s. (s.types, (s.vals, tt))) (λ c. record { types = c.0; vals = c.1.0 }) (λ s. refl) (λ x y. refl) x (known_field (known_all known_type_entry x.types) (known_last (known_all known_binding x.vals)))

pub decides_cell_decl : (x y : CellDecl) → IsTrue (cell_decl_same x y) ↔ (x ≡ y)
decides_cell_decl x y = decides (known_cell_decl x) y

pub decides_table : (x y : Table) → IsTrue (table_same x y) ↔ (x ≡ y)
decides_table x y = decides (known_table x) y

pub decides_named_table : (x y : NamedTable) → IsTrue (named_table_same x y) ↔ (x ≡ y)
decides_named_table x y = decides (known_named_table x) y

pub decides_cells : (x y : Cells) → IsTrue (cells_same x y) ↔ (x ≡ y)
decides_cells x y = decides (known_cells x) y

pub decides_type_entry : (x y : TypeEntry) → IsTrue (type_entry_same x y) ↔ (x ≡ y)
decides_type_entry x y = decides (known_type_entry x) y

pub decides_binding : (x y : Binding) → IsTrue (binding_same x y) ↔ (x ≡ y)
decides_binding x y = decides (known_binding x) y

pub decides_env : (x y : Env) → IsTrue (env_same x y) ↔ (x ≡ y)
decides_env x y = decides (known_env x) y
