-- The pure tables, declarations and envs that those of the tool stand for.
use Rattle.std.specs.Prelude.{true, false, List, [], map, reverse}
use Rattle.ess_semantics.specs.Values.{Text, Value}
use Rattle.ess_semantics.specs.Names.{Names}
use Rattle.ess_semantics.specs.Tables as pure
use Rattle.ess_semantics.specs.DeclaredTables.{TableDecl}
use Rattle.ess_semantics.specs.Meaning as meaning
use Rattle.ess_core.specs.ValueViews.{pure_val}
use Rattle.ess_core.specs.TreeViews.{pure_dom}
use Rattle.ess_core.specs.declared.tables.Table.{Table}
use Rattle.ess_core.specs.declared.tables.NamedTable.{NamedTable}
use Rattle.ess_core.specs.declared.tables.Cells.{Cells}
use Rattle.ess_core.specs.declared.tables.CellDecl.{CellDecl}
use Rattle.ess_core.specs.declared.tables.TypeEntry.{TypeEntry}
use Rattle.ess_core.specs.declared.tables.Binding.{Binding}
use Rattle.ess_core.specs.declared.tables.Env.{Env}

-- The pure table of a table.
abbrev pub pure_table : Table → pure.Table
pure_table t = record { axes = t.axes; items = t.items }

-- A table with its name.
abbrev pub pure_named_table : NamedTable → Text × pure.Table
pure_named_table t = (t.name, pure_table t.table)

-- The tables by name, in order of declaration.
abbrev pub pure_cells : Cells → Names pure.Table
pure_cells c = map pure_named_table c.list

-- The pure declaration of a declaration.
abbrev pub pure_decl : CellDecl → TableDecl
pure_decl d = record { name = d.name; axes = map pure_dom d.axes; cell = pure_dom d.cell }

-- The pure entry of a type.
abbrev pub pure_type_entry : TypeEntry → meaning.TypeEntry
pure_type_entry t = record { name = t.name; count = t.count; names = t.names }

-- A name with its value.
abbrev pub pure_binding : Binding → Text × Value
pure_binding b = (b.name, pure_val b.val)

-- The types, the newest first.
abbrev pub pure_type_entries : List TypeEntry → List meaning.TypeEntry
pure_type_entries ts = map pure_type_entry (reverse ts)

-- The values of names, the newest first: where a name stands twice, the newest counts.
abbrev pub pure_bindings : List Binding → Names Value
pure_bindings bs = map pure_binding (reverse bs)

-- The env in which specifications have their meaning: without tables.
abbrev pub pure_env : Env → meaning.Env
pure_env e = record { positions = false; types = pure_type_entries e.types; vals = pure_bindings e.vals; cells = [] }

-- The env in which models have their meaning: under tables. A value of a named type counts as its position.
abbrev pub env_under : Env → Cells → meaning.Env
env_under e c = record { positions = true; types = pure_type_entries e.types; vals = pure_bindings e.vals; cells = pure_cells c }
