-- Declared tables as the definitions have them.
use Rattle.std.specs.Prelude.{map}
use Rattle.ess_semantics.specs.DeclaredTables.{TableDecl}
use Rattle.ess_core_nodes.specs.NodeViews.{pure_dom}
use Rattle.ess_repr_declare_laws.specs.DeclaredTrees.{decl}
use Rattle.ess_declared_trees.specs.declared.tables.Declared.{Declared}

-- A table.
abbrev pub pure_declared : Declared → TableDecl
pure_declared t = decl t.name (map pure_dom t.axes) (pure_dom t.cell)
