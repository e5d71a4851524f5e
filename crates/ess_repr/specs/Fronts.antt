-- The tables of a layer's children, with what stands before their names.
use Rattle.std.specs.Prelude.{Bool, List, [], ◌∷◌, ◌++◌, map}
use Rattle.ess_semantics.specs.Values.{Text}
use Rattle.ess_semantics.specs.Trees.{Repr, Dom}
use Rattle.ess_semantics.specs.DeclaredTables.{TableDecl}
use Rattle.ess_core.specs.declared.tables.CellDecl.{CellDecl}
use Rattle.ess_repr_declare_laws.specs.DeclaredTrees.{trees_below, below_layer}

-- The name of a declared table.
abbrev pub decl_text : CellDecl → Text
decl_text d = d.name

-- The tables of the children, in order: before the names of each stands its own text.
abbrev pub trees_of_named : Bool → List Repr → List Text → List Dom → List TableDecl
trees_of_named out (r ∷ rs) (n ∷ ns) (d ∷ ds) = map (below_layer n []) (trees_below out r d) ++ trees_of_named out rs ns ds
trees_of_named out _ _ _ = []
