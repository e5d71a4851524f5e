-- What the kinds of expressions ask of declarations: a name, how many axes, and whether the cells are truth values.
use Rattle.std.specs.Prelude.{ℕ, suc, ◌&&◌, nat_eq, if◌then◌else◌, List, [], ◌∷◌, map, length, Option, Some, None, option_map}
use Rattle.std.specs.List.{list_all}
use Rattle.ess_semantics.specs.Values.{Text}
use Rattle.ess_semantics.specs.Order.{same_text}
use Rattle.ess_semantics.specs.Trees.{Exs, cell_ex}
use Rattle.ess_semantics.specs.Types.{Ty}
use Rattle.ess_semantics.specs.ModelMeaning.{Kinded, broken, cell_kind, is_int_kind}
use Rattle.ess_semantics.specs.DeclaredTables.{TableDecl}
use Rattle.ess_semantics.specs.Meaning.{is_bool_dom}
use Rattle.ess_grammar.specs.Models.{empty_scope}
use Rattle.eprime_tree.specs.declared.models.PDecl.{PDecl}
use Rattle.eprime_tree.specs.Views.{pure_decl}
use Rattle.eprime_eval_kinds.specs.declared.declared.Shape.{Shape}

-- The shape of a declared table.
abbrev pub shape_of : TableDecl → Shape
shape_of d = record { name = d.name; axes = length d.axes; truth = is_bool_dom d.cell }

-- The shape of a declaration of a model.
abbrev pub decl_shape : PDecl → Shape
decl_shape d = shape_of (pure_decl empty_scope d)

-- The names, in order.
abbrev pub names_of : List Shape → List Text
names_of ss = map (λ s. s.name) ss

-- The number of the first declaration of a name, counted from 0.
abbrev pub first_place : List Shape → Text → Option ℕ
first_place [] a = None
first_place (s ∷ ss) a = if same_text s.name a then Some 0 else option_map suc (first_place ss a)

-- A cell of a table with this shape. What isn't as many numbers as there are axes is no index list.
abbrev pub shaped_cell : Shape → Text → Exs → List Ty → Kinded
shaped_cell s n es ts =
    if nat_eq (length ts) s.axes && list_all is_int_kind ts then (cell_ex s.truth n es, cell_kind s.truth) else broken (cell_kind s.truth)
