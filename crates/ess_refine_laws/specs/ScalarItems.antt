-- Scalars, and lists of scalars.
use Rattle.std.specs.Prelude.{Bool, true, false, Option, Some}
use Rattle.std.specs.List.{list_all}
use Rattle.ess_semantics.specs.Names.{Names}
use Rattle.ess_semantics.specs.Trees.{matrix_literal, Ex, node_ex, comp_ex}
use Rattle.ess_semantics.specs.Types.{Ty, bool_ty, int_ty, named_ty}
use Rattle.ess_semantics.specs.Typing.{type_of, types_of}
use Rattle.ess_semantics.specs.NamesAt.{names_behind}

-- Whether the type is of truth values, of numbers, or a named one.
abbrev pub is_scalar : Option Ty → Bool
is_scalar (Some bool_ty) = true
is_scalar (Some int_ty) = true
is_scalar (Some (named_ty t)) = true
is_scalar t = false

-- Whether the items of a comprehension or a list literal are scalars.
abbrev pub has_scalar_items : Ex → Names Ty → Bool
has_scalar_items (comp_ex e gs) g = is_scalar (type_of e (names_behind gs g))
has_scalar_items (node_ex false matrix_literal es) g = list_all is_scalar (types_of es g)
has_scalar_items l g = true
