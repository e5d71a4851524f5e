-- Lists with their kinds, and what stands for several expressions.
use Rattle.std.specs.Prelude.{List, [], ◌∷◌, map, Option, Some, None}
use Rattle.ess_semantics.specs.Values.{Text, a_matrix}
use Rattle.ess_semantics.specs.Types.{Ty, any_ty, int_ty, compound2}
use Rattle.ess_semantics.specs.Trees as pure
use Rattle.ess_semantics.specs.ModelMeaning as model
use Rattle.eprime_tree.specs.Views.{exs_of}
use Rattle.eprime_eval_kinds.specs.declared.lists.KindedList.{KindedList}
use Rattle.eprime_eval_kinds.specs.declared.lists.KindedRow.{KindedRow}
use Rattle.eprime_eval_kinds.specs.KindedViews.{pure_kex, pure_klist, pure_kind}

-- A list with its kind, or what has nothing.
abbrev pub pure_listed : List Text → Option KindedList → model.Kinded
pure_listed names None = model.nothing
pure_listed names (Some l) = (pure_klist names l.list, compound2 a_matrix (pure_kind l.index) (pure_kind l.item))

-- Several expressions with their kinds.
abbrev pub pure_row : List Text → KindedRow → pure.Exs × List Ty
pure_row names r = (exs_of (map (pure_kex names) r.items), map pure_kind r.kinds)

-- The type of the indices of a list of items of these types: `[]` agrees with every list.
abbrev pub index_of : List Ty → Ty
index_of [] = any_ty
index_of (t ∷ ts) = int_ty
