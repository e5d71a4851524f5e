-- The pure trees that expressions and domains stand for as they are evaluated. A cell's number is that of its table's
-- declaration, and `names` are the declared names in order.
use Rattle.std.specs.Prelude.{ℕ, false, List, [], ◌∷◌, get_or}
use Rattle.ess_semantics.specs.Values.{Text}
use Rattle.ess_semantics.specs.Types.{Ty, any_ty, bool_ty, int_ty}
use Rattle.ess_semantics.specs.ModelMeaning as model
use Rattle.ess_semantics.specs.Trees as pure
use Rattle.ess_semantics.specs.Trees.{binary, word, matrix_literal, one_value, both_ends, low_end, high_end, number_ex, truth_ex, name_ex, node_ex, comp_ex, cell_ex, no_exs, more_exs, bool_dom, plain_node}
use Rattle.eprime_tree.specs.Views.{pure_op1, pure_op2, pure_fun, Item, over_item, cond_item, Bounds, exs_of, gens_of, int_of}
use Rattle.eprime_eval_kinds.specs.declared.nodes.KindedEx.{KindedEx}
use Rattle.eprime_eval_kinds.specs.declared.tree.Kind.{Kind}
use Rattle.eprime_eval_kinds.specs.declared.tree.KEx.{KEx}
use Rattle.eprime_eval_kinds.specs.declared.tree.KList.{KList}
use Rattle.eprime_eval_kinds.specs.declared.tree.KGen.{KGen}
use Rattle.eprime_eval_kinds.specs.declared.tree.KDom.{KDom}
use Rattle.eprime_eval_kinds.specs.declared.tree.KRange.{KRange}
use Rattle.eprime_eval_kinds.specs.declared.tree.KDom.TheOpen.{KEx-F, KList-F, KGen-F, KDom-F, KRange-F}
use Rattle.eprime_eval_kinds.specs.declared.tree.KDom.TheFolds.{fold-KEx, fold-KList, fold-KGen, fold-KDom, fold-KRange}

-- The kind as a type.
abbrev pub pure_kind : Kind → Ty
pure_kind Kind.Any = any_ty
pure_kind Kind.Bool = bool_ty
pure_kind Kind.Int = int_ty

-- The name of the declaration with a number. One that isn't there has the empty name.
abbrev pub name_at : List Text → ℕ → Text
name_at names n = get_or names n []

-- ---- one layer of each, with what its parts become in their places

abbrev pub kex_step : List Text → KEx-F pure.Dom pure.Ex Item pure.Ex Bounds → pure.Ex
kex_step names (KEx-F.Num n) = number_ex n
kex_step names (KEx-F.Truth b) = truth_ex b
kex_step names KEx-F.Nothing = name_ex []
kex_step names (KEx-F.Name a) = name_ex a
kex_step names (KEx-F.Cell b n es) = cell_ex b (name_at names n) (exs_of es)
kex_step names (KEx-F.KEx::One o e) = plain_node (pure_op1 o) (more_exs e no_exs)
kex_step names (KEx-F.Two o a b) = plain_node (binary (pure_op2 o)) (more_exs a (more_exs b no_exs))
kex_step names (KEx-F.Fold f l) = plain_node (word (pure_fun f)) (more_exs l no_exs)
kex_step names (KEx-F.Lex o a b) = plain_node (binary (pure_op2 o)) (more_exs a (more_exs b no_exs))

abbrev pub klist_step : KList-F pure.Dom pure.Ex Item pure.Ex Bounds → pure.Ex
klist_step (KList-F.Items es) = node_ex false matrix_literal (exs_of es)
klist_step (KList-F.Comp e gs) = comp_ex e (gens_of gs)

abbrev pub kgen_step : KGen-F pure.Dom pure.Ex Item pure.Ex Bounds → Item
kgen_step (KGen-F.Over a d) = over_item a d
kgen_step (KGen-F.If e) = cond_item e

abbrev pub kdom_step : KDom-F pure.Dom pure.Ex Item pure.Ex Bounds → pure.Dom
kdom_step KDom-F.Bool = bool_dom
kdom_step (KDom-F.Int rs) = int_of rs

abbrev pub krange_step : KRange-F pure.Dom pure.Ex Item pure.Ex Bounds → Bounds
krange_step (KRange-F.KRange::One e) = (one_value, e ∷ [])
krange_step (KRange-F.Between a b) = (both_ends, a ∷ b ∷ [])
krange_step (KRange-F.From a) = (low_end, a ∷ [])
krange_step (KRange-F.UpTo b) = (high_end, b ∷ [])

-- ---- the pure trees

-- The pure tree of an expression.
abbrev pub pure_kex : List Text → KEx → pure.Ex
pure_kex names = fold-KEx pure.Dom pure.Ex Item pure.Ex Bounds kdom_step (kex_step names) kgen_step klist_step krange_step

-- The pure tree of a list.
abbrev pub pure_klist : List Text → KList → pure.Ex
pure_klist names = fold-KList pure.Dom pure.Ex Item pure.Ex Bounds kdom_step (kex_step names) kgen_step klist_step krange_step

-- The pure tree of a generator or condition.
abbrev pub pure_kgen : List Text → KGen → Item
pure_kgen names = fold-KGen pure.Dom pure.Ex Item pure.Ex Bounds kdom_step (kex_step names) kgen_step klist_step krange_step

-- The pure tree of a domain.
abbrev pub pure_kdom : List Text → KDom → pure.Dom
pure_kdom names = fold-KDom pure.Dom pure.Ex Item pure.Ex Bounds kdom_step (kex_step names) kgen_step klist_step krange_step

-- The form of a range with its bounds.
abbrev pub pure_krange : List Text → KRange → Bounds
pure_krange names = fold-KRange pure.Dom pure.Ex Item pure.Ex Bounds kdom_step (kex_step names) kgen_step klist_step krange_step

-- An expression with its kind.
abbrev pub pure_kinded : List Text → KindedEx → model.Kinded
pure_kinded names k = (pure_kex names k.ex, pure_kind k.kind)
