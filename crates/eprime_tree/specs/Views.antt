-- The pure trees that models and their expressions stand for. A declared name is a cell, and so is an access to a table;
-- what earlier lines declare says whether their cells are truth values. A name that a generator binds is a name.
use Rattle.std.specs.Prelude.{false, List, [], ◌∷◌, map, Option, Some, None}
use Rattle.ess_semantics.specs.declared.words.Op1.{Op1}
use Rattle.ess_semantics.specs.declared.words.Op2.{Op2}
use Rattle.ess_semantics.specs.declared.words.Fun.{Fun}
use Rattle.ess_semantics.specs.declared.words.ReprKind.{ReprKind}
use Rattle.ess_semantics.specs.Values.{Text}
use Rattle.ess_semantics.specs.Lists.{append_all}
use Rattle.ess_semantics.specs.Trees as pure
use Rattle.ess_semantics.specs.Trees.{Op, unary, binary, word, matrix_literal, Ends, one_value, both_ends, low_end, high_end, name_pat, number_ex, truth_ex, name_ex, node_ex, comp_ex, cell_ex, seen_ex, repr, no_reprs, no_exs, more_exs, no_gens, over, cond, bool_dom, int_dom, plain_node}
use Rattle.ess_semantics.specs.DeclaredTables.{TableDecl}
use Rattle.ess_semantics.specs.ModelTrees.{Goal, no_goal, least, greatest, Model}
use Rattle.ess_grammar.specs.Models.{Scope, empty_scope, with_given, with_find, scope_behind, is_truth_table}
use Rattle.eprime_tree.specs.declared.words.POp1.{POp1}
use Rattle.eprime_tree.specs.declared.words.POp2.{POp2}
use Rattle.eprime_tree.specs.declared.words.PFun.{PFun}
use Rattle.eprime_tree.specs.declared.expressions.PEx.{PEx}
use Rattle.eprime_tree.specs.declared.expressions.PList.{PList}
use Rattle.eprime_tree.specs.declared.expressions.PGen.{PGen}
use Rattle.eprime_tree.specs.declared.expressions.PDom.{PDom}
use Rattle.eprime_tree.specs.declared.expressions.PRange.{PRange}
use Rattle.eprime_tree.specs.declared.expressions.PDom.TheOpen.{PEx-F, PList-F, PGen-F, PDom-F, PRange-F}
use Rattle.eprime_tree.specs.declared.expressions.PDom.TheFolds.{fold-PEx, fold-PList, fold-PGen, fold-PDom, fold-PRange}
use Rattle.eprime_tree.specs.declared.models.PDecl.{PDecl}
use Rattle.eprime_tree.specs.declared.models.PGoal.{PGoal}
use Rattle.eprime_tree.specs.declared.models.PGoal.TheVariants.{Free, Minimise, Maximise}
use Rattle.eprime_tree.specs.declared.models.PModel.{PModel}

-- ---- operators and words

-- The operator at the node of one operand.
abbrev pub pure_op1 : POp1 → Op
pure_op1 POp1.Minus = unary Op1.Minus
pure_op1 POp1.Not = unary Op1.Not
pure_op1 POp1.Bar = unary Op1.Bar
pure_op1 POp1.ToInt = word Fun.ToInt

-- The operator between two operands.
abbrev pub pure_op2 : POp2 → Op2
pure_op2 POp2.Pow = Op2.Pow
pure_op2 POp2.Times = Op2.Times
pure_op2 POp2.Div = Op2.Div
pure_op2 POp2.Mod = Op2.Mod
pure_op2 POp2.Plus = Op2.Plus
pure_op2 POp2.Minus = Op2.Minus
pure_op2 POp2.Eq = Op2.Eq
pure_op2 POp2.Ne = Op2.Ne
pure_op2 POp2.Lt = Op2.Lt
pure_op2 POp2.Le = Op2.Le
pure_op2 POp2.Gt = Op2.Gt
pure_op2 POp2.Ge = Op2.Ge
pure_op2 POp2.LexLt = Op2.LexLt
pure_op2 POp2.LexLe = Op2.LexLe
pure_op2 POp2.LexGt = Op2.LexGt
pure_op2 POp2.LexGe = Op2.LexGe
pure_op2 POp2.And = Op2.And
pure_op2 POp2.Or = Op2.Or
pure_op2 POp2.Implies = Op2.Implies
pure_op2 POp2.Iff = Op2.Iff

-- The word over a list.
abbrev pub pure_fun : PFun → Fun
pure_fun PFun.And = Fun.And
pure_fun PFun.Or = Fun.Or
pure_fun PFun.Sum = Fun.Sum
pure_fun PFun.Product = Fun.Product
pure_fun PFun.Min = Fun.Min
pure_fun PFun.Max = Fun.Max
pure_fun PFun.AllDiff = Fun.AllDiff

-- ---- what the parts become

-- The form of a range with its bounds.
abbrev pub Bounds : Type 0
Bounds = Ends × List pure.Ex

-- A generator or a condition by itself.
pub data Item : Type 0 where
  over_item : Text → pure.Dom → Item
  cond_item : pure.Ex → Item

-- Several expressions.
abbrev pub exs_of : List pure.Ex → pure.Exs
exs_of [] = no_exs
exs_of (e ∷ es) = more_exs e (exs_of es)

-- Generators and conditions, from left to right.
abbrev pub gens_of : List Item → pure.Gens
gens_of [] = no_gens
gens_of (over_item a d ∷ gs) = over (name_pat a) d (gens_of gs)
gens_of (cond_item e ∷ gs) = cond e (gens_of gs)

-- What stands for a bound that is missing where both are: a view of a domain without a meaning, which has none itself.
abbrev pub no_bound : pure.Ex
no_bound = seen_ex (repr ReprKind.Atom no_reprs) (int_dom (both_ends ∷ []) no_exs) [] no_exs

-- A range. One without bounds is none of the grammar: it counts as one whose bounds have no meaning.
abbrev pub span : Option pure.Ex → Option pure.Ex → Bounds
span None None = (both_ends, no_bound ∷ no_bound ∷ [])
span None (Some b) = (high_end, b ∷ [])
span (Some a) None = (low_end, a ∷ [])
span (Some a) (Some b) = (both_ends, a ∷ b ∷ [])

-- An int domain of ranges.
abbrev pub int_of : List Bounds → pure.Dom
int_of rs = int_dom (map (λ r. r.0) rs) (exs_of (append_all (map (λ r. r.1) rs)))

-- ---- one layer of each, with what its parts become in their places

abbrev pub ex_step : Scope → PEx-F pure.Dom pure.Ex Item pure.Ex Bounds → pure.Ex
ex_step s (PEx-F.Num n) = number_ex n
ex_step s (PEx-F.Truth b) = truth_ex b
ex_step s (PEx-F.Name a) = name_ex a
ex_step s (PEx-F.Cell a es) = cell_ex (is_truth_table s a) a (exs_of es)
ex_step s (PEx-F.PEx::One o e) = plain_node (pure_op1 o) (more_exs e no_exs)
ex_step s (PEx-F.Two o a b) = plain_node (binary (pure_op2 o)) (more_exs a (more_exs b no_exs))
ex_step s (PEx-F.Fold f l) = plain_node (word (pure_fun f)) (more_exs l no_exs)
ex_step s (PEx-F.Lex o a b) = plain_node (binary (pure_op2 o)) (more_exs a (more_exs b no_exs))

abbrev pub list_step : PList-F pure.Dom pure.Ex Item pure.Ex Bounds → pure.Ex
list_step (PList-F.Items es) = node_ex false matrix_literal (exs_of es)
list_step (PList-F.Comp e gs) = comp_ex e (gens_of gs)

abbrev pub gen_step : PGen-F pure.Dom pure.Ex Item pure.Ex Bounds → Item
gen_step (PGen-F.Over a d) = over_item a d
gen_step (PGen-F.If e) = cond_item e

abbrev pub dom_step : PDom-F pure.Dom pure.Ex Item pure.Ex Bounds → pure.Dom
dom_step PDom-F.Bool = bool_dom
dom_step (PDom-F.Int rs) = int_of rs

abbrev pub range_step : PRange-F pure.Dom pure.Ex Item pure.Ex Bounds → Bounds
range_step (PRange-F.PRange::One e) = (one_value, e ∷ [])
range_step (PRange-F.Span a b) = span a b

-- ---- the pure trees

-- The pure tree of an expression, where earlier lines declare s.
abbrev pub pure_ex : Scope → PEx → pure.Ex
pure_ex s = fold-PEx pure.Dom pure.Ex Item pure.Ex Bounds dom_step (ex_step s) gen_step list_step range_step

-- The pure tree of a list.
abbrev pub pure_list : Scope → PList → pure.Ex
pure_list s = fold-PList pure.Dom pure.Ex Item pure.Ex Bounds dom_step (ex_step s) gen_step list_step range_step

-- The pure tree of a generator or condition.
abbrev pub pure_gen : Scope → PGen → Item
pure_gen s = fold-PGen pure.Dom pure.Ex Item pure.Ex Bounds dom_step (ex_step s) gen_step list_step range_step

-- The pure tree of a domain.
abbrev pub pure_dom : Scope → PDom → pure.Dom
pure_dom s = fold-PDom pure.Dom pure.Ex Item pure.Ex Bounds dom_step (ex_step s) gen_step list_step range_step

-- The form of a range with its bounds.
abbrev pub pure_range : Scope → PRange → Bounds
pure_range s = fold-PRange pure.Dom pure.Ex Item pure.Ex Bounds dom_step (ex_step s) gen_step list_step range_step

-- ---- models

-- The declared table of a declaration.
abbrev pub pure_decl : Scope → PDecl → TableDecl
pure_decl s d = record { name = d.name; axes = map (pure_dom s) d.axes; cell = pure_dom s d.cell }

-- Declarations in scopes that grow from line to line.
abbrev pub pure_decls : (Scope → TableDecl → Scope) → Scope → List PDecl → List TableDecl
pure_decls add s [] = []
pure_decls add s (d ∷ ds) = let t : TableDecl = pure_decl s d in t ∷ pure_decls add (add s t) ds

-- The objective.
abbrev pub pure_goal : Scope → PGoal → Goal
pure_goal s Free = no_goal
pure_goal s (Minimise e) = least (pure_ex s e)
pure_goal s (Maximise e) = greatest (pure_ex s e)

-- What the givens of a model declare.
abbrev pub scope_of_givens : PModel → Scope
scope_of_givens m = scope_behind with_given empty_scope (pure_decls with_given empty_scope m.givens)

-- What all lines of a model declare.
abbrev pub scope_of : PModel → Scope
scope_of m = let s : Scope = scope_of_givens m in scope_behind with_find s (pure_decls with_find s m.finds)

-- The model: its declared tables, its objective and its constraints.
abbrev pub pure_model : PModel → Model
pure_model m = record {
  givens = pure_decls with_given empty_scope m.givens;
  finds = pure_decls with_find (scope_of_givens m) m.finds;
  goal = pure_goal (scope_of m) m.goal;
  rules = map (pure_ex (scope_of m)) m.rules;
}
