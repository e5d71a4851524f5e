-- From a pure tree back to the expression of a model that it stands for, whatever earlier lines declare. Where it stands for none, some
-- other one comes.
use Rattle.std.proofs.Common.{Bool, true, false, List, [], ◌∷◌, map, Option, Some, None}
use Rattle.ess_semantics.specs.declared.words.Op1.{Op1}
use Rattle.ess_semantics.specs.declared.words.Op2.{Op2}
use Rattle.ess_semantics.specs.declared.words.Fun.{Fun}
use Rattle.ess_semantics.specs.Trees.{Ex, Exs, Gens, Dom, Op, unary, binary, word, matrix_literal}
use Rattle.ess_semantics.specs.Trees.{Ends, one_value, both_ends, low_end, high_end}
use Rattle.ess_semantics.specs.Trees.{name_pat, number_ex, truth_ex, name_ex, node_ex, comp_ex, cell_ex, seen_ex, no_exs, more_exs}
use Rattle.ess_semantics.specs.Trees.{no_gens, over, from, cond, int_dom}
use Rattle.ess_semantics.specs.DeclaredTables.{TableDecl}
use Rattle.ess_semantics.specs.ModelTrees.{Goal, no_goal, least, greatest, Model}
use Rattle.ess_semantics.specs.Values.{Text}
use Rattle.eprime_tree.specs.declared.words.POp1.{POp1}
use Rattle.eprime_tree.specs.declared.words.POp2.{POp2}
use Rattle.eprime_tree.specs.declared.words.PFun.{PFun}
use Rattle.eprime_tree.specs.declared.expressions.PDom.{PDom}
use Rattle.eprime_tree.specs.declared.expressions.PEx.{PEx}
use Rattle.eprime_tree.specs.declared.expressions.PGen.{PGen}
use Rattle.eprime_tree.specs.declared.expressions.PList.{PList}
use Rattle.eprime_tree.specs.declared.expressions.PRange.{PRange}
use Rattle.eprime_tree.specs.declared.expressions.PEx.TheVariants as ex
use Rattle.eprime_tree.specs.declared.expressions.PList.TheVariants as list
use Rattle.eprime_tree.specs.declared.expressions.PGen.TheVariants as gen
use Rattle.eprime_tree.specs.declared.expressions.PDom.TheVariants as dom
use Rattle.eprime_tree.specs.declared.expressions.PRange.TheVariants as range
use Rattle.eprime_tree.specs.declared.models.PDecl.{PDecl}
use Rattle.eprime_tree.specs.declared.models.PGoal.{PGoal}
use Rattle.eprime_tree.specs.declared.models.PGoal.TheVariants.{Free, Minimise, Maximise}
use Rattle.eprime_tree.specs.declared.models.PModel.{PModel}

-- ---- operators and words

-- The operator of one operand.
abbrev pub back_op1 : Op1 → POp1
back_op1 Op1.Minus = POp1.Minus
back_op1 Op1.Not = POp1.Not
back_op1 Op1.Bar = POp1.Bar

-- The operator of two operands.
abbrev pub back_op2 : Op2 → POp2
back_op2 Op2.Pow = POp2.Pow
back_op2 Op2.Times = POp2.Times
back_op2 Op2.Div = POp2.Div
back_op2 Op2.Mod = POp2.Mod
back_op2 Op2.Plus = POp2.Plus
back_op2 Op2.Minus = POp2.Minus
back_op2 Op2.Eq = POp2.Eq
back_op2 Op2.Ne = POp2.Ne
back_op2 Op2.Lt = POp2.Lt
back_op2 Op2.Le = POp2.Le
back_op2 Op2.Gt = POp2.Gt
back_op2 Op2.Ge = POp2.Ge
back_op2 Op2.LexLt = POp2.LexLt
back_op2 Op2.LexLe = POp2.LexLe
back_op2 Op2.LexGt = POp2.LexGt
back_op2 Op2.LexGe = POp2.LexGe
back_op2 Op2.And = POp2.And
back_op2 Op2.Or = POp2.Or
back_op2 Op2.Implies = POp2.Implies
back_op2 _ = POp2.Iff

-- The word over a list.
abbrev pub back_fun : Fun → PFun
back_fun Fun.And = PFun.And
back_fun Fun.Or = PFun.Or
back_fun Fun.Sum = PFun.Sum
back_fun Fun.Product = PFun.Product
back_fun Fun.Min = PFun.Min
back_fun Fun.Max = PFun.Max
back_fun _ = PFun.AllDiff

-- ---- what stands at a node, of its operands as expressions and as lists

-- Whether a tree is one of a list.
abbrev pub is_list : Ex → Bool
is_list (node_ex b matrix_literal es) = true
is_list (comp_ex e gs) = true
is_list _ = false

-- Whether the first operand is a list.
abbrev pub begins_with_list : Exs → Bool
begins_with_list no_exs = false
begins_with_list (more_exs e es) = is_list e

-- The bound of a range that stands for e; none where a bound is missing.
abbrev pub bound_of : Ex → PEx → Option PEx
bound_of (seen_ex r d ns es) e = None
bound_of _ e = Some e

-- Some expression, and some list.
abbrev other_ex : PEx
other_ex = ex.Truth false

abbrev other_list : PList
other_list = list.Items []

-- The operator with one operand.
abbrev pub one_of : POp1 → List PEx → PEx
one_of o (e ∷ []) = ex.One o e
one_of o _ = other_ex

-- The word over a list, but `toInt` over an expression.
abbrev pub word_of : Fun → List PEx → List PList → PEx
word_of Fun.ToInt es ls = one_of POp1.ToInt es
word_of f es (l ∷ ls) = ex.Fold (back_fun f) l
word_of f es [] = other_ex

-- The operator between two expressions, or between two lists.
abbrev pub two_of : Bool → POp2 → List PEx → List PList → PEx
two_of false o (a ∷ b ∷ es) ls = ex.Two o a b
two_of true o es (a ∷ b ∷ ls) = ex.Lex o a b
two_of _ o es ls = other_ex

-- What stands at a node with these operands.
abbrev pub node_of : Op → Bool → List PEx → List PList → PEx
node_of (unary o) lists es ls = one_of (back_op1 o) es
node_of (binary o) lists es ls = two_of lists (back_op2 o) es ls
node_of (word f) lists es ls = word_of f es ls
node_of _ lists es ls = other_ex

-- The list at a node with these operands.
abbrev pub items_of : Op → List PEx → PList
items_of matrix_literal es = list.Items es
items_of _ es = other_list

-- The ranges of their forms and of their bounds, which stand one behind the other.
abbrev pub ranges_of : List Ends → List (Option PEx) → List PRange
ranges_of (one_value ∷ rs) (Some e ∷ bs) = range.One e ∷ ranges_of rs bs
ranges_of (both_ends ∷ rs) (a ∷ b ∷ bs) = range.Span a b ∷ ranges_of rs bs
ranges_of (low_end ∷ rs) (a ∷ bs) = range.Span a None ∷ ranges_of rs bs
ranges_of (high_end ∷ rs) (b ∷ bs) = range.Span None b ∷ ranges_of rs bs
ranges_of _ _ = []

-- ---- trees

abbrev mutual
  -- The expression.
  pub back_ex : Ex → PEx
  back_ex (number_ex n) = ex.Num n
  back_ex (truth_ex b) = ex.Truth b
  back_ex (name_ex a) = ex.Name a
  back_ex (node_ex b op es) = node_of op (begins_with_list es) (back_exs es) (back_lists es)
  back_ex (cell_ex b a es) = ex.Cell a (back_exs es)
  back_ex e = other_ex

  -- The list.
  pub back_list : Ex → PList
  back_list (node_ex b op es) = items_of op (back_exs es)
  back_list (comp_ex e gs) = list.Comp (back_ex e) (back_gens gs)
  back_list e = other_list

  -- Several expressions.
  pub back_exs : Exs → List PEx
  back_exs no_exs = []
  back_exs (more_exs e es) = back_ex e ∷ back_exs es

  -- Several lists.
  pub back_lists : Exs → List PList
  back_lists no_exs = []
  back_lists (more_exs e es) = back_list e ∷ back_lists es

  -- The bounds of ranges.
  pub back_bounds : Exs → List (Option PEx)
  back_bounds no_exs = []
  back_bounds (more_exs e es) = bound_of e (back_ex e) ∷ back_bounds es

  -- Generators and conditions.
  pub back_gens : Gens → List PGen
  back_gens no_gens = []
  back_gens (over (name_pat a) d gs) = gen.Over a (back_dom d) ∷ back_gens gs
  back_gens (over p d gs) = back_gens gs
  back_gens (from p e gs) = back_gens gs
  back_gens (cond e gs) = gen.If (back_ex e) ∷ back_gens gs

  -- The domain.
  pub back_dom : Dom → PDom
  back_dom (int_dom rs es) = dom.Int (ranges_of rs (back_bounds es))
  back_dom d = dom.Bool

-- ---- models

-- The declaration.
abbrev pub back_decl : TableDecl → PDecl
back_decl t = record { name = t.name; axes = map back_dom t.axes; cell = back_dom t.cell }

-- The objective.
abbrev pub back_goal : Goal → PGoal
back_goal no_goal = Free
back_goal (least e) = Minimise (back_ex e)
back_goal (greatest e) = Maximise (back_ex e)

-- The model with these lines of its header.
abbrev pub back_model : List Text → Model → PModel
back_model head m = record {
  head = head;
  givens = map back_decl m.givens;
  finds = map back_decl m.finds;
  goal = back_goal m.goal;
  rules = map back_ex m.rules;
}
