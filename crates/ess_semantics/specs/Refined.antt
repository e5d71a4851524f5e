-- Refined expressions: those that a model can have once positions stand for the values of named types. Neither a view nor
-- an abstract operator is left.
use Rattle.std.specs.Prelude.{Bool, true, false, ◌&&◌, ◌||◌}
use Rattle.ess_semantics.specs.declared.words.Op2.{Op2}
use Rattle.ess_semantics.specs.declared.words.Fun.{Fun}
use Rattle.ess_semantics.specs.Trees.{Op, unary, binary, word, matrix_literal, is_truth_op, name_pat, Ex, Exs, number_ex, truth_ex, name_ex, node_ex, comp_ex, cell_ex, no_exs, more_exs, Gens, no_gens, over, cond, bool_dom, int_dom, name_dom}
use Rattle.ess_semantics.specs.Operators.{iff}
use Rattle.ess_semantics.specs.Kinds.{is_bounded}

-- The operators of models on numbers and truth values.
abbrev pub is_scalar_op : Op → Bool
is_scalar_op (unary o) = true
is_scalar_op (binary Op2.Pow) = true
is_scalar_op (binary Op2.Times) = true
is_scalar_op (binary Op2.Div) = true
is_scalar_op (binary Op2.Mod) = true
is_scalar_op (binary Op2.Plus) = true
is_scalar_op (binary Op2.Minus) = true
is_scalar_op (binary Op2.Eq) = true
is_scalar_op (binary Op2.Ne) = true
is_scalar_op (binary Op2.Lt) = true
is_scalar_op (binary Op2.Le) = true
is_scalar_op (binary Op2.Gt) = true
is_scalar_op (binary Op2.Ge) = true
is_scalar_op (binary Op2.And) = true
is_scalar_op (binary Op2.Or) = true
is_scalar_op (binary Op2.Implies) = true
is_scalar_op (binary Op2.Iff) = true
is_scalar_op (word Fun.ToInt) = true
is_scalar_op op = false

-- The operators of models on lists.
abbrev pub is_list_op : Op → Bool
is_list_op (binary Op2.LexLt) = true
is_list_op (binary Op2.LexLe) = true
is_list_op (binary Op2.LexGt) = true
is_list_op (binary Op2.LexGe) = true
is_list_op (word Fun.And) = true
is_list_op (word Fun.Or) = true
is_list_op (word Fun.Sum) = true
is_list_op (word Fun.Product) = true
is_list_op (word Fun.Min) = true
is_list_op (word Fun.Max) = true
is_list_op (word Fun.AllDiff) = true
is_list_op op = false

abbrev mutual
  -- A number, a truth value, a name, a cell, or an operator of models, which is Boolean where it gives truth values.
  pub is_refined : Ex → Bool
  is_refined (number_ex n) = true
  is_refined (truth_ex b) = true
  is_refined (name_ex a) = true
  is_refined (cell_ex b n es) = are_refined es
  is_refined (node_ex b op es) = iff b (is_truth_op op) && ((is_scalar_op op && are_refined es) || (is_list_op op && are_refined_lists es))
  is_refined e = false

  -- The same of operands.
  pub are_refined : Exs → Bool
  are_refined no_exs = true
  are_refined (more_exs e es) = is_refined e && are_refined es

  -- A comprehension, or a list literal.
  pub is_refined_list : Ex → Bool
  is_refined_list (comp_ex e gs) = is_refined e && are_refined_gens gs
  is_refined_list (node_ex false matrix_literal es) = are_refined es
  is_refined_list e = false

  -- The same of operands that are lists.
  pub are_refined_lists : Exs → Bool
  are_refined_lists no_exs = true
  are_refined_lists (more_exs e es) = is_refined_list e && are_refined_lists es

  -- Generators bind single names over bool, over bounded ranges, or over a named type, which becomes a range.
  pub are_refined_gens : Gens → Bool
  are_refined_gens no_gens = true
  are_refined_gens (over (name_pat a) bool_dom gs) = are_refined_gens gs
  are_refined_gens (over (name_pat a) (name_dom t) gs) = are_refined_gens gs
  are_refined_gens (over (name_pat a) (int_dom rs es) gs) = is_bounded rs && are_refined es && are_refined_gens gs
  are_refined_gens (cond e gs) = is_refined e && are_refined_gens gs
  are_refined_gens gs = false
