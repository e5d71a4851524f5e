-- Which refined trees are expressions of models, where earlier lines declare names: those that the trees of models stand for. An
-- operator has its operands, a generator runs over a range and not over a named type, and a cell is a truth value where its table
-- has truth values.
use Rattle.std.specs.Prelude.{Bool, true, false, ◌&&◌, ◌||◌, not, if◌then◌else◌}
use Rattle.ess_semantics.specs.declared.words.Fun.{Fun}
use Rattle.ess_semantics.specs.Kinds.{is_bounded}
use Rattle.ess_semantics.specs.Trees.{Op, unary, binary, word, matrix_literal, is_truth_op, name_pat, Ex, Exs, number_ex, truth_ex, name_ex, node_ex, comp_ex, cell_ex, no_exs, more_exs, Gens, no_gens, over, cond, Dom, bool_dom, int_dom}
use Rattle.ess_grammar.specs.Readable.{fit_ranges}
use Rattle.ess_grammar.specs.Models.{Scope, is_truth_table, is_plain_operator, is_lex_operator, is_fold, same_truth}

-- Operators of models over one expression.
abbrev pub is_prefix : Op → Bool
is_prefix (unary o) = true
is_prefix (word Fun.ToInt) = true
is_prefix op = false

-- Words over one list.
abbrev pub is_over_list : Op → Bool
is_over_list (word f) = is_fold f
is_over_list op = false

-- Operators between two expressions.
abbrev pub is_infix : Op → Bool
is_infix (binary o) = is_plain_operator o
is_infix op = false

-- Signs between two lists.
abbrev pub is_lex : Op → Bool
is_lex (binary o) = is_lex_operator o
is_lex op = false

abbrev mutual
  -- Whether the tree is an expression of a model, where earlier lines declare s.
  pub is_lowerable : Scope → Ex → Bool
  is_lowerable s (number_ex n) = true
  is_lowerable s (truth_ex b) = true
  is_lowerable s (name_ex a) = true
  is_lowerable s (cell_ex b a es) = same_truth b (is_truth_table s a) && are_lowerable s es
  is_lowerable s (node_ex b op es) = same_truth b (is_truth_op op) && has_lowerable s op es
  is_lowerable s e = false

  -- Whether an operator of models has these operands: one or two expressions, or one or two lists.
  pub has_lowerable : Scope → Op → Exs → Bool
  has_lowerable s op (more_exs a no_exs) = if is_prefix op then is_lowerable s a else (is_over_list op && is_lowerable_list s a)
  has_lowerable s op (more_exs a (more_exs b no_exs)) =
      if is_infix op then is_lowerable s a && is_lowerable s b else (is_lex op && (is_lowerable_list s a && is_lowerable_list s b))
  has_lowerable s op es = false

  -- Whether all are expressions of a model.
  pub are_lowerable : Scope → Exs → Bool
  are_lowerable s no_exs = true
  are_lowerable s (more_exs e es) = is_lowerable s e && are_lowerable s es

  -- Whether the tree is a list: items, or a comprehension.
  pub is_lowerable_list : Scope → Ex → Bool
  is_lowerable_list s (node_ex b matrix_literal es) = not b && are_lowerable s es
  is_lowerable_list s (comp_ex e gs) = is_lowerable s e && are_lowerable_gens s gs
  is_lowerable_list s e = false

  -- Whether they are conditions, and generators of single names over bool or bounded ranges.
  pub are_lowerable_gens : Scope → Gens → Bool
  are_lowerable_gens s no_gens = true
  are_lowerable_gens s (over (name_pat a) d gs) = is_lowerable_dom s false d && are_lowerable_gens s gs
  are_lowerable_gens s (cond e gs) = is_lowerable s e && are_lowerable_gens s gs
  are_lowerable_gens s gs = false

  -- Whether the tree is bool, or int with the bounds of its ranges, of which one may be left out where h is true.
  pub is_lowerable_dom : Scope → Bool → Dom → Bool
  is_lowerable_dom s h bool_dom = true
  is_lowerable_dom s h (int_dom rs es) = (h || is_bounded rs) && (fit_ranges rs es && are_lowerable s es)
  is_lowerable_dom s h d = false
