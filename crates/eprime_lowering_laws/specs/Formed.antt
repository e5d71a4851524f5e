-- What a refined tree needs to be an expression of a model, where earlier lines declare s: each operator has as many operands as it
-- takes, each range has its bounds, no generator runs over a named type, and each cell is a truth value where its table has truth
-- values.
use Rattle.std.specs.Prelude.{Bool, true, false, ◌&&◌}
use Rattle.ess_semantics.specs.Trees.{Op, unary, binary, word, matrix_literal, Ex, Exs, node_ex, comp_ex, cell_ex, no_exs, more_exs, Gens, no_gens, over, from, cond, int_dom, name_dom}
use Rattle.ess_grammar.specs.Readable.{fit_ranges}
use Rattle.ess_grammar.specs.Models.{Scope, is_truth_table, same_truth}

-- Whether an operator has as many operands as it takes: any number are the items of a list.
abbrev pub has_operands : Op → Exs → Bool
has_operands (unary o) (more_exs a no_exs) = true
has_operands (word f) (more_exs a no_exs) = true
has_operands (binary o) (more_exs a (more_exs b no_exs)) = true
has_operands matrix_literal es = true
has_operands op es = false

abbrev mutual
  -- Whether the tree is formed so.
  pub is_formed : Scope → Ex → Bool
  is_formed s (cell_ex b a es) = same_truth b (is_truth_table s a) && are_formed s es
  is_formed s (node_ex b op es) = has_operands op es && are_formed s es
  is_formed s (comp_ex e gs) = is_formed s e && are_gens_formed s gs
  is_formed s e = true

  -- Whether all are.
  pub are_formed : Scope → Exs → Bool
  are_formed s no_exs = true
  are_formed s (more_exs e es) = is_formed s e && are_formed s es

  -- Whether generators and conditions are.
  pub are_gens_formed : Scope → Gens → Bool
  are_gens_formed s no_gens = true
  are_gens_formed s (over p (int_dom rs es) gs) = (fit_ranges rs es && are_formed s es) && are_gens_formed s gs
  are_gens_formed s (over p (name_dom t) gs) = false
  are_gens_formed s (over p d gs) = are_gens_formed s gs
  are_gens_formed s (from p e gs) = is_formed s e && are_gens_formed s gs
  are_gens_formed s (cond e gs) = is_formed s e && are_gens_formed s gs
