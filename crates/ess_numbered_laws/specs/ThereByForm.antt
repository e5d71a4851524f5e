-- Numbers that have a value whatever guards them, as their forms tell: so a condition above them may be left out.
use Rattle.std.specs.Prelude.{Bool, true, false, ◌&&◌}
use Rattle.ess_semantics.specs.declared.words.Op1.{Op1}
use Rattle.ess_semantics.specs.declared.words.Op2.{Op2}
use Rattle.ess_semantics.specs.declared.words.Fun.{Fun}
use Rattle.ess_semantics.specs.Trees.{Op, unary, binary, word, matrix_literal, Ex, Exs, number_ex, truth_ex, name_ex, node_ex, matrix_ex, comp_ex, cell_ex, seen_ex, no_exs, more_exs, Gens, no_gens, over, from, cond, Dom, Doms, bool_dom, int_dom, name_dom, tuple_dom, record_dom, no_doms, more_doms}

-- Whether the operator has a value wherever its operands have: `-`, `+`, `*`, a list and its sum.
abbrev pub adds_up : Op → Bool
adds_up (unary Op1.Minus) = true
adds_up (binary Op2.Plus) = true
adds_up (binary Op2.Minus) = true
adds_up (binary Op2.Times) = true
adds_up (word Fun.Sum) = true
adds_up matrix_literal = true
adds_up op = false

-- Whether there are no indices.
abbrev pub are_none : Exs → Bool
are_none no_exs = true
are_none (more_exs e es) = false

abbrev mutual
  -- Whether the number has a value by its form: one of numerals, names and tables without indices, at domains whose bounds are so.
  pub is_there : Ex → Bool
  is_there (number_ex n) = true
  is_there (truth_ex b) = true
  is_there (name_ex a) = true
  is_there (node_ex b op es) = adds_up op && are_there es
  is_there (matrix_ex es d) = false
  is_there (comp_ex e gs) = is_there e && gens_there gs
  is_there (cell_ex b n es) = are_none es
  is_there (seen_ex r d ns es) = are_none es

  -- The same of several numbers.
  pub are_there : Exs → Bool
  are_there no_exs = true
  are_there (more_exs e es) = is_there e && are_there es

  -- The same of the bounds of generators. Conditions are truth values, which are there always.
  pub gens_there : Gens → Bool
  gens_there no_gens = true
  gens_there (over p d gs) = dom_there d && gens_there gs
  gens_there (from p e gs) = false
  gens_there (cond e gs) = gens_there gs

  -- The same of the bounds of a domain.
  pub dom_there : Dom → Bool
  dom_there bool_dom = true
  dom_there (name_dom a) = true
  dom_there (int_dom rs es) = are_there es
  dom_there (tuple_dom ds) = doms_there ds
  dom_there (record_dom fs ds) = doms_there ds
  dom_there d = false

  -- The same of several domains.
  pub doms_there : Doms → Bool
  doms_there no_doms = true
  doms_there (more_doms d ds) = dom_there d && doms_there ds
