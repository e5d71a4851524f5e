-- How much of a tree is left to look at.
use Rattle.std.proofs.Common.{ℕ, ◌+◌}
use Rattle.ess_semantics.specs.Trees.{Ex, Exs, number_ex, truth_ex, name_ex, node_ex, matrix_ex, comp_ex, cell_ex, seen_ex, no_exs, more_exs}
use Rattle.ess_semantics.specs.Trees.{Gens, no_gens, over, from, cond, Dom, Doms, bool_dom, int_dom, name_dom, tuple_dom, record_dom, matrix_dom}
use Rattle.ess_semantics.specs.Trees.{set_dom, mset_dom, function_dom, relation_dom, partition_dom, no_doms, more_doms}

abbrev mutual
  -- Of an expression, and of several; of generators; of a domain, and of several.
  pub weight : Ex → ℕ
  weight (number_ex n) = 1
  weight (truth_ex b) = 1
  weight (name_ex a) = 1
  weight (node_ex b op es) = 6 + weights es
  weight (matrix_ex es d) = 6 + weights es + weight_dom d
  weight (comp_ex e gs) = 6 + weight e + weight_gens gs
  weight (cell_ex b n es) = 6 + weights es
  weight (seen_ex r d ns es) = 6 + weight_dom d + weights es

  pub weights : Exs → ℕ
  weights no_exs = 0
  weights (more_exs e es) = 2 + weight e + weights es

  pub weight_gens : Gens → ℕ
  weight_gens no_gens = 0
  weight_gens (over p d gs) = 4 + weight_dom d + weight_gens gs
  weight_gens (from p e gs) = 4 + weight e + weight_gens gs
  weight_gens (cond e gs) = 4 + weight e + weight_gens gs

  pub weight_dom : Dom → ℕ
  weight_dom bool_dom = 1
  weight_dom (int_dom rs es) = 6 + weights es
  weight_dom (name_dom a) = 1
  weight_dom (tuple_dom ds) = 6 + weight_doms ds
  weight_dom (record_dom fs ds) = 6 + weight_doms ds
  weight_dom (matrix_dom is d) = 6 + weight_doms is + weight_dom d
  weight_dom (set_dom ms es d) = 6 + weights es + weight_dom d
  weight_dom (mset_dom ms es d) = 6 + weights es + weight_dom d
  weight_dom (function_dom ms es d c) = 6 + weights es + weight_dom d + weight_dom c
  weight_dom (relation_dom ms es ds) = 6 + weights es + weight_doms ds
  weight_dom (partition_dom ms es d) = 6 + weights es + weight_dom d

  pub weight_doms : Doms → ℕ
  weight_doms no_doms = 0
  weight_doms (more_doms d ds) = 2 + weight_dom d + weight_doms ds
