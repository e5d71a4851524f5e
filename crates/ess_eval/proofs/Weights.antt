-- How much there is to evaluate.
use Rattle.std.proofs.Common.{ℕ, ◌+◌, ◌<◌, length, arith}
use Rattle.ess_core.specs.TreeViews.{pure_ex, pure_pair_ex}
use Rattle.ess_core.specs.declared.expressions.PairEx.{PairEx}
use Rattle.ess_core.specs.declared.domains.Dom.TheViews.{out-PairEx}
use Rattle.ess_core.proofs.PartEquations.{pure_pair_ex_is}
use Rattle.ess_semantics.specs.Trees.{Op, index, Ex, Exs, number_ex, truth_ex, name_ex, node_ex, matrix_ex, comp_ex, cell_ex, seen_ex, no_exs, more_exs, Gens, no_gens, over, from, cond, Dom, Doms, bool_dom, int_dom, name_dom, tuple_dom, record_dom, matrix_dom, set_dom, mset_dom, function_dom, relation_dom, partition_dom, no_doms, more_doms}

-- The steps of an index.
abbrev pub steps_of : Op → ℕ
steps_of (index qs) = length qs
steps_of op = 0

abbrev mutual
  -- Of an expression, and of several; of generators; of a domain, and of several.
  pub weight : Ex → ℕ
  weight (number_ex n) = 1
  weight (truth_ex b) = 1
  weight (name_ex a) = 1
  weight (node_ex b op es) = 4 + steps_of op + weights es
  weight (matrix_ex es d) = 4 + weights es + weight_dom d
  weight (comp_ex e gs) = 4 + weight e + weight_gens gs
  weight (cell_ex b n es) = 4 + weights es
  weight (seen_ex r d ns es) = 4 + weight_dom d + weights es

  pub weights : Exs → ℕ
  weights no_exs = 0
  weights (more_exs e es) = 2 + weight e + weights es

  pub weight_gens : Gens → ℕ
  weight_gens no_gens = 0
  weight_gens (over p d gs) = 6 + weight_dom d + weight_gens gs
  weight_gens (from p e gs) = 6 + weight e + weight_gens gs
  weight_gens (cond e gs) = 2 + weight e + weight_gens gs

  pub weight_dom : Dom → ℕ
  weight_dom bool_dom = 1
  weight_dom (int_dom rs es) = 4 + length rs + weights es
  weight_dom (name_dom a) = 1
  weight_dom (tuple_dom ds) = 4 + weight_doms ds
  weight_dom (record_dom fs ds) = 4 + weight_doms ds
  weight_dom (matrix_dom is d) = 4 + weight_doms is + weight_dom d
  weight_dom (set_dom ms es d) = 4 + length ms + weights es + weight_dom d
  weight_dom (mset_dom ms es d) = 4 + length ms + weights es + weight_dom d
  weight_dom (function_dom ms es d c) = 4 + length ms + weights es + weight_dom d + weight_dom c
  weight_dom (relation_dom ms es ds) = 4 + length ms + weights es + weight_doms ds
  weight_dom (partition_dom ms es d) = 4 + length ms + weights es + weight_dom d

  pub weight_doms : Doms → ℕ
  weight_doms no_doms = 0
  weight_doms (more_doms d ds) = 2 + weight_dom d + weight_doms ds

-- Of a literal, less than its weight and more than that of its parts.
abbrev pub weight_inside : Ex → ℕ
weight_inside (node_ex b op es) = 3 + steps_of op + weights es
weight_inside (matrix_ex es d) = 3 + weights es + weight_dom d
weight_inside e = 0

-- The parts of a pair weigh less than the pair.
pub lighter_from : (p : PairEx) → weight (pure_ex (out-PairEx p).from) < weight (pure_pair_ex p)
lighter_from p = rw (pure_pair_ex_is p) (omega arith)

pub lighter_to : (p : PairEx) → weight (pure_ex (out-PairEx p).to) < weight (pure_pair_ex p)
lighter_to p = rw (pure_pair_ex_is p) (omega arith)

-- What counts for a literal weighs less than the expression.
pub lighter_inside : (e : Ex) → weight_inside e < weight e
lighter_inside (number_ex n) = omega arith
lighter_inside (truth_ex b) = omega arith
lighter_inside (name_ex a) = omega arith
lighter_inside (node_ex b op es) = omega arith
lighter_inside (matrix_ex es d) = omega arith
lighter_inside (comp_ex e gs) = omega arith
lighter_inside (cell_ex b n es) = omega arith
lighter_inside (seen_ex r d ns es) = omega arith
