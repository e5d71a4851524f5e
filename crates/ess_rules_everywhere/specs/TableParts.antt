-- What reads a table, part by part.
use Rattle.std.specs.Prelude.{Bool, true, false, ◌||◌, List, [], ◌∷◌}
use Rattle.ess_semantics.specs.Trees.{Ex, Exs, number_ex, truth_ex, name_ex, node_ex, matrix_ex, comp_ex, cell_ex, seen_ex, no_exs, more_exs, Gens, no_gens, over, from, cond, Dom, Doms, bool_dom, int_dom, name_dom, tuple_dom, record_dom, matrix_dom, set_dom, mset_dom, function_dom, relation_dom, partition_dom, no_doms, more_doms}
use Rattle.ess_core.specs.TreeViews.{Item, over_item, from_item, cond_item}

abbrev mutual
  -- Whether the expression is a cell or a view, or one of its parts reads a table.
  pub reads : Ex → Bool
  reads (number_ex n) = false
  reads (truth_ex b) = false
  reads (name_ex a) = false
  reads (node_ex b op es) = any_reads es
  reads (matrix_ex es d) = any_reads es || dom_reads d
  reads (comp_ex e gs) = reads e || gens_read gs
  reads (cell_ex b n es) = true
  reads (seen_ex r d ns es) = true

  -- Whether one of the operands does.
  pub any_reads : Exs → Bool
  any_reads no_exs = false
  any_reads (more_exs e es) = reads e || any_reads es

  -- Whether one of the generators and conditions does.
  pub gens_read : Gens → Bool
  gens_read no_gens = false
  gens_read (over p d gs) = dom_reads d || gens_read gs
  gens_read (from p e gs) = reads e || gens_read gs
  gens_read (cond e gs) = reads e || gens_read gs

  -- Whether an expression in the domain does.
  pub dom_reads : Dom → Bool
  dom_reads bool_dom = false
  dom_reads (int_dom rs es) = any_reads es
  dom_reads (name_dom a) = false
  dom_reads (tuple_dom ds) = doms_read ds
  dom_reads (record_dom fs ds) = doms_read ds
  dom_reads (matrix_dom is d) = doms_read is || dom_reads d
  dom_reads (set_dom ms es d) = any_reads es || dom_reads d
  dom_reads (mset_dom ms es d) = any_reads es || dom_reads d
  dom_reads (function_dom ms es d c) = any_reads es || dom_reads d || dom_reads c
  dom_reads (relation_dom ms es ds) = any_reads es || doms_read ds
  dom_reads (partition_dom ms es d) = any_reads es || dom_reads d

  -- Whether one of the domains does.
  pub doms_read : Doms → Bool
  doms_read no_doms = false
  doms_read (more_doms d ds) = dom_reads d || doms_read ds

-- Whether a generator or condition does.
abbrev pub item_reads : Item → Bool
item_reads (over_item p d) = dom_reads d
item_reads (from_item p e) = reads e
item_reads (cond_item e) = reads e

-- Whether one of them does.
abbrev pub any_item_reads : List Item → Bool
any_item_reads [] = false
any_item_reads (i ∷ is) = item_reads i || any_item_reads is
