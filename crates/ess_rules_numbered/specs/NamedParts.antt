-- Where a name stands, part by part.
use Rattle.std.specs.Prelude.{Bool, false, ◌||◌, List, [], ◌∷◌}
use Rattle.ess_semantics.specs.Values.{Text}
use Rattle.ess_semantics.specs.Order.{same_text}
use Rattle.ess_semantics.specs.Trees.{Ex, Exs, number_ex, truth_ex, name_ex, node_ex, matrix_ex, comp_ex, cell_ex, seen_ex, no_exs, more_exs, Gens, no_gens, over, from, cond, Dom, Doms, bool_dom, int_dom, name_dom, tuple_dom, record_dom, matrix_dom, set_dom, mset_dom, function_dom, relation_dom, partition_dom, no_doms, more_doms}
use Rattle.ess_core.specs.TreeViews.{Item, over_item, from_item, cond_item}

abbrev mutual
  -- Whether the expression is the name, or one of its parts has it.
  pub names : Text → Ex → Bool
  names a (number_ex n) = false
  names a (truth_ex b) = false
  names a (name_ex b) = same_text a b
  names a (node_ex b op es) = any_names a es
  names a (matrix_ex es d) = any_names a es || dom_names a d
  names a (comp_ex e gs) = names a e || gens_name a gs
  names a (cell_ex b n es) = any_names a es
  names a (seen_ex r d ns es) = dom_names a d || any_names a es

  -- Whether one of the operands does.
  pub any_names : Text → Exs → Bool
  any_names a no_exs = false
  any_names a (more_exs e es) = names a e || any_names a es

  -- Whether one of the generators and conditions does.
  pub gens_name : Text → Gens → Bool
  gens_name a no_gens = false
  gens_name a (over p d gs) = dom_names a d || gens_name a gs
  gens_name a (from p e gs) = names a e || gens_name a gs
  gens_name a (cond e gs) = names a e || gens_name a gs

  -- Whether an expression in the domain does.
  pub dom_names : Text → Dom → Bool
  dom_names a bool_dom = false
  dom_names a (int_dom rs es) = any_names a es
  dom_names a (name_dom b) = false
  dom_names a (tuple_dom ds) = doms_name a ds
  dom_names a (record_dom fs ds) = doms_name a ds
  dom_names a (matrix_dom is d) = doms_name a is || dom_names a d
  dom_names a (set_dom ms es d) = any_names a es || dom_names a d
  dom_names a (mset_dom ms es d) = any_names a es || dom_names a d
  dom_names a (function_dom ms es d c) = any_names a es || dom_names a d || dom_names a c
  dom_names a (relation_dom ms es ds) = any_names a es || doms_name a ds
  dom_names a (partition_dom ms es d) = any_names a es || dom_names a d

  -- Whether one of the domains does.
  pub doms_name : Text → Doms → Bool
  doms_name a no_doms = false
  doms_name a (more_doms d ds) = dom_names a d || doms_name a ds

-- Whether a generator or condition does.
abbrev pub item_names : Text → Item → Bool
item_names a (over_item p d) = dom_names a d
item_names a (from_item p e) = names a e
item_names a (cond_item e) = names a e

-- Whether one of them does.
abbrev pub any_item_names : Text → List Item → Bool
any_item_names a [] = false
any_item_names a (i ∷ is) = item_names a i || any_item_names a is
