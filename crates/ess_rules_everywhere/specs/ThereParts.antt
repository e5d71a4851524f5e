-- Numbers that are there everywhere, by the operator: one on numbers, one on a list of numbers, or another.
use Rattle.std.specs.Prelude.{false, if◌then◌else◌}
use Rattle.ess_semantics.specs.Trees.{matrix_literal, Ex, Exs, node_ex, comp_ex, no_exs, more_exs, Gens, no_gens, over, from, cond, Dom, int_dom}
use Rattle.ess_core.specs.TreeViews.{Item, over_item, from_item, cond_item}
use Rattle.ess_rules_everywhere.specs.NumberNodes.{is_number_op, is_fold_op, guarded_op, folded_op}

abbrev mutual
  -- The number that is there everywhere.
  pub there : Ex → Ex
  there (node_ex false op es) =
      if is_number_op op es then guarded_op op (all_there es)
      else if is_fold_op op es then folded_op op (lists_there es) else node_ex false op es
  there e = e

  -- The same of a list of numbers.
  pub list_there : Ex → Ex
  list_there (comp_ex e gs) = comp_ex (there e) (gens_there gs)
  list_there (node_ex false matrix_literal es) = node_ex false matrix_literal (all_there es)
  list_there e = e

  -- The same of several numbers.
  pub all_there : Exs → Exs
  all_there no_exs = no_exs
  all_there (more_exs e es) = more_exs (there e) (all_there es)

  -- The same of several lists.
  pub lists_there : Exs → Exs
  lists_there no_exs = no_exs
  lists_there (more_exs e es) = more_exs (list_there e) (lists_there es)

  -- The same of the bounds of generators.
  pub gens_there : Gens → Gens
  gens_there no_gens = no_gens
  gens_there (over p d gs) = over p (dom_there d) (gens_there gs)
  gens_there (from p e gs) = from p e (gens_there gs)
  gens_there (cond c gs) = cond c (gens_there gs)

  -- The same of the bounds of a range.
  pub dom_there : Dom → Dom
  dom_there (int_dom rs es) = int_dom rs (all_there es)
  dom_there d = d

-- The same of the bounds of one generator.
abbrev pub item_there : Item → Item
item_there (over_item p d) = over_item p (dom_there d)
item_there (from_item p e) = from_item p e
item_there (cond_item c) = cond_item c
