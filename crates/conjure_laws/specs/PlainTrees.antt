-- Trees without cells and views: those of specifications.
use Rattle.ess_semantics.specs.Trees.{Ex, Exs, number_ex, truth_ex, name_ex, node_ex, matrix_ex, comp_ex, cell_ex, seen_ex, no_exs, more_exs, Gens, no_gens, over, from, cond, Dom, Doms, bool_dom, int_dom, name_dom, tuple_dom, record_dom, matrix_dom, set_dom, mset_dom, function_dom, relation_dom, partition_dom, no_doms, more_doms}

abbrev mutual
  -- The expression has neither cells nor views.
  pub Plain : Ex → Type 0
  Plain (number_ex n) = Unit {0}
  Plain (truth_ex b) = Unit {0}
  Plain (name_ex a) = Unit {0}
  Plain (node_ex b op es) = PlainAll es
  Plain (matrix_ex es d) = PlainAll es × PlainDom d
  Plain (comp_ex e gs) = Plain e × PlainGens gs
  Plain (cell_ex b n es) = ⊥
  Plain (seen_ex r d ns es) = ⊥

  -- The same of operands.
  pub PlainAll : Exs → Type 0
  PlainAll no_exs = Unit {0}
  PlainAll (more_exs e es) = Plain e × PlainAll es

  -- The same of generators.
  pub PlainGens : Gens → Type 0
  PlainGens no_gens = Unit {0}
  PlainGens (over p d gs) = PlainDom d × PlainGens gs
  PlainGens (from p e gs) = Plain e × PlainGens gs
  PlainGens (cond e gs) = Plain e × PlainGens gs

  -- The same of a domain.
  pub PlainDom : Dom → Type 0
  PlainDom bool_dom = Unit {0}
  PlainDom (int_dom rs es) = PlainAll es
  PlainDom (name_dom a) = Unit {0}
  PlainDom (tuple_dom ds) = PlainDoms ds
  PlainDom (record_dom fs ds) = PlainDoms ds
  PlainDom (matrix_dom is d) = PlainDoms is × PlainDom d
  PlainDom (set_dom ms es d) = PlainAll es × PlainDom d
  PlainDom (mset_dom ms es d) = PlainAll es × PlainDom d
  PlainDom (function_dom ms es d c) = PlainAll es × PlainDom d × PlainDom c
  PlainDom (relation_dom ms es ds) = PlainAll es × PlainDoms ds
  PlainDom (partition_dom ms es d) = PlainAll es × PlainDom d

  -- The same of several domains.
  pub PlainDoms : Doms → Type 0
  PlainDoms no_doms = Unit {0}
  PlainDoms (more_doms d ds) = PlainDom d × PlainDoms ds
