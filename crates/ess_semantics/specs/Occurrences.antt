-- The parts of an expression, without regard to meaning.
use Rattle.std.specs.Prelude.{Bool, true, false, not, List, [], ◌∷◌, ◌++◌}
use Rattle.std.specs.List.{list_any}
use Rattle.ess_semantics.specs.Values.{Text}
use Rattle.ess_semantics.specs.Order.{same_text}
use Rattle.ess_semantics.specs.Trees.{Ex, Exs, number_ex, truth_ex, name_ex, node_ex, matrix_ex, comp_ex, cell_ex, seen_ex, no_exs, more_exs, Gens, no_gens, over, from, cond, Dom, Doms, bool_dom, int_dom, name_dom, tuple_dom, record_dom, matrix_dom, set_dom, mset_dom, function_dom, relation_dom, partition_dom, no_doms, more_doms}

abbrev mutual
  -- The expression itself and all of its parts, those in domains and generators included.
  pub parts_of : Ex → List Ex
  parts_of (number_ex n) = number_ex n ∷ []
  parts_of (truth_ex b) = truth_ex b ∷ []
  parts_of (name_ex a) = name_ex a ∷ []
  parts_of (node_ex b op es) = node_ex b op es ∷ parts_of_all es
  parts_of (matrix_ex es d) = matrix_ex es d ∷ parts_of_all es ++ parts_of_dom d
  parts_of (comp_ex e gs) = comp_ex e gs ∷ parts_of e ++ parts_of_gens gs
  parts_of (cell_ex b n es) = cell_ex b n es ∷ parts_of_all es
  parts_of (seen_ex r d ns es) = seen_ex r d ns es ∷ parts_of_dom d ++ parts_of_all es

  -- The parts of operands.
  pub parts_of_all : Exs → List Ex
  parts_of_all no_exs = []
  parts_of_all (more_exs e es) = parts_of e ++ parts_of_all es

  -- The parts of generators.
  pub parts_of_gens : Gens → List Ex
  parts_of_gens no_gens = []
  parts_of_gens (over p d gs) = parts_of_dom d ++ parts_of_gens gs
  parts_of_gens (from p e gs) = parts_of e ++ parts_of_gens gs
  parts_of_gens (cond e gs) = parts_of e ++ parts_of_gens gs

  -- The parts of a domain.
  pub parts_of_dom : Dom → List Ex
  parts_of_dom bool_dom = []
  parts_of_dom (int_dom rs es) = parts_of_all es
  parts_of_dom (name_dom a) = []
  parts_of_dom (tuple_dom ds) = parts_of_doms ds
  parts_of_dom (record_dom fs ds) = parts_of_doms ds
  parts_of_dom (matrix_dom is d) = parts_of_doms is ++ parts_of_dom d
  parts_of_dom (set_dom ms es d) = parts_of_all es ++ parts_of_dom d
  parts_of_dom (mset_dom ms es d) = parts_of_all es ++ parts_of_dom d
  parts_of_dom (function_dom ms es d c) = parts_of_all es ++ parts_of_dom d ++ parts_of_dom c
  parts_of_dom (relation_dom ms es ds) = parts_of_all es ++ parts_of_doms ds
  parts_of_dom (partition_dom ms es d) = parts_of_all es ++ parts_of_dom d

  -- The parts of several domains.
  pub parts_of_doms : Doms → List Ex
  parts_of_doms no_doms = []
  parts_of_doms (more_doms d ds) = parts_of_dom d ++ parts_of_doms ds

-- Whether the expression is this name.
abbrev pub is_name : Text → Ex → Bool
is_name a (name_ex b) = same_text a b
is_name a _ = false

-- Whether none of the names stands in the expressions.
abbrev pub free_of : List Text → Exs → Bool
free_of ns es = not (list_any (λ a. list_any (is_name a) (parts_of_all es)) ns)

-- Whether the expression is a cell or a view.
abbrev pub is_cell_or_view : Ex → Bool
is_cell_or_view (cell_ex b n es) = true
is_cell_or_view (seen_ex r d ns es) = true
is_cell_or_view _ = false

-- Whether the expression reads a table.
abbrev pub has_cells : Ex → Bool
has_cells e = list_any is_cell_or_view (parts_of e)
