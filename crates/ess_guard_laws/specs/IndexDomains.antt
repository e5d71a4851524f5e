-- The index domain of a matrix term, as its form tells it: of a literal, a comprehension, a declared matrix, and of what an
-- index picks out of one.
use Rattle.std.specs.Prelude.{Bool, true, false, ◌&&◌, if◌then◌else◌, List, [], ◌∷◌, pos, Option, Some, None}
use Rattle.ess_semantics.specs.declared.words.Op1.{Op1}
use Rattle.ess_semantics.specs.declared.words.Op2.{Op2}
use Rattle.ess_semantics.specs.declared.words.Fun.{Fun}
use Rattle.ess_semantics.specs.Trees.{Step, by_value, Op, unary, binary, index, matrix_literal, both_ends, Ex, Exs, number_ex, name_ex, node_ex, matrix_ex, comp_ex, cell_ex, seen_ex, no_exs, more_exs, Dom, Doms, bool_dom, int_dom, name_dom, matrix_dom, no_doms, more_doms, fun1}
use Rattle.ess_semantics.specs.Constants.{operand_count}

-- `int(1..n)`
abbrev pub one_up_to : Ex → Dom
one_up_to n = int_dom (both_ends ∷ []) (more_exs (number_ex (pos 1)) (more_exs n no_exs))

-- ---- the domain that a term follows

-- The domain of the items of a matrix of several index domains, behind the first one.
abbrev pub item_dom : Option Dom → Option Dom
item_dom (Some (matrix_dom (more_doms i (more_doms j is)) d)) = Some (matrix_dom (more_doms j is) d)
item_dom o = None

-- The domain behind several steps by the values of these operands.
abbrev pub dom_behind : Option Dom → List Step → Exs → Option Dom
dom_behind o [] no_exs = o
dom_behind o (by_value ∷ qs) (more_exs i is) = dom_behind (item_dom o) qs is
dom_behind o qs is = None

-- The domain of matrices that the values of a term follow: of a view, and of its rows.
abbrev pub dom_followed : Ex → Option Dom
dom_followed (seen_ex r d ns es) = Some d
dom_followed (node_ex false (index qs) (more_exs m is)) = dom_behind (dom_followed m) qs is
dom_followed e = None

-- The first index domain of a domain of matrices.
abbrev pub first_index : Option Dom → Option Dom
first_index (Some (matrix_dom (more_doms i is) d)) = Some i
first_index o = None

-- ---- plain index domains

abbrev mutual
  -- Numbers, names, cells, and sums, differences and products of these.
  pub is_plain_bound : Ex → Bool
  is_plain_bound (number_ex n) = true
  is_plain_bound (name_ex a) = true
  is_plain_bound (cell_ex b n es) = are_plain_bounds es
  is_plain_bound (node_ex false (unary Op1.Minus) es) = are_plain_bounds es
  is_plain_bound (node_ex false (binary Op2.Plus) es) = are_plain_bounds es
  is_plain_bound (node_ex false (binary Op2.Minus) es) = are_plain_bounds es
  is_plain_bound (node_ex false (binary Op2.Times) es) = are_plain_bounds es
  is_plain_bound e = false

  -- The same of several.
  pub are_plain_bounds : Exs → Bool
  are_plain_bounds no_exs = true
  are_plain_bounds (more_exs e es) = is_plain_bound e && are_plain_bounds es

-- An index domain with such bounds, which binds no names. Only such a one is copied out of a view.
abbrev pub plain_axis : Option Dom → Option Dom
plain_axis (Some bool_dom) = Some bool_dom
plain_axis (Some (int_dom rs es)) = if are_plain_bounds es then Some (int_dom rs es) else None
plain_axis (Some (name_dom a)) = Some (name_dom a)
plain_axis o = None

-- The index domain of a matrix term. Lists are numbered from 1.
abbrev pub index_dom : Ex → Option Dom
index_dom (node_ex false matrix_literal es) = Some (one_up_to (number_ex (pos (operand_count es))))
index_dom (matrix_ex es d) = Some d
index_dom (comp_ex e gs) = Some (one_up_to (fun1 false Fun.Sum (comp_ex (number_ex (pos 1)) gs)))
index_dom m = plain_axis (first_index (dom_followed m))
