-- What is asked of expressions: that their types fit, that enumerated types alone are ordered, and that a comprehension
-- without an order stands nowhere where order counts.
use Rattle.std.specs.Prelude.{Bool, true, false, ◌&&◌, ◌||◌, not, List, [], ◌∷◌, is_some}
use Rattle.std.specs.List.{list_all}
use Rattle.ess_semantics.specs.declared.words.Op2.{Op2}
use Rattle.ess_semantics.specs.declared.words.Fun.{Fun}
use Rattle.ess_semantics.specs.Lists.{is_some_and}
use Rattle.ess_semantics.specs.Values.{a_tuple, a_matrix, a_set, a_mset}
use Rattle.ess_semantics.specs.Names.{is_among, all_distinct}
use Rattle.ess_semantics.specs.Trees.{Op, binary, word, record_literal, Pat, Pats, name_pat, tuple_pat, no_pats, more_pats, Ex, Exs, number_ex, truth_ex, name_ex, node_ex, matrix_ex, comp_ex, cell_ex, seen_ex, no_exs, more_exs, Gens, no_gens, over, from, cond, Dom, Doms, bool_dom, int_dom, name_dom, tuple_dom, record_dom, matrix_dom, set_dom, mset_dom, function_dom, relation_dom, partition_dom, no_doms, more_doms}
use Rattle.ess_semantics.specs.Types.{Ty, Tys, any_ty, named_ty, compound, compound1, compound2, no_tys, more_tys, type_of_dom}
use Rattle.ess_semantics.specs.Typing.{type_of, types_of, source_ty}
use Rattle.ess_semantics.specs.Lettings.{field_flags}
use Rattle.ess_semantics.specs.Kinds.{is_atom}
use Rattle.ess_semantics.specs.Scopes.{Scope, with_bound, is_fixed, mentions_finds}

-- ---- the order of named types

-- An operator that compares its operands, or the items of its operands, by order.
abbrev pub compares : Op → Bool
compares (binary Op2.Lt) = true
compares (binary Op2.Le) = true
compares (binary Op2.Gt) = true
compares (binary Op2.Ge) = true
compares (binary Op2.LexLt) = true
compares (binary Op2.LexLe) = true
compares (binary Op2.LexGt) = true
compares (binary Op2.LexGe) = true
compares (word Fun.Min) = true
compares (word Fun.Max) = true
compares op = false

-- A type whose values, or whose members' values, have an order.
abbrev pub is_ordered_ty : Ty → Scope → Bool
is_ordered_ty (named_ty t) s = not (is_among s.unnamed t)
is_ordered_ty (compound2 a_matrix i (named_ty t)) s = not (is_among s.unnamed t)
is_ordered_ty (compound1 a_set (named_ty t)) s = not (is_among s.unnamed t)
is_ordered_ty (compound1 a_mset (named_ty t)) s = not (is_among s.unnamed t)
is_ordered_ty t s = true

-- The values of an unnamed type have no order.
abbrev pub order_fits : Op → Exs → Scope → Bool
order_fits op es s = not (compares op) || list_all (λ t. is_some_and t (λ u. is_ordered_ty u s)) (types_of es s.tys)

-- ---- patterns

abbrev mutual
  -- A tuple of patterns has the length of the tuple that it takes apart.
  pub pattern_fits : Pat → Ty → Bool
  pattern_fits (name_pat a) t = true
  pattern_fits (tuple_pat ps) any_ty = true
  pattern_fits (tuple_pat ps) (compound a_tuple ts) = patterns_fit ps ts
  pattern_fits (tuple_pat ps) t = false

  -- Each pattern fits its type.
  pub patterns_fit : Pats → Tys → Bool
  patterns_fit no_pats no_tys = true
  patterns_fit (more_pats p ps) (more_tys t ts) = pattern_fits p t && patterns_fit ps ts
  patterns_fit ps ts = false

-- ---- each part of an expression

-- What is asked of a part beside its type.
abbrev pub part_fits : Ex → Scope → Bool
part_fits (node_ex b (record_literal fs) es) s = all_distinct fs
part_fits (node_ex b op es) s = order_fits op es s
part_fits (matrix_ex es d) s = is_atom d
part_fits e s = true

-- The part has a type, its fields stand once, and its index domain is a finite atom.
abbrev pub ex_fits : Ex → Scope → Bool
ex_fits e s = is_some (type_of e s.tys) && part_fits e s

-- ---- ordered comprehensions

-- Whether a type is one of lists.
abbrev pub is_list : Ty → Bool
is_list (compound a_matrix ts) = true
is_list any_ty = true
is_list t = false

abbrev mutual
  -- Each generator runs over a domain, a matrix or an ordered comprehension, and each condition is fixed.
  pub are_ordered : Gens → Scope → Bool
  are_ordered no_gens s = true
  are_ordered (over p d gs) s = are_ordered gs (with_bound false p (type_of_dom d) s)
  are_ordered (from p e gs) s = is_ordered_source e s && are_ordered gs (with_bound (mentions_finds e s) p (source_ty e s.tys) s)
  are_ordered (cond e gs) s = is_fixed e s && are_ordered gs s

  -- A source that has an order: a matrix, or an ordered comprehension.
  pub is_ordered_source : Ex → Scope → Bool
  is_ordered_source (comp_ex e gs) s = are_ordered gs s
  is_ordered_source e s = is_some_and (type_of e s.tys) is_list

-- The words in whose operand order doesn't count.
abbrev pub forgets_order : Op → Bool
forgets_order (word Fun.Sum) = true
forgets_order (word Fun.Product) = true
forgets_order (word Fun.And) = true
forgets_order (word Fun.Or) = true
forgets_order (word Fun.Min) = true
forgets_order (word Fun.Max) = true
forgets_order (word Fun.AllDiff) = true
forgets_order (word Fun.ToSet) = true
forgets_order (word Fun.ToMSet) = true
forgets_order op = false

abbrev mutual
  -- Whether each comprehension is ordered that stands where order counts. `counts` says so of the expression's own place;
  -- the source of a generator has the place of its comprehension.
  pub orders_fit : Bool → Ex → Scope → Bool
  orders_fit counts (number_ex n) s = true
  orders_fit counts (truth_ex b) s = true
  orders_fit counts (name_ex a) s = true
  orders_fit counts (node_ex b op es) s = operands_fit (not (forgets_order op)) (field_flags op es s.tys) es s
  orders_fit counts (matrix_ex es d) s = operands_fit true [] es s && dom_orders_fit d s
  orders_fit counts (comp_ex e gs) s = (not counts || are_ordered gs s) && gens_fit counts gs s (orders_fit true e)
  orders_fit counts (cell_ex b n es) s = operands_fit true [] es s
  orders_fit counts (seen_ex r d ns es) s = dom_orders_fit d s && operands_fit true [] es s

  -- The same of operands but fields. `counts` is said of their places.
  pub operands_fit : Bool → List Bool → Exs → Scope → Bool
  operands_fit counts bs no_exs s = true
  operands_fit counts [] (more_exs e es) s = orders_fit counts e s && operands_fit counts [] es s
  operands_fit counts (true ∷ bs) (more_exs e es) s = operands_fit counts bs es s
  operands_fit counts (false ∷ bs) (more_exs e es) s = orders_fit counts e s && operands_fit counts bs es s

  -- The same of generators, and of what stands under them.
  pub gens_fit : Bool → Gens → Scope → (Scope → Bool) → Bool
  gens_fit counts no_gens s k = k s
  gens_fit counts (over p d gs) s k = dom_orders_fit d s && gens_fit counts gs (with_bound false p (type_of_dom d) s) k
  gens_fit counts (from p e gs) s k = orders_fit counts e s && gens_fit counts gs (with_bound (mentions_finds e s) p (source_ty e s.tys) s) k
  gens_fit counts (cond e gs) s k = orders_fit true e s && gens_fit counts gs s k

  -- The same of a domain.
  pub dom_orders_fit : Dom → Scope → Bool
  dom_orders_fit bool_dom s = true
  dom_orders_fit (int_dom rs es) s = operands_fit true [] es s
  dom_orders_fit (name_dom a) s = true
  dom_orders_fit (tuple_dom ds) s = doms_orders_fit ds s
  dom_orders_fit (record_dom fs ds) s = doms_orders_fit ds s
  dom_orders_fit (matrix_dom is d) s = doms_orders_fit is s && dom_orders_fit d s
  dom_orders_fit (set_dom ms es d) s = operands_fit true [] es s && dom_orders_fit d s
  dom_orders_fit (mset_dom ms es d) s = operands_fit true [] es s && dom_orders_fit d s
  dom_orders_fit (function_dom ms es d c) s = operands_fit true [] es s && dom_orders_fit d s && dom_orders_fit c s
  dom_orders_fit (relation_dom ms es ds) s = operands_fit true [] es s && doms_orders_fit ds s
  dom_orders_fit (partition_dom ms es d) s = operands_fit true [] es s && dom_orders_fit d s

  -- The same of several domains.
  pub doms_orders_fit : Doms → Scope → Bool
  doms_orders_fit no_doms s = true
  doms_orders_fit (more_doms d ds) s = dom_orders_fit d s && doms_orders_fit ds s
