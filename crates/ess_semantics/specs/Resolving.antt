-- Resolved trees. What an index, an application or `image` is depends on types: `m[i]` may be an item of a matrix, a
-- component of a tuple or a field of a record, and `f(x)` is Boolean where f gives truth values. In a resolved tree these
-- nodes say so, and the indices that are no values have become steps. An application of a function has become `image`, so
-- that one that is left is of a relation. Every meaning is that of a resolved tree; a tree without types stays as it is.
use Rattle.std.specs.Prelude.{◌≡◌, ◌||◌, List, [], ◌∷◌, Option, Some, None}
use Rattle.ess_semantics.specs.declared.words.Fun.{Fun}
use Rattle.ess_semantics.specs.Values.{a_tuple, a_function, a_record}
use Rattle.ess_semantics.specs.Names.{Names}
use Rattle.ess_semantics.specs.Trees.{Step, by_value, to_component, to_field, Op, word, index, application, is_truth_op, Ex, Exs, number_ex, truth_ex, name_ex, node_ex, matrix_ex, comp_ex, cell_ex, seen_ex, no_exs, more_exs, Gens, no_gens, over, from, cond, Dom, Doms, bool_dom, int_dom, name_dom, tuple_dom, record_dom, matrix_dom, set_dom, mset_dom, function_dom, relation_dom, partition_dom, no_doms, more_doms}
use Rattle.ess_semantics.specs.Types.{Ty, compound, compound2, is_bool, type_of_dom, bind_types}
use Rattle.ess_semantics.specs.Lists.{tail_of}
use Rattle.ess_semantics.specs.Typing.{Static, a_number, a_name, statics, type_behind, part_behind, type_of, types_of, source_ty}

-- The step that an index is which says this, at a place of this type.
abbrev pub step_at : Option Ty → Static → Step
step_at (Some (compound a_tuple ts)) (a_number k) = to_component k
step_at (Some (compound (a_record fs) ts)) (a_name a) = to_field a
step_at t s = by_value

-- The steps of an index from a place of this type on.
abbrev pub steps_from : Option Ty → List Step → List Static → List (Option Ty) → List Step
steps_from t (by_value ∷ qs) (s ∷ ss) (u ∷ us) = step_at t s ∷ steps_from (type_behind t s u) qs ss us
steps_from t (to_component k ∷ qs) ss us = to_component k ∷ steps_from (part_behind t (a_number k)) qs ss us
steps_from t (to_field a ∷ qs) ss us = to_field a ∷ steps_from (part_behind t (a_name a)) qs ss us
steps_from t qs ss us = qs

-- The steps of an index whose operands say this and have these types.
abbrev pub resolved_steps : List Step → List Static → List (Option Ty) → List Step
resolved_steps qs ss (t ∷ us) = steps_from t qs (tail_of ss) us
resolved_steps qs ss [] = qs

-- The operands of the steps that are still by a value, where the steps before were qs.
abbrev pub kept_indices : List Step → List Step → Exs → Exs
kept_indices (by_value ∷ qs) (by_value ∷ rs) (more_exs e es) = more_exs e (kept_indices qs rs es)
kept_indices (by_value ∷ qs) (r ∷ rs) (more_exs e es) = kept_indices qs rs es
kept_indices (q ∷ qs) (r ∷ rs) es = kept_indices qs rs es
kept_indices qs rs es = es

-- The same, behind what is indexed.
abbrev pub kept_operands : List Step → List Step → Exs → Exs
kept_operands qs rs no_exs = no_exs
kept_operands qs rs (more_exs e es) = more_exs e (kept_indices qs rs es)

-- The operator of a node whose operands have these types: a function at an argument is `image`.
abbrev pub resolved_op : Op → List (Option Ty) → Op
resolved_op application (Some (compound2 a_function a b) ∷ u ∷ []) = word Fun.Image
resolved_op op us = op

-- A node with its mark, its operator, its steps and its operands, where t is its type, and the operands say ss and have the types us.
abbrev pub resolved_node : Option Ty → Op → Exs → List Static → List (Option Ty) → Ex
resolved_node t (index qs) es ss us = let rs : List Step = resolved_steps qs ss us in node_ex (is_bool t) (index rs) (kept_operands qs rs es)
resolved_node t op es ss us = node_ex (is_truth_op op || is_bool t) (resolved_op op us) es

abbrev mutual
  -- The expression, resolved under the types of names.
  pub resolve : Ex → Names Ty → Ex
  resolve (number_ex n) g = number_ex n
  resolve (truth_ex b) g = truth_ex b
  resolve (name_ex a) g = name_ex a
  resolve (node_ex b op es) g = resolved_node (type_of (node_ex b op es) g) op (resolve_exs es g) (statics es) (types_of es g)
  resolve (matrix_ex es d) g = matrix_ex (resolve_exs es g) (resolve_dom d g)
  resolve (comp_ex e gs) g = resolve_gens gs g (λ hs h. comp_ex (resolve e h) hs)
  resolve (cell_ex b n es) g = cell_ex b n (resolve_exs es g)
  resolve (seen_ex r d ns es) g = seen_ex r (resolve_dom d g) ns (resolve_exs es g)

  -- The same of operands.
  pub resolve_exs : Exs → Names Ty → Exs
  resolve_exs no_exs g = no_exs
  resolve_exs (more_exs e es) g = more_exs (resolve e g) (resolve_exs es g)

  -- The same of generators; k makes the expression of them and of the types of names behind them.
  pub resolve_gens : Gens → Names Ty → (Gens → Names Ty → Ex) → Ex
  resolve_gens no_gens g k = k no_gens g
  resolve_gens (over p d gs) g k = resolve_gens gs (bind_types p (type_of_dom d) g) (λ hs h. k (over p (resolve_dom d g) hs) h)
  resolve_gens (from p e gs) g k = resolve_gens gs (bind_types p (source_ty e g) g) (λ hs h. k (from p (resolve e g) hs) h)
  resolve_gens (cond e gs) g k = resolve_gens gs g (λ hs h. k (cond (resolve e g) hs) h)

  -- The same of a domain.
  pub resolve_dom : Dom → Names Ty → Dom
  resolve_dom bool_dom g = bool_dom
  resolve_dom (int_dom rs es) g = int_dom rs (resolve_exs es g)
  resolve_dom (name_dom a) g = name_dom a
  resolve_dom (tuple_dom ds) g = tuple_dom (resolve_doms ds g)
  resolve_dom (record_dom fs ds) g = record_dom fs (resolve_doms ds g)
  resolve_dom (matrix_dom is d) g = matrix_dom (resolve_doms is g) (resolve_dom d g)
  resolve_dom (set_dom ms es d) g = set_dom ms (resolve_exs es g) (resolve_dom d g)
  resolve_dom (mset_dom ms es d) g = mset_dom ms (resolve_exs es g) (resolve_dom d g)
  resolve_dom (function_dom ms es d c) g = function_dom ms (resolve_exs es g) (resolve_dom d g) (resolve_dom c g)
  resolve_dom (relation_dom ms es ds) g = relation_dom ms (resolve_exs es g) (resolve_doms ds g)
  resolve_dom (partition_dom ms es d) g = partition_dom ms (resolve_exs es g) (resolve_dom d g)

  -- The same of several domains.
  pub resolve_doms : Doms → Names Ty → Doms
  resolve_doms no_doms g = no_doms
  resolve_doms (more_doms d ds) g = more_doms (resolve_dom d g) (resolve_doms ds g)

-- A tree is resolved under the types of names where resolving leaves it as it is.
abbrev pub IsResolved : Ex → Names Ty → Type 0
IsResolved e g = resolve e g ≡ e
