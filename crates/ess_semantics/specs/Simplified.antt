-- The form that simplifying leaves: no double negation, and no `true` or `false` where a connective could do without it.
-- And what else it promises: it adds no node but `!`, `true` and `false`, and the tree never grows.
use Rattle.std.specs.Prelude.{◌≡◌, Bool, true, false, ◌&&◌, ◌||◌, not, List, ◌∷◌, length, nat_le, IsTrue, is_some}
use Rattle.std.specs.List.{list_all}
use Rattle.ess_semantics.specs.declared.words.Op1.{Op1}
use Rattle.ess_semantics.specs.Trees.{unary, Ex, Exs, truth_ex, node_ex, matrix_ex, comp_ex, cell_ex, seen_ex, no_exs, more_exs, Gens, no_gens, over, from, cond, Dom, Doms, bool_dom, int_dom, name_dom, tuple_dom, record_dom, matrix_dom, set_dom, mset_dom, function_dom, relation_dom, partition_dom, no_doms, more_doms}
use Rattle.ess_semantics.specs.Operators.{connective}
use Rattle.ess_semantics.specs.Contexts.{Each}
use Rattle.ess_semantics.specs.Occurrences.{parts_of}

-- Whether the expression is `true` or `false`.
abbrev pub is_truth_value : Ex → Bool
is_truth_value (truth_ex b) = true
is_truth_value e = false

-- Whether the expression is a negation.
abbrev pub is_negation : Ex → Bool
is_negation (node_ex b (unary Op1.Not) es) = true
is_negation e = false

-- Whether f holds of each operand.
abbrev pub each_operand : (Ex → Bool) → Exs → Bool
each_operand f no_exs = true
each_operand f (more_exs e es) = f e && each_operand f es

-- No `!` stands directly under a `!`, and no `true` or `false` under `!`, `/\`, `\/`, `->` or `<->`.
abbrev pub is_simple_node : Ex → Bool
is_simple_node (node_ex b op es) =
    (not (is_some (connective op)) || each_operand (λ e. not (is_truth_value e)) es) &&
    (not (is_negation (node_ex b op es)) || each_operand (λ e. not (is_negation e)) es)
is_simple_node e = true

-- Each part of the expression is so.
abbrev pub is_simplified : Ex → Bool
is_simplified e = list_all is_simple_node (parts_of e)

-- ---- nodes, their parts aside

abbrev mutual
  -- The domain without its bounds, attribute values and sizes.
  pub bare_dom : Dom → Dom
  bare_dom bool_dom = bool_dom
  bare_dom (int_dom rs es) = int_dom rs no_exs
  bare_dom (name_dom a) = name_dom a
  bare_dom (tuple_dom ds) = tuple_dom (bare_doms ds)
  bare_dom (record_dom fs ds) = record_dom fs (bare_doms ds)
  bare_dom (matrix_dom is d) = matrix_dom (bare_doms is) (bare_dom d)
  bare_dom (set_dom ms es d) = set_dom ms no_exs (bare_dom d)
  bare_dom (mset_dom ms es d) = mset_dom ms no_exs (bare_dom d)
  bare_dom (function_dom ms es d c) = function_dom ms no_exs (bare_dom d) (bare_dom c)
  bare_dom (relation_dom ms es ds) = relation_dom ms no_exs (bare_doms ds)
  bare_dom (partition_dom ms es d) = partition_dom ms no_exs (bare_dom d)

  -- The same of several domains.
  pub bare_doms : Doms → Doms
  bare_doms no_doms = no_doms
  bare_doms (more_doms d ds) = more_doms (bare_dom d) (bare_doms ds)

-- Generators with `true` for each source and condition.
abbrev pub bare_gens : Gens → Gens
bare_gens no_gens = no_gens
bare_gens (over p d gs) = over p (bare_dom d) (bare_gens gs)
bare_gens (from p e gs) = from p (truth_ex true) (bare_gens gs)
bare_gens (cond e gs) = cond (truth_ex true) (bare_gens gs)

-- The node without the expressions in it.
abbrev pub bare : Ex → Ex
bare (node_ex b op es) = node_ex b op no_exs
bare (matrix_ex es d) = matrix_ex no_exs (bare_dom d)
bare (comp_ex e gs) = comp_ex (truth_ex true) (bare_gens gs)
bare (cell_ex b n es) = cell_ex b n no_exs
bare (seen_ex r d ns es) = seen_ex r (bare_dom d) ns no_exs
bare e = e

-- One of the trees has the node at its root.
pub data HasNode : List Ex → Ex → Type 0 where
  at_first : {e x : Ex} {es : List Ex} → bare e ≡ bare x → HasNode (e ∷ es) x
  at_later : {e x : Ex} {es : List Ex} → HasNode es x → HasNode (e ∷ es) x

-- Whether simplifying may write the node anew.
abbrev pub is_written_anew : Ex → Bool
is_written_anew e = is_truth_value e || is_negation e

-- The second tree is the first one, simplified.
pub record Simplifies (old new : Ex) : Type 0 where
  pub form : is_simplified new ≡ true
  pub no_larger : IsTrue (nat_le (length (parts_of new)) (length (parts_of old)))
  pub nodes : Each (parts_of new) (λ x. is_written_anew x ≡ false → HasNode (parts_of old) x)
