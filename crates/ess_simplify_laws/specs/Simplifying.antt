-- The tree that simplifying makes, from the parts up: a connective does without `true` and `false`, and `!` without `!`.
use Rattle.std.specs.Prelude.{Bool, true, false, not, if◌then◌else◌, Option, Some, None, is_some}
use Rattle.ess_semantics.specs.declared.words.Op1.{Op1}
use Rattle.ess_semantics.specs.declared.words.Op2.{Op2}
use Rattle.ess_semantics.specs.Trees.{Op, unary, binary, Ex, Exs, number_ex, truth_ex, name_ex, node_ex, matrix_ex, comp_ex, cell_ex, seen_ex, no_exs, more_exs, Gens, no_gens, over, from, cond, Dom, Doms, bool_dom, int_dom, name_dom, tuple_dom, record_dom, matrix_dom, set_dom, mset_dom, function_dom, relation_dom, partition_dom, no_doms, more_doms, ex1, ex2}
use Rattle.ess_semantics.specs.Operators.{connective}
use Rattle.ess_simplify_laws.specs.declared.words.Outcome.{Outcome}

-- ---- one node, whose operands are simplified

-- The truth value that the expression is, if it is one.
abbrev pub said : Ex → Option Bool
said (truth_ex v) = Some v
said _ = None

-- `!` of an operand. A `!` on any number of operands but one is false.
abbrev pub denied : Bool → Ex → Ex
denied b (truth_ex v) = truth_ex (not v)
denied b (node_ex c (unary Op1.Not) (more_exs a no_exs)) = a
denied b (node_ex c (unary Op1.Not) es) = truth_ex true
denied b e = ex1 b Op1.Not e

-- What becomes of an operator on two operands, from the truth values that they are.
abbrev pub outcome : Op2 → Option Bool → Option Bool → Outcome
outcome Op2.And (Some true) q = Outcome.Second
outcome Op2.And (Some false) q = Outcome.Says false
outcome Op2.And None (Some true) = Outcome.First
outcome Op2.And None (Some false) = Outcome.Says false
outcome Op2.Or (Some true) q = Outcome.Says true
outcome Op2.Or (Some false) q = Outcome.Second
outcome Op2.Or None (Some true) = Outcome.Says true
outcome Op2.Or None (Some false) = Outcome.First
outcome Op2.Implies (Some true) q = Outcome.Second
outcome Op2.Implies (Some false) q = Outcome.Says true
outcome Op2.Implies None (Some true) = Outcome.Says true
outcome Op2.Implies None (Some false) = Outcome.FirstDenied
outcome Op2.Iff (Some true) q = Outcome.Second
outcome Op2.Iff (Some false) q = Outcome.SecondDenied
outcome Op2.Iff None (Some true) = Outcome.First
outcome Op2.Iff None (Some false) = Outcome.FirstDenied
outcome o p q = Outcome.Stays

-- What is left of an operator on two operands.
abbrev pub left : Bool → Op2 → Ex → Ex → Outcome → Ex
left b o x y Outcome.Stays = ex2 b o x y
left b o x y Outcome.First = x
left b o x y Outcome.Second = y
left b o x y Outcome.FirstDenied = denied b x
left b o x y Outcome.SecondDenied = denied b y
left b o x y (Outcome.Says v) = truth_ex v

-- An operator on one operand: a `!` on another number of them is false.
abbrev pub simpler_unary : Bool → Op1 → Exs → Ex
simpler_unary b Op1.Not (more_exs a no_exs) = denied b a
simpler_unary b Op1.Not es = truth_ex false
simpler_unary b o es = node_ex b (unary o) es

-- An operator on two operands: a connective on another number of them is false.
abbrev pub simpler_binary : Bool → Op2 → Exs → Ex
simpler_binary b o (more_exs x (more_exs y no_exs)) = left b o x y (outcome o (said x) (said y))
simpler_binary b o es = if is_some (connective (binary o)) then truth_ex false else node_ex b (binary o) es

-- A node on simplified operands.
abbrev pub simpler_node : Bool → Op → Exs → Ex
simpler_node b (unary o) es = simpler_unary b o es
simpler_node b (binary o) es = simpler_binary b o es
simpler_node b op es = node_ex b op es

-- ---- trees

abbrev mutual
  -- The simplified tree.
  pub simplified : Ex → Ex
  simplified (number_ex n) = number_ex n
  simplified (truth_ex v) = truth_ex v
  simplified (name_ex a) = name_ex a
  simplified (node_ex b op es) = simpler_node b op (all_simplified es)
  simplified (matrix_ex es d) = matrix_ex (all_simplified es) (dom_simplified d)
  simplified (comp_ex e gs) = comp_ex (simplified e) (gens_simplified gs)
  simplified (cell_ex b n es) = cell_ex b n (all_simplified es)
  simplified (seen_ex r d ns es) = seen_ex r (dom_simplified d) ns (all_simplified es)

  -- The same of operands.
  pub all_simplified : Exs → Exs
  all_simplified no_exs = no_exs
  all_simplified (more_exs e es) = more_exs (simplified e) (all_simplified es)

  -- The same of generators.
  pub gens_simplified : Gens → Gens
  gens_simplified no_gens = no_gens
  gens_simplified (over p d gs) = over p (dom_simplified d) (gens_simplified gs)
  gens_simplified (from p e gs) = from p (simplified e) (gens_simplified gs)
  gens_simplified (cond e gs) = cond (simplified e) (gens_simplified gs)

  -- The same of a domain.
  pub dom_simplified : Dom → Dom
  dom_simplified bool_dom = bool_dom
  dom_simplified (int_dom rs es) = int_dom rs (all_simplified es)
  dom_simplified (name_dom a) = name_dom a
  dom_simplified (tuple_dom ds) = tuple_dom (doms_simplified ds)
  dom_simplified (record_dom fs ds) = record_dom fs (doms_simplified ds)
  dom_simplified (matrix_dom is d) = matrix_dom (doms_simplified is) (dom_simplified d)
  dom_simplified (set_dom ms es d) = set_dom ms (all_simplified es) (dom_simplified d)
  dom_simplified (mset_dom ms es d) = mset_dom ms (all_simplified es) (dom_simplified d)
  dom_simplified (function_dom ms es d c) = function_dom ms (all_simplified es) (dom_simplified d) (dom_simplified c)
  dom_simplified (relation_dom ms es ds) = relation_dom ms (all_simplified es) (doms_simplified ds)
  dom_simplified (partition_dom ms es d) = partition_dom ms (all_simplified es) (dom_simplified d)

  -- The same of several domains.
  pub doms_simplified : Doms → Doms
  doms_simplified no_doms = no_doms
  doms_simplified (more_doms d ds) = more_doms (dom_simplified d) (doms_simplified ds)
