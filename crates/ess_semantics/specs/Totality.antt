-- Total expressions, by which undefined terms in the sense of Frisch and Stuckey (2009) are done away with: no operator has
-- nothing where its operands have something. Of a Boolean this is asked before it counts as false where it has nothing.
-- Numbers, names, cells and views are operands and never operators. A conjunct beside a partial operator doesn't make it
-- total; a condition of a comprehension around it does. An index of a name that runs over several matrices is total behind
-- a condition that says of some of them that it is the one and has the index.
use Rattle.std.specs.Prelude.{List, Option, IsTrue, is_some}
use Rattle.std.specs.List.{list_all}
use Rattle.ess_semantics.specs.Values.{Value}
use Rattle.ess_semantics.specs.Trees.{Ex, Exs, number_ex, truth_ex, name_ex, node_ex, matrix_ex, comp_ex, cell_ex, seen_ex, no_exs, more_exs, Gens, no_gens, over, from, cond, Dom, Doms, bool_dom, int_dom, name_dom, tuple_dom, record_dom, matrix_dom, set_dom, mset_dom, function_dom, relation_dom, partition_dom, no_doms, more_doms}
use Rattle.ess_semantics.specs.Operators.{value_of_node}
use Rattle.ess_semantics.specs.Meaning.{Env, meaning, meanings, domain_of, members_in, with_pat, has_meaning}
use Rattle.ess_semantics.specs.Contexts.{EachOf, EachIn, WhenTrue}

-- The value is there where all operands are.
abbrev pub HasValue : Option Value → List (Option Value) → Type 0
HasValue o os = IsTrue (list_all is_some os) → IsTrue (is_some o)

abbrev mutual
  -- Each operator of the expression is total, at each binding of generators whose conditions hold.
  pub Total : Ex → Env → Type 0
  Total (number_ex n) env = Unit {0}
  Total (truth_ex b) env = Unit {0}
  Total (name_ex a) env = Unit {0}
  Total (node_ex b op es) env = HasValue (value_of_node op (meanings es env)) (meanings es env) × TotalAll es env
  Total (matrix_ex es d) env =
      (IsTrue (has_meaning d env) → HasValue (meaning (matrix_ex es d) env) (meanings es env)) × TotalAll es env × TotalDom d env
  Total (comp_ex e gs) env = TotalUnder gs env (λ here. Total e here)
  Total (cell_ex b n es) env = TotalAll es env
  Total (seen_ex r d ns es) env = Unit {0}

  -- The same of operands.
  pub TotalAll : Exs → Env → Type 0
  TotalAll no_exs env = Unit {0}
  TotalAll (more_exs e es) env = Total e env × TotalAll es env

  -- The same of generators, and P at each of their bindings.
  pub TotalUnder : Gens → Env → (Env → Type 0) → Type 0
  TotalUnder no_gens env P = P env
  TotalUnder (over p d gs) env P = TotalDom d env × EachOf (members_in (domain_of d env)) (λ v. TotalUnder gs (with_pat p v env) P)
  TotalUnder (from p e gs) env P = Total e env × EachIn (meaning e env) (λ v. TotalUnder gs (with_pat p v env) P)
  TotalUnder (cond e gs) env P = Total e env × WhenTrue (meaning e env) (TotalUnder gs env P)

  -- The same of a domain.
  pub TotalDom : Dom → Env → Type 0
  TotalDom bool_dom env = Unit {0}
  TotalDom (int_dom rs es) env = TotalAll es env
  TotalDom (name_dom a) env = Unit {0}
  TotalDom (tuple_dom ds) env = TotalDoms ds env
  TotalDom (record_dom fs ds) env = TotalDoms ds env
  TotalDom (matrix_dom is d) env = TotalDoms is env × TotalDom d env
  TotalDom (set_dom ms es d) env = TotalAll es env × TotalDom d env
  TotalDom (mset_dom ms es d) env = TotalAll es env × TotalDom d env
  TotalDom (function_dom ms es d c) env = TotalAll es env × TotalDom d env × TotalDom c env
  TotalDom (relation_dom ms es ds) env = TotalAll es env × TotalDoms ds env
  TotalDom (partition_dom ms es d) env = TotalAll es env × TotalDom d env

  -- The same of several domains.
  pub TotalDoms : Doms → Env → Type 0
  TotalDoms no_doms env = Unit {0}
  TotalDoms (more_doms d ds) env = TotalDom d env × TotalDoms ds env
