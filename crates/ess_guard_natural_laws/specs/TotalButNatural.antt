-- Trees that are total but for plain operators in natural places. Natural places are the operands of comparisons, seen through
-- operators on numbers. Plain operators are quotients, remainders and powers. There alone an operator may have nothing where its
-- operands have values: the comparison above it is false there. Everything else is total as in `Total`.
use Rattle.std.specs.Prelude.{Bool, true, false, ◌&&◌, IsTrue}
use Rattle.ess_semantics.specs.Trees.{Op, Ex, Exs, number_ex, truth_ex, name_ex, node_ex, matrix_ex, comp_ex, cell_ex, seen_ex, no_exs, more_exs, Gens, no_gens, over, from, cond, Dom, Doms, bool_dom, int_dom, name_dom, tuple_dom, record_dom, matrix_dom, set_dom, mset_dom, function_dom, relation_dom, partition_dom, no_doms, more_doms}
use Rattle.ess_semantics.specs.Operators.{value_of_node}
use Rattle.ess_semantics.specs.Meaning.{Env, meaning, meanings, domain_of, members_in, with_pat, has_meaning}
use Rattle.ess_semantics.specs.Contexts.{EachOf, EachIn, WhenTrue}
use Rattle.ess_semantics.specs.Totality.{HasValue}
use Rattle.ess_guard_laws.specs.Guard.{compares, counts, is_plain}
use Rattle.ess_guard_laws.specs.Supplied.{Unless}

-- Whether the operands of a node stand in natural places, where w says that it stands in one itself. A Boolean's do where it
-- compares; a term's where it stands in one and is an operator on numbers.
abbrev pub opens_places : Bool → Bool → Op → Bool
opens_places w true op = compares op
opens_places w false op = w && counts op

-- Whether a node may have nothing though its operands have values: a plain term in a natural place.
abbrev pub may_lack : Bool → Bool → Op → Bool
may_lack w true op = false
may_lack w false op = w && is_plain op

abbrev mutual
  -- Each operator of the expression is total but for plain ones in natural places, at each binding of generators whose conditions hold.
  -- w says that the expression stands in a natural place.
  pub TotalButNatural : Bool → Ex → Env → Type 0
  TotalButNatural w (number_ex n) env = Unit {0}
  TotalButNatural w (truth_ex b) env = Unit {0}
  TotalButNatural w (name_ex a) env = Unit {0}
  TotalButNatural w (node_ex b op es) env =
      Unless (may_lack w b op) (HasValue (value_of_node op (meanings es env)) (meanings es env))
      × AllTotalButNatural (opens_places w b op) es env
  TotalButNatural w (matrix_ex es d) env =
      (IsTrue (has_meaning d env) → HasValue (meaning (matrix_ex es d) env) (meanings es env)) × AllTotalButNatural false es env
      × DomTotalButNatural d env
  TotalButNatural w (comp_ex e gs) env = UnderTotalButNatural gs env (λ here. TotalButNatural false e here)
  TotalButNatural w (cell_ex b n es) env = AllTotalButNatural false es env
  TotalButNatural w (seen_ex r d ns es) env = Unit {0}

  -- The same of operands, all in natural places or none.
  pub AllTotalButNatural : Bool → Exs → Env → Type 0
  AllTotalButNatural w no_exs env = Unit {0}
  AllTotalButNatural w (more_exs e es) env = TotalButNatural w e env × AllTotalButNatural w es env

  -- The same of generators, and P at each of their bindings.
  pub UnderTotalButNatural : Gens → Env → (Env → Type 0) → Type 0
  UnderTotalButNatural no_gens env P = P env
  UnderTotalButNatural (over p d gs) env P =
      DomTotalButNatural d env × EachOf (members_in (domain_of d env)) (λ v. UnderTotalButNatural gs (with_pat p v env) P)
  UnderTotalButNatural (from p e gs) env P =
      TotalButNatural false e env × EachIn (meaning e env) (λ v. UnderTotalButNatural gs (with_pat p v env) P)
  UnderTotalButNatural (cond e gs) env P = TotalButNatural false e env × WhenTrue (meaning e env) (UnderTotalButNatural gs env P)

  -- The same of a domain, whose numbers stand in no natural place.
  pub DomTotalButNatural : Dom → Env → Type 0
  DomTotalButNatural bool_dom env = Unit {0}
  DomTotalButNatural (int_dom rs es) env = AllTotalButNatural false es env
  DomTotalButNatural (name_dom a) env = Unit {0}
  DomTotalButNatural (tuple_dom ds) env = DomsTotalButNatural ds env
  DomTotalButNatural (record_dom fs ds) env = DomsTotalButNatural ds env
  DomTotalButNatural (matrix_dom is d) env = DomsTotalButNatural is env × DomTotalButNatural d env
  DomTotalButNatural (set_dom ms es d) env = AllTotalButNatural false es env × DomTotalButNatural d env
  DomTotalButNatural (mset_dom ms es d) env = AllTotalButNatural false es env × DomTotalButNatural d env
  DomTotalButNatural (function_dom ms es d c) env =
      AllTotalButNatural false es env × DomTotalButNatural d env × DomTotalButNatural c env
  DomTotalButNatural (relation_dom ms es ds) env = AllTotalButNatural false es env × DomsTotalButNatural ds env
  DomTotalButNatural (partition_dom ms es d) env = AllTotalButNatural false es env × DomTotalButNatural d env

  -- The same of several domains.
  pub DomsTotalButNatural : Doms → Env → Type 0
  DomsTotalButNatural no_doms env = Unit {0}
  DomsTotalButNatural (more_doms d ds) env = DomTotalButNatural d env × DomsTotalButNatural ds env
