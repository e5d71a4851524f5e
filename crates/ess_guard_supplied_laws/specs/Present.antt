-- What a tree reads is there: names, cells and views have values, and what generators run over can be listed. Nothing is asked of
-- forms.
use Rattle.std.specs.Prelude.{◌||◌, IsTrue, is_some}
use Rattle.ess_semantics.specs.Names.{look}
use Rattle.ess_semantics.specs.Trees.{Ex, Exs, number_ex, truth_ex, name_ex, node_ex, matrix_ex, comp_ex, cell_ex, seen_ex, no_exs, more_exs, Gens, no_gens, over, from, cond, Dom, Doms, bool_dom, int_dom, name_dom, tuple_dom, record_dom, matrix_dom, set_dom, mset_dom, function_dom, relation_dom, partition_dom, no_doms, more_doms}
use Rattle.ess_semantics.specs.Meaning.{Env, meaning, meanings, domain_of, members_in, with_pat, cell_in, indices}
use Rattle.ess_semantics.specs.Contexts.{EachOf, EachIn, WhenTrue}
use Rattle.ess_semantics.specs.Totality.{HasValue}
use Rattle.ess_guard_laws.specs.Guard.{connects}
use Rattle.ess_guard_laws.specs.Supplied.{HasMembers, Unless}

abbrev mutual
  -- What the expression reads is there, at each binding of generators whose conditions hold. Of Booleans, which always have a
  -- value, nothing is asked.
  pub Present : Ex → Env → Type 0
  Present (number_ex n) env = Unit {0}
  Present (truth_ex b) env = Unit {0}
  Present (name_ex a) env = IsTrue (is_some (look env.vals a))
  Present (node_ex b op es) env = Unless (b || connects op) (AllPresent es env)
  Present (matrix_ex es d) env = AllPresent es env
  Present (comp_ex e gs) env = PresentUnder gs env (λ here. Present e here)
  Present (cell_ex b n es) env =
      Unless b (HasValue (cell_in b (look env.cells n) (indices (meanings es env))) (meanings es env) × AllPresent es env)
  Present (seen_ex r d ns es) env = IsTrue (is_some (meaning (seen_ex r d ns es) env))

  -- The same of operands.
  pub AllPresent : Exs → Env → Type 0
  AllPresent no_exs env = Unit {0}
  AllPresent (more_exs e es) env = Present e env × AllPresent es env

  -- The same of generators, and P at each of their bindings whose conditions hold.
  pub PresentUnder : Gens → Env → (Env → Type 0) → Type 0
  PresentUnder no_gens env P = P env
  PresentUnder (over p d gs) env P =
      DomPresent d env × HasMembers d env × EachOf (members_in (domain_of d env)) (λ v. PresentUnder gs (with_pat p v env) P)
  PresentUnder (from p e gs) env P = Present e env × EachIn (meaning e env) (λ v. PresentUnder gs (with_pat p v env) P)
  PresentUnder (cond c gs) env P = WhenTrue (meaning c env) (PresentUnder gs env P)

  -- The same of the numbers of a domain.
  pub DomPresent : Dom → Env → Type 0
  DomPresent bool_dom env = Unit {0}
  DomPresent (int_dom rs es) env = AllPresent es env
  DomPresent (name_dom a) env = Unit {0}
  DomPresent (tuple_dom ds) env = DomsPresent ds env
  DomPresent (record_dom fs ds) env = DomsPresent ds env
  DomPresent (matrix_dom is d) env = DomsPresent is env × DomPresent d env
  DomPresent (set_dom ms es d) env = AllPresent es env × DomPresent d env
  DomPresent (mset_dom ms es d) env = AllPresent es env × DomPresent d env
  DomPresent (function_dom ms es d c) env = AllPresent es env × DomPresent d env × DomPresent c env
  DomPresent (relation_dom ms es ds) env = AllPresent es env × DomsPresent ds env
  DomPresent (partition_dom ms es d) env = AllPresent es env × DomPresent d env

  -- The same of several domains.
  pub DomsPresent : Doms → Env → Type 0
  DomsPresent no_doms env = Unit {0}
  DomsPresent (more_doms d ds) env = DomPresent d env × DomsPresent ds env
