-- What a tree reads is there: names, cells and views have values, and what generators run over can be listed. Whether a term
-- has a value is then decided by its partial operators alone.
use Rattle.std.specs.Prelude.{◌≡◌, Bool, true, false, ◌&&◌, ◌||◌, IsTrue, is_some}
use Rattle.std.specs.List.{list_all}
use Rattle.ess_semantics.specs.Names.{look}
use Rattle.ess_semantics.specs.Trees.{Op, application, function_literal, Ex, Exs, number_ex, truth_ex, name_ex, node_ex, matrix_ex, comp_ex, cell_ex, seen_ex, no_exs, more_exs, Gens, no_gens, over, from, cond, Dom, Doms, bool_dom, int_dom, name_dom, tuple_dom, record_dom, matrix_dom, set_dom, mset_dom, function_dom, relation_dom, partition_dom, no_doms, more_doms}
use Rattle.ess_semantics.specs.Meaning.{Env, meaning, meanings, domain_of, members_in, with_pat, cell_in, indices}
use Rattle.ess_semantics.specs.Contexts.{EachOf, EachIn, WhenTrue}
use Rattle.ess_semantics.specs.Totality.{HasValue}
use Rattle.ess_guard_laws.specs.Guard.{connects}
use Rattle.ess_guard_laws.specs.Covered.{are_pairs, is_relation}

-- ---- numbers of domains

abbrev mutual
  -- Whether each number that stands in the domain has a value.
  pub has_numbers : Dom → Env → Bool
  has_numbers bool_dom env = true
  has_numbers (int_dom rs es) env = list_all is_some (meanings es env)
  has_numbers (name_dom a) env = true
  has_numbers (tuple_dom ds) env = have_numbers ds env
  has_numbers (record_dom fs ds) env = have_numbers ds env
  has_numbers (matrix_dom is d) env = have_numbers is env && has_numbers d env
  has_numbers (set_dom ms es d) env = list_all is_some (meanings es env) && has_numbers d env
  has_numbers (mset_dom ms es d) env = list_all is_some (meanings es env) && has_numbers d env
  has_numbers (function_dom ms es d c) env = list_all is_some (meanings es env) && (has_numbers d env && has_numbers c env)
  has_numbers (relation_dom ms es ds) env = list_all is_some (meanings es env) && have_numbers ds env
  has_numbers (partition_dom ms es d) env = list_all is_some (meanings es env) && has_numbers d env

  -- The same of several domains.
  pub have_numbers : Doms → Env → Bool
  have_numbers no_doms env = true
  have_numbers (more_doms d ds) env = has_numbers d env && have_numbers ds env

-- The domain has members where its numbers have values.
abbrev pub HasMembers : Dom → Env → Type 0
HasMembers d env = IsTrue (has_numbers d env) → IsTrue (is_some (members_in (domain_of d env)))

-- ---- trees

-- The operators whose conditions are known, where they aren't marked as Booleans: all but an application of what isn't a
-- relation by its form. Resolved, an application that is no Boolean has become an image. The operands of a function literal are
-- pairs.
abbrev pub is_known : Op → Exs → Bool
is_known application (more_exs f es) = is_relation f
is_known function_literal es = are_pairs es
is_known op es = true

-- P, where the truth value doesn't hold: nothing is asked of what has a value whatever its parts are.
abbrev pub Unless : Bool → Type 0 → Type 0
Unless true P = Unit {0}
Unless false P = P

abbrev mutual
  -- What the expression reads is there, at each binding of generators whose conditions hold. Of Booleans, which always have a
  -- value, nothing is asked.
  pub Supplied : Ex → Env → Type 0
  Supplied (number_ex n) env = Unit {0}
  Supplied (truth_ex b) env = Unit {0}
  Supplied (name_ex a) env = IsTrue (is_some (look env.vals a))
  Supplied (node_ex b op es) env = Unless (b || connects op) ((is_known op es ≡ true) × SuppliedAll es env)
  Supplied (matrix_ex es d) env = SuppliedAll es env
  Supplied (comp_ex e gs) env = SuppliedUnder gs env (λ here. Supplied e here)
  Supplied (cell_ex b n es) env =
      Unless b (HasValue (cell_in b (look env.cells n) (indices (meanings es env))) (meanings es env) × SuppliedAll es env)
  Supplied (seen_ex r d ns es) env = IsTrue (is_some (meaning (seen_ex r d ns es) env))

  -- The same of operands.
  pub SuppliedAll : Exs → Env → Type 0
  SuppliedAll no_exs env = Unit {0}
  SuppliedAll (more_exs e es) env = Supplied e env × SuppliedAll es env

  -- The same of generators, and P at each of their bindings whose conditions hold.
  pub SuppliedUnder : Gens → Env → (Env → Type 0) → Type 0
  SuppliedUnder no_gens env P = P env
  SuppliedUnder (over p d gs) env P =
      SuppliedDom d env × HasMembers d env × EachOf (members_in (domain_of d env)) (λ v. SuppliedUnder gs (with_pat p v env) P)
  SuppliedUnder (from p e gs) env P = Supplied e env × EachIn (meaning e env) (λ v. SuppliedUnder gs (with_pat p v env) P)
  SuppliedUnder (cond c gs) env P = WhenTrue (meaning c env) (SuppliedUnder gs env P)

  -- The same of the numbers of a domain.
  pub SuppliedDom : Dom → Env → Type 0
  SuppliedDom bool_dom env = Unit {0}
  SuppliedDom (int_dom rs es) env = SuppliedAll es env
  SuppliedDom (name_dom a) env = Unit {0}
  SuppliedDom (tuple_dom ds) env = SuppliedDoms ds env
  SuppliedDom (record_dom fs ds) env = SuppliedDoms ds env
  SuppliedDom (matrix_dom is d) env = SuppliedDoms is env × SuppliedDom d env
  SuppliedDom (set_dom ms es d) env = SuppliedAll es env × SuppliedDom d env
  SuppliedDom (mset_dom ms es d) env = SuppliedAll es env × SuppliedDom d env
  SuppliedDom (function_dom ms es d c) env = SuppliedAll es env × SuppliedDom d env × SuppliedDom c env
  SuppliedDom (relation_dom ms es ds) env = SuppliedAll es env × SuppliedDoms ds env
  SuppliedDom (partition_dom ms es d) env = SuppliedAll es env × SuppliedDom d env

  -- The same of several domains.
  pub SuppliedDoms : Doms → Env → Type 0
  SuppliedDoms no_doms env = Unit {0}
  SuppliedDoms (more_doms d ds) env = SuppliedDom d env × SuppliedDoms ds env
