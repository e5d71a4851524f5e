-- What is total is so as a side of a test, and what is total is total but for tests.
use Rattle.std.proofs.Common.{◌≡◌, Bool, true, false, ◌⊎◌, inl, inr, List, Option}
use Rattle.ess_semantics.specs.Trees.{Op, application, Ex, Exs, number_ex, truth_ex, name_ex, node_ex, matrix_ex, comp_ex, cell_ex, seen_ex, no_exs, more_exs, Gens, no_gens, over, from, cond, Dom, Doms, bool_dom, int_dom, name_dom, tuple_dom, record_dom, matrix_dom, set_dom, mset_dom, function_dom, relation_dom, partition_dom, no_doms, more_doms}
use Rattle.ess_semantics.specs.Values.{Value}
use Rattle.ess_semantics.specs.Operators.{value_of_node}
use Rattle.ess_semantics.specs.Meaning.{Env, meaning, meanings, domain_of, members_in, with_pat}
use Rattle.ess_semantics.specs.Totality.{HasValue, Total, TotalAll, TotalUnder, TotalDom, TotalDoms}
use Rattle.ess_rules_laws.proofs.Bindings.{each-of-map, each-in-map}
use Rattle.ess_guard_laws.proofs.Safe.{is_safe, node-some}
use Rattle.ess_guard_tests_laws.specs.TotalButTests.{IsTest, HasItsValue, TotalButTests, AllTotalButTests, UnderTotalButTests, DomTotalButTests, DomsTotalButTests}

-- Not as a side of a test.
abbrev pub T : Ex → Env → Type 0
T e env = TotalButTests ⊥ e env

-- The same of operands.
abbrev pub TA : Exs → Env → Type 0
TA es env = AllTotalButTests ⊥ es env

-- What has a value where all operands have one has it where it should.
pub its-value : (op : Op) (os : List (Option Value)) → HasValue (value_of_node op os) os → HasItsValue op os
its-value application os h = λ ps e. h
its-value _ os h = h

-- What holds is there or something else is.
value-or : (W P : Type 0) → P ⊎ ⊥ → P ⊎ W
value-or W P (inl p) = inl p
value-or W P (inr z) = absurd z

mutual
  -- What is total as no side of a test is so as one.
  pub placed : (W : Type 0) (e : Ex) (env : Env) → T e env → TotalButTests W e env
  placed W (number_ex n) env t = tt
  placed W (truth_ex b) env t = tt
  placed W (name_ex a) env t = tt
  placed W (node_ex b op es) env t = (value-or W (HasItsValue op (meanings es env)) t.0, t.1)
  placed W (matrix_ex es d) env t = t
  placed W (comp_ex e gs) env t = t
  placed W (cell_ex b n es) env t = t
  placed W (seen_ex r d ns es) env t = tt

  -- The same of operands.
  pub all-placed : (W : Type 0) (es : Exs) (env : Env) → TA es env → AllTotalButTests W es env
  all-placed W no_exs env t = tt
  all-placed W (more_exs e es) env t = (placed W e env t.0, all-placed W es env t.1)

-- Where nothing is a side of a test.
value-so : (W P : Type 0) → (W → ⊥) → P ⊎ W → P ⊎ ⊥
value-so W P n (inl p) = inl p
value-so W P n (inr w) = absurd (n w)

-- What is total as a side of a test is so elsewhere, where there is no such test.
pub unplaced : (W : Type 0) → (W → ⊥) → (e : Ex) (env : Env) → TotalButTests W e env → T e env
unplaced W n (number_ex k) env t = tt
unplaced W n (truth_ex b) env t = tt
unplaced W n (name_ex a) env t = tt
unplaced W n (node_ex b op es) env t = (value-so W (HasItsValue op (meanings es env)) n t.0, t.1)
unplaced W n (matrix_ex es d) env t = t
unplaced W n (comp_ex e gs) env t = t
unplaced W n (cell_ex b k es) env t = t
unplaced W n (seen_ex r d ns es) env t = tt

-- A term is no test.
pub no-test : (op : Op) (es : Exs) → IsTest false op es → ⊥
no-test op es t = let e : false ≡ true = t.marked in cc

-- A node that has its value.
pub node-total : (b : Bool) (op : Op) (es : Exs) (env : Env) → HasItsValue op (meanings es env) → TA es env → T (node_ex b op es) env
node-total b op es env h t = (inl h, all-placed (IsTest b op es) es env t)

-- A node of an operator that asks for nothing.
pub safe-total : (b : Bool) (op : Op) (es : Exs) (env : Env) → is_safe op ≡ true → TA es env → T (node_ex b op es) env
safe-total b op es env s t = node-total b op es env (its-value op (meanings es env) (λ h. node-some op (meanings es env) s h)) t

-- What follows at each binding.
pub under-map : (gs : Gens) (env : Env) (P Q : Env → Type 0) → ((h : Env) → P h → Q h) → UnderTotalButTests gs env P →
    UnderTotalButTests gs env Q
under-map no_gens env P Q f m = f env m
under-map (over p d gs) env P Q f m =
    (m.0, each-of-map (members_in (domain_of d env)) _ _ (λ v. under-map gs (with_pat p v env) P Q f) m.1)
under-map (from p e gs) env P Q f m = (m.0, each-in-map (meaning e env) _ _ (λ v. under-map gs (with_pat p v env) P Q f) m.1)
under-map (cond c gs) env P Q f m = (m.0, λ t. under-map gs env P Q f (m.1 t))

mutual
  -- What is total is total but for nothing.
  pub wholly : (e : Ex) (env : Env) → Total e env → T e env
  wholly (number_ex n) env t = tt
  wholly (truth_ex b) env t = tt
  wholly (name_ex a) env t = tt
  wholly (node_ex b op es) env t = node-total b op es env (its-value op (meanings es env) t.0) (all-wholly es env t.1)
  wholly (matrix_ex es d) env t = (t.0, all-wholly es env t.1, dom-wholly d env t.2)
  wholly (comp_ex e gs) env t = gens-wholly gs env e (λ here u. wholly e here u) t
  wholly (cell_ex b n es) env t = all-wholly es env t
  wholly (seen_ex r d ns es) env t = tt

  pub all-wholly : (es : Exs) (env : Env) → TotalAll es env → TA es env
  all-wholly no_exs env t = tt
  all-wholly (more_exs e es) env t = (wholly e env t.0, all-wholly es env t.1)

  gens-wholly : (gs : Gens) (env : Env) (a : Ex) → ((here : Env) → Total a here → T a here) → TotalUnder gs env (λ here. Total a here) →
      UnderTotalButTests gs env (λ here. T a here)
  gens-wholly no_gens env a f t = f env t
  gens-wholly (over p d gs) env a f t =
      (dom-wholly d env t.0, each-of-map (members_in (domain_of d env)) _ _ (λ v. gens-wholly gs (with_pat p v env) a f) t.1)
  gens-wholly (from p e gs) env a f t =
      (wholly e env t.0, each-in-map (meaning e env) _ _ (λ v. gens-wholly gs (with_pat p v env) a f) t.1)
  gens-wholly (cond c gs) env a f t = (wholly c env t.0, λ q. gens-wholly gs env a f (t.1 q))

  dom-wholly : (d : Dom) (env : Env) → TotalDom d env → DomTotalButTests d env
  dom-wholly bool_dom env t = tt
  dom-wholly (int_dom rs es) env t = all-wholly es env t
  dom-wholly (name_dom a) env t = tt
  dom-wholly (tuple_dom ds) env t = doms-wholly ds env t
  dom-wholly (record_dom fs ds) env t = doms-wholly ds env t
  dom-wholly (matrix_dom is d) env t = (doms-wholly is env t.0, dom-wholly d env t.1)
  dom-wholly (set_dom ms es d) env t = (all-wholly es env t.0, dom-wholly d env t.1)
  dom-wholly (mset_dom ms es d) env t = (all-wholly es env t.0, dom-wholly d env t.1)
  dom-wholly (function_dom ms es d c) env t = (all-wholly es env t.0, dom-wholly d env t.1, dom-wholly c env t.2)
  dom-wholly (relation_dom ms es ds) env t = (all-wholly es env t.0, doms-wholly ds env t.1)
  dom-wholly (partition_dom ms es d) env t = (all-wholly es env t.0, dom-wholly d env t.1)

  doms-wholly : (ds : Doms) (env : Env) → TotalDoms ds env → DomsTotalButTests ds env
  doms-wholly no_doms env t = tt
  doms-wholly (more_doms d ds) env t = (dom-wholly d env t.0, doms-wholly ds env t.1)
