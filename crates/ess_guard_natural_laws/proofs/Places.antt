-- What is total is so in each place: nodes in natural places and out of them.
use Rattle.std.proofs.Common.{◌≡◌, Bool, true, false, ◌&&◌, ◌||◌}
use Rattle.ess_semantics.specs.Trees.{Op, Ex, Exs, number_ex, truth_ex, name_ex, node_ex, matrix_ex, comp_ex, cell_ex, seen_ex, no_exs, more_exs, Gens, no_gens, over, from, cond, Dom, Doms, bool_dom, int_dom, name_dom, tuple_dom, record_dom, matrix_dom, set_dom, mset_dom, function_dom, relation_dom, partition_dom, no_doms, more_doms}
use Rattle.ess_semantics.specs.Operators.{value_of_node}
use Rattle.ess_semantics.specs.Meaning.{Env, meaning, meanings, domain_of, members_in, with_pat}
use Rattle.ess_semantics.specs.Totality.{HasValue, Total, TotalAll, TotalUnder, TotalDom, TotalDoms}
use Rattle.ess_rules_laws.proofs.Bindings.{each-of-map, each-in-map}
use Rattle.ess_guard_laws.specs.Guard.{counts, is_plain}
use Rattle.ess_guard_laws.specs.Supplied.{Unless}
use Rattle.ess_guard_laws.proofs.Safe.{is_safe, node-some}
use Rattle.ess_guard_natural_laws.specs.TotalButNatural.{opens_places, may_lack, TotalButNatural, AllTotalButNatural, UnderTotalButNatural, DomTotalButNatural, DomsTotalButNatural}

-- Out of natural places.
abbrev pub T : Ex → Env → Type 0
T e env = TotalButNatural false e env

-- The same of operands.
abbrev pub TA : Exs → Env → Type 0
TA es env = AllTotalButNatural false es env

-- What holds is asked or not.
pub unless-there : (t : Bool) (P : Type 0) → P → Unless t P
unless-there true P p = tt
unless-there false P p = p

mutual
  -- What is total out of natural places is so in one.
  pub placed : (w : Bool) (e : Ex) (env : Env) → T e env → TotalButNatural w e env
  placed w (number_ex n) env t = tt
  placed w (truth_ex b) env t = tt
  placed w (name_ex a) env t = tt
  placed w (node_ex true op es) env t = t
  placed w (node_ex false op es) env t =
      (unless-there (w && is_plain op) _ t.0, all-placed (w && counts op) es env t.1)
  placed w (matrix_ex es d) env t = t
  placed w (comp_ex e gs) env t = t
  placed w (cell_ex b n es) env t = t
  placed w (seen_ex r d ns es) env t = tt

  -- The same of operands.
  pub all-placed : (w : Bool) (es : Exs) (env : Env) → TA es env → AllTotalButNatural w es env
  all-placed w no_exs env t = tt
  all-placed w (more_exs e es) env t = (placed w e env t.0, all-placed w es env t.1)

-- A node that has a value where its operands have values.
pub node-total : (w b : Bool) (op : Op) (es : Exs) (env : Env) → HasValue (value_of_node op (meanings es env)) (meanings es env) →
    TA es env → TotalButNatural w (node_ex b op es) env
node-total w b op es env h t = (unless-there (may_lack w b op) _ h, all-placed (opens_places w b op) es env t)

-- A node of an operator that asks for nothing.
pub safe-total : (b : Bool) (op : Op) (es : Exs) (env : Env) → is_safe op ≡ true → TA es env → T (node_ex b op es) env
safe-total b op es env s t = node-total false b op es env (λ h. node-some op (meanings es env) s h) t

-- What follows at each binding.
pub under-map : (gs : Gens) (env : Env) (P Q : Env → Type 0) → ((h : Env) → P h → Q h) → UnderTotalButNatural gs env P →
    UnderTotalButNatural gs env Q
under-map no_gens env P Q f m = f env m
under-map (over p d gs) env P Q f m =
    (m.0, each-of-map (members_in (domain_of d env)) _ _ (λ v. under-map gs (with_pat p v env) P Q f) m.1)
under-map (from p e gs) env P Q f m = (m.0, each-in-map (meaning e env) _ _ (λ v. under-map gs (with_pat p v env) P Q f) m.1)
under-map (cond c gs) env P Q f m = (m.0, λ t. under-map gs env P Q f (m.1 t))

mutual
  -- What is total is total but for nothing.
  pub wholly : (e : Ex) (env : Env) → Total e env → T e env
  wholly (number_ex n) env t = tt
  wholly (truth_ex b) env t = tt
  wholly (name_ex a) env t = tt
  wholly (node_ex b op es) env t = node-total false b op es env t.0 (all-wholly es env t.1)
  wholly (matrix_ex es d) env t = (t.0, all-wholly es env t.1, dom-wholly d env t.2)
  wholly (comp_ex e gs) env t = gens-wholly gs env e (λ here u. wholly e here u) t
  wholly (cell_ex b n es) env t = all-wholly es env t
  wholly (seen_ex r d ns es) env t = tt

  pub all-wholly : (es : Exs) (env : Env) → TotalAll es env → TA es env
  all-wholly no_exs env t = tt
  all-wholly (more_exs e es) env t = (wholly e env t.0, all-wholly es env t.1)

  gens-wholly : (gs : Gens) (env : Env) (a : Ex) → ((here : Env) → Total a here → T a here) → TotalUnder gs env (λ here. Total a here) →
      UnderTotalButNatural gs env (λ here. T a here)
  gens-wholly no_gens env a f t = f env t
  gens-wholly (over p d gs) env a f t =
      (dom-wholly d env t.0, each-of-map (members_in (domain_of d env)) _ _ (λ v. gens-wholly gs (with_pat p v env) a f) t.1)
  gens-wholly (from p e gs) env a f t =
      (wholly e env t.0, each-in-map (meaning e env) _ _ (λ v. gens-wholly gs (with_pat p v env) a f) t.1)
  gens-wholly (cond c gs) env a f t = (wholly c env t.0, λ q. gens-wholly gs env a f (t.1 q))

  dom-wholly : (d : Dom) (env : Env) → TotalDom d env → DomTotalButNatural d env
  dom-wholly bool_dom env t = tt
  dom-wholly (int_dom rs es) env t = all-wholly es env t
  dom-wholly (name_dom a) env t = tt
  dom-wholly (tuple_dom ds) env t = doms-wholly ds env t
  dom-wholly (record_dom fs ds) env t = doms-wholly ds env t
  dom-wholly (matrix_dom is d) env t = (doms-wholly is env t.0, dom-wholly d env t.1)
  dom-wholly (set_dom ms es d) env t = (all-wholly es env t.0, dom-wholly d env t.1)
  dom-wholly (mset_dom ms es d) env t = (all-wholly es env t.0, dom-wholly d env t.1)
  dom-wholly (function_dom ms es d c) env t = (all-wholly es env t.0, dom-wholly d env t.1, dom-wholly c env t.2)
  dom-wholly (relation_dom ms es ds) env t = (all-wholly es env t.0, doms-wholly ds env t.1)
  dom-wholly (partition_dom ms es d) env t = (all-wholly es env t.0, dom-wholly d env t.1)

  doms-wholly : (ds : Doms) (env : Env) → TotalDoms ds env → DomsTotalButNatural ds env
  doms-wholly no_doms env t = tt
  doms-wholly (more_doms d ds) env t = (dom-wholly d env t.0, doms-wholly ds env t.1)
