-- Bound names told apart use numbers that rise: the next number is never below the first one. And a tree without views stays one.
use Rattle.std.proofs.Common.{ℕ, ◌≤◌, arith}
use Rattle.ess_semantics.specs.Values.{Text}
use Rattle.ess_semantics.specs.Names.{Names}
use Rattle.ess_semantics.specs.Trees.{Pat, Pats, name_pat, tuple_pat, no_pats, more_pats, Ex, Exs, number_ex, truth_ex, name_ex, node_ex, matrix_ex, comp_ex, cell_ex, seen_ex, no_exs, more_exs, Gens, no_gens, over, from, cond, Dom, Doms, bool_dom, int_dom, name_dom, tuple_dom, record_dom, matrix_dom, set_dom, mset_dom, function_dom, relation_dom, partition_dom, no_doms, more_doms}
use Rattle.conjure_laws.specs.PlainTrees.{Plain, PlainAll, PlainGens, PlainDom, PlainDoms}
use Rattle.conjure_model_laws.specs.ToldApart.{told_pat, told_pats, told, told_all, told_gens, told_dom, told_doms}

pub le-on : (a b c : ℕ) → a ≤ b → b ≤ c → a ≤ c
le-on a b c p q = omega (arith, p, q)

le-self : (a : ℕ) → a ≤ a
le-self a = omega arith

mutual
  pub pat-up : (p : Pat) (r : Names Text) (k : ℕ) → k ≤ (told_pat p r k).2
  pat-up (name_pat a) r k = omega arith
  pat-up (tuple_pat ps) r k = pats-up ps r k

  pub pats-up : (ps : Pats) (r : Names Text) (k : ℕ) → k ≤ (told_pats ps r k).2
  pats-up no_pats r k = le-self k
  pats-up (more_pats p ps) r k =
      let q = told_pat p r k in le-on k q.2 (told_pats ps q.1 q.2).2 (pat-up p r k) (pats-up ps q.1 q.2)

mutual
  -- The next number behind an expression.
  pub ex-up : (e : Ex) (r : Names Text) (k : ℕ) → k ≤ (told e r k).1
  ex-up (number_ex m) r k = le-self k
  ex-up (truth_ex m) r k = le-self k
  ex-up (name_ex a) r k = le-self k
  ex-up (node_ex q op es) r k = all-up es r k
  ex-up (matrix_ex es d) r k = let q = (told_all es r k).1 in le-on k q (told_dom d r q).1 (all-up es r k) (dom-up d r q)
  ex-up (comp_ex e gs) r k = let q = told_gens gs r k in le-on k q.2 (told e q.1 q.2).1 (gens-up gs r k) (ex-up e q.1 q.2)
  ex-up (cell_ex q c es) r k = all-up es r k
  ex-up (seen_ex s d ns es) r k = all-up es r k

  pub all-up : (es : Exs) (r : Names Text) (k : ℕ) → k ≤ (told_all es r k).1
  all-up no_exs r k = le-self k
  all-up (more_exs e es) r k = let q = (told e r k).1 in le-on k q (told_all es r q).1 (ex-up e r k) (all-up es r q)

  pub gens-up : (gs : Gens) (r : Names Text) (k : ℕ) → k ≤ (told_gens gs r k).2
  gens-up no_gens r k = le-self k
  gens-up (over p d gs) r k =
      let c = (told_dom d r k).1 in
      let q = told_pat p r c in
      le-on k c (told_gens gs q.1 q.2).2 (dom-up d r k) (le-on c q.2 (told_gens gs q.1 q.2).2 (pat-up p r c) (gens-up gs q.1 q.2))
  gens-up (from p e gs) r k =
      let c = (told e r k).1 in
      let q = told_pat p r c in
      le-on k c (told_gens gs q.1 q.2).2 (ex-up e r k) (le-on c q.2 (told_gens gs q.1 q.2).2 (pat-up p r c) (gens-up gs q.1 q.2))
  gens-up (cond e gs) r k = let c = (told e r k).1 in le-on k c (told_gens gs r c).2 (ex-up e r k) (gens-up gs r c)

  pub dom-up : (d : Dom) (r : Names Text) (k : ℕ) → k ≤ (told_dom d r k).1
  dom-up bool_dom r k = le-self k
  dom-up (int_dom rs es) r k = all-up es r k
  dom-up (name_dom a) r k = le-self k
  dom-up (tuple_dom ds) r k = doms-up ds r k
  dom-up (record_dom fs ds) r k = doms-up ds r k
  dom-up (matrix_dom is d) r k = let q = (told_doms is r k).1 in le-on k q (told_dom d r q).1 (doms-up is r k) (dom-up d r q)
  dom-up (set_dom ms es d) r k = let q = (told_all es r k).1 in le-on k q (told_dom d r q).1 (all-up es r k) (dom-up d r q)
  dom-up (mset_dom ms es d) r k = let q = (told_all es r k).1 in le-on k q (told_dom d r q).1 (all-up es r k) (dom-up d r q)
  dom-up (function_dom ms es d c) r k =
      let q = (told_all es r k).1 in
      let u = (told_dom d r q).1 in
      le-on k q (told_dom c r u).1 (all-up es r k) (le-on q u (told_dom c r u).1 (dom-up d r q) (dom-up c r u))
  dom-up (relation_dom ms es ds) r k = let q = (told_all es r k).1 in le-on k q (told_doms ds r q).1 (all-up es r k) (doms-up ds r q)
  dom-up (partition_dom ms es d) r k = let q = (told_all es r k).1 in le-on k q (told_dom d r q).1 (all-up es r k) (dom-up d r q)

  pub doms-up : (ds : Doms) (r : Names Text) (k : ℕ) → k ≤ (told_doms ds r k).1
  doms-up no_doms r k = le-self k
  doms-up (more_doms d ds) r k = let q = (told_dom d r k).1 in le-on k q (told_doms ds r q).1 (dom-up d r k) (doms-up ds r q)

mutual
  -- Neither cells nor views come in.
  pub ex-plain : (e : Ex) (r : Names Text) (k : ℕ) → Plain e → Plain (told e r k).0
  ex-plain (number_ex m) r k w = tt
  ex-plain (truth_ex m) r k w = tt
  ex-plain (name_ex a) r k w = tt
  ex-plain (node_ex q op es) r k w = all-plain es r k w
  ex-plain (matrix_ex es d) r k w = (all-plain es r k w.0, dom-plain d r (told_all es r k).1 w.1)
  ex-plain (comp_ex e gs) r k w = let q = told_gens gs r k in (ex-plain e q.1 q.2 w.0, gens-plain gs r k w.1)
  ex-plain (cell_ex q c es) r k w = absurd w
  ex-plain (seen_ex s d ns es) r k w = absurd w

  all-plain : (es : Exs) (r : Names Text) (k : ℕ) → PlainAll es → PlainAll (told_all es r k).0
  all-plain no_exs r k w = tt
  all-plain (more_exs e es) r k w = (ex-plain e r k w.0, all-plain es r (told e r k).1 w.1)

  gens-plain : (gs : Gens) (r : Names Text) (k : ℕ) → PlainGens gs → PlainGens (told_gens gs r k).0
  gens-plain no_gens r k w = tt
  gens-plain (over p d gs) r k w =
      let q = told_pat p r (told_dom d r k).1 in (dom-plain d r k w.0, gens-plain gs q.1 q.2 w.1)
  gens-plain (from p e gs) r k w = let q = told_pat p r (told e r k).1 in (ex-plain e r k w.0, gens-plain gs q.1 q.2 w.1)
  gens-plain (cond e gs) r k w = (ex-plain e r k w.0, gens-plain gs r (told e r k).1 w.1)

  pub dom-plain : (d : Dom) (r : Names Text) (k : ℕ) → PlainDom d → PlainDom (told_dom d r k).0
  dom-plain bool_dom r k w = tt
  dom-plain (int_dom rs es) r k w = all-plain es r k w
  dom-plain (name_dom a) r k w = tt
  dom-plain (tuple_dom ds) r k w = doms-plain ds r k w
  dom-plain (record_dom fs ds) r k w = doms-plain ds r k w
  dom-plain (matrix_dom is d) r k w = (doms-plain is r k w.0, dom-plain d r (told_doms is r k).1 w.1)
  dom-plain (set_dom ms es d) r k w = (all-plain es r k w.0, dom-plain d r (told_all es r k).1 w.1)
  dom-plain (mset_dom ms es d) r k w = (all-plain es r k w.0, dom-plain d r (told_all es r k).1 w.1)
  dom-plain (function_dom ms es d c) r k w =
      let q = (told_all es r k).1 in (all-plain es r k w.0, dom-plain d r q w.1, dom-plain c r (told_dom d r q).1 w.2)
  dom-plain (relation_dom ms es ds) r k w = (all-plain es r k w.0, doms-plain ds r (told_all es r k).1 w.1)
  dom-plain (partition_dom ms es d) r k w = (all-plain es r k w.0, dom-plain d r (told_all es r k).1 w.1)

  doms-plain : (ds : Doms) (r : Names Text) (k : ℕ) → PlainDoms ds → PlainDoms (told_doms ds r k).0
  doms-plain no_doms r k w = tt
  doms-plain (more_doms d ds) r k w = (dom-plain d r k w.0, doms-plain ds r (told_dom d r k).1 w.1)
