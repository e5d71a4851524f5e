-- A tree whose bound names are told apart has the names of the tree and those that it gets.
use Rattle.std.proofs.Common.{ℕ, ◌≤◌, ◌<◌, Bool, true, false, ◌∷◌, Some, if◌then◌else◌, arith}
use Rattle.std.specs.Prelude.{IsTrue}
use Rattle.ess_semantics.specs.Lists.{or_default}
use Rattle.ess_semantics.specs.Values.{Text}
use Rattle.ess_semantics.specs.Order.{same_text}
use Rattle.ess_semantics.specs.Names.{Names, look}
use Rattle.ess_semantics.specs.Trees.{Pat, Pats, name_pat, tuple_pat, no_pats, more_pats, Ex, Exs, number_ex, truth_ex, name_ex, node_ex, matrix_ex, comp_ex, cell_ex, seen_ex, no_exs, more_exs, Gens, no_gens, over, from, cond, Dom, Doms, bool_dom, int_dom, name_dom, tuple_dom, record_dom, matrix_dom, set_dom, mset_dom, function_dom, relation_dom, partition_dom, no_doms, more_doms}
use Rattle.ess_semantics.specs.Substitution.{Binds, BindsAll}
use Rattle.conjure_model_laws.specs.ToldApart.{reserved, renamed, told_pat, told_pats, told, told_all, told_gens, told_dom, told_doms}
use Rattle.ess_chain_names_laws.specs.NamesHave.{NamesHave, AllNamesHave, GensNamesHave, DomNamesHave, DomsNamesHave}
use Rattle.ess_chain_names_laws.proofs.NamesHave.{dom-wider}

pub on : (a b c : ℕ) → a ≤ b → b ≤ c → a ≤ c
on a b c p q = omega (arith, p, q)

pub itself : (a : ℕ) → a ≤ a
itself a = omega arith

-- ---- numbers rise

mutual
  pub pat-up : (p : Pat) (r : Names Text) (k : ℕ) → k ≤ (told_pat p r k).2
  pat-up (name_pat a) r k = omega arith
  pat-up (tuple_pat ps) r k = pats-up ps r k

  pub pats-up : (ps : Pats) (r : Names Text) (k : ℕ) → k ≤ (told_pats ps r k).2
  pats-up no_pats r k = itself k
  pats-up (more_pats p ps) r k = let q = told_pat p r k in on k q.2 (told_pats ps q.1 q.2).2 (pat-up p r k) (pats-up ps q.1 q.2)

mutual
  -- The next number behind an expression.
  pub ex-up : (e : Ex) (r : Names Text) (k : ℕ) → k ≤ (told e r k).1
  ex-up (number_ex m) r k = itself k
  ex-up (truth_ex m) r k = itself k
  ex-up (name_ex a) r k = itself k
  ex-up (node_ex q op es) r k = all-up es r k
  ex-up (matrix_ex es d) r k = let q = (told_all es r k).1 in on k q (told_dom d r q).1 (all-up es r k) (dom-up d r q)
  ex-up (comp_ex e gs) r k = let q = told_gens gs r k in on k q.2 (told e q.1 q.2).1 (gens-up gs r k) (ex-up e q.1 q.2)
  ex-up (cell_ex q c es) r k = all-up es r k
  ex-up (seen_ex s d ns es) r k = all-up es r k

  pub all-up : (es : Exs) (r : Names Text) (k : ℕ) → k ≤ (told_all es r k).1
  all-up no_exs r k = itself k
  all-up (more_exs e es) r k = let q = (told e r k).1 in on k q (told_all es r q).1 (ex-up e r k) (all-up es r q)

  pub gens-up : (gs : Gens) (r : Names Text) (k : ℕ) → k ≤ (told_gens gs r k).2
  gens-up no_gens r k = itself k
  gens-up (over p d gs) r k =
      let c = (told_dom d r k).1 in
      let q = told_pat p r c in
      on k c (told_gens gs q.1 q.2).2 (dom-up d r k) (on c q.2 (told_gens gs q.1 q.2).2 (pat-up p r c) (gens-up gs q.1 q.2))
  gens-up (from p e gs) r k =
      let c = (told e r k).1 in
      let q = told_pat p r c in
      on k c (told_gens gs q.1 q.2).2 (ex-up e r k) (on c q.2 (told_gens gs q.1 q.2).2 (pat-up p r c) (gens-up gs q.1 q.2))
  gens-up (cond e gs) r k = let c = (told e r k).1 in on k c (told_gens gs r c).2 (ex-up e r k) (gens-up gs r c)

  pub dom-up : (d : Dom) (r : Names Text) (k : ℕ) → k ≤ (told_dom d r k).1
  dom-up bool_dom r k = itself k
  dom-up (int_dom rs es) r k = all-up es r k
  dom-up (name_dom a) r k = itself k
  dom-up (tuple_dom ds) r k = doms-up ds r k
  dom-up (record_dom fs ds) r k = doms-up ds r k
  dom-up (matrix_dom is d) r k = let q = (told_doms is r k).1 in on k q (told_dom d r q).1 (doms-up is r k) (dom-up d r q)
  dom-up (set_dom ms es d) r k = let q = (told_all es r k).1 in on k q (told_dom d r q).1 (all-up es r k) (dom-up d r q)
  dom-up (mset_dom ms es d) r k = let q = (told_all es r k).1 in on k q (told_dom d r q).1 (all-up es r k) (dom-up d r q)
  dom-up (function_dom ms es d c) r k =
      let q = (told_all es r k).1 in
      let v = (told_dom d r q).1 in
      on k q (told_dom c r v).1 (all-up es r k) (on q v (told_dom c r v).1 (dom-up d r q) (dom-up c r v))
  dom-up (relation_dom ms es ds) r k = let q = (told_all es r k).1 in on k q (told_doms ds r q).1 (all-up es r k) (doms-up ds r q)
  dom-up (partition_dom ms es d) r k = let q = (told_all es r k).1 in on k q (told_dom d r q).1 (all-up es r k) (dom-up d r q)

  pub doms-up : (ds : Doms) (r : Names Text) (k : ℕ) → k ≤ (told_doms ds r k).1
  doms-up no_doms r k = itself k
  doms-up (more_doms d ds) r k = let q = (told_dom d r k).1 in on k q (told_doms ds r q).1 (dom-up d r k) (doms-up ds r q)

-- ---- names

-- u are the names of the tree, w those of the tree that it becomes: with u, and with reserved names before the K-th.
module _ (u w : Text → Bool) (K : ℕ) (wider : (a : Text) → IsTrue (u a) → IsTrue (w a)) (given : (i : ℕ) → i < K → IsTrue (w (reserved i)))
  where
    -- What the names of u have become is in w.
    abbrev InUse : Names Text → Type 0
    InUse r = (c : Text) → IsTrue (u c) → IsTrue (w (renamed r c))

    bound-used : (a : Text) (r : Names Text) (k : ℕ) → k < K → InUse r → InUse ((a, reserved k) ∷ r)
    bound-used a r k l f c t = go (same_text a c)
      where
        go : (q : Bool) → IsTrue (w (or_default (if q then Some (reserved k) else look r c) c))
        go true = given k l
        go false = f c t

    mutual
      pat-names : (p : Pat) (r : Names Text) (k : ℕ) → (told_pat p r k).2 ≤ K → InUse r →
          Binds w (told_pat p r k).0 × InUse (told_pat p r k).1
      pat-names (name_pat a) r k l f = let m : k < K = omega (arith, l) in (given k m, bound-used a r k m f)
      pat-names (tuple_pat ps) r k l f = pats-names ps r k l f

      pats-names : (ps : Pats) (r : Names Text) (k : ℕ) → (told_pats ps r k).2 ≤ K → InUse r →
          BindsAll w (told_pats ps r k).0 × InUse (told_pats ps r k).1
      pats-names no_pats r k l f = (tt, f)
      pats-names (more_pats p ps) r k l f =
          let q = told_pat p r k in
          let i = pat-names p r k (on q.2 (told_pats ps q.1 q.2).2 K (pats-up ps q.1 q.2) l) f in
          let j = pats-names ps q.1 q.2 l i.1 in
          ((i.0, j.0), j.1)

    mutual
      pub told-names : (e : Ex) (r : Names Text) (k : ℕ) → (told e r k).1 ≤ K → NamesHave u e → InUse r → NamesHave w (told e r k).0
      told-names (number_ex m) r k l h f = tt
      told-names (truth_ex m) r k l h f = tt
      told-names (name_ex a) r k l h f = f a h
      told-names (node_ex q op es) r k l h f = all-names es r k l h f
      told-names (matrix_ex es d) r k l h f =
          let q = (told_all es r k).1 in
          (all-names es r k (on q (told_dom d r q).1 K (dom-up d r q) l) h.0 f, dom-names d r q l h.1 f)
      told-names (comp_ex e gs) r k l h f =
          let q = told_gens gs r k in
          let i = gens-names gs r k (on q.2 (told e q.1 q.2).1 K (ex-up e q.1 q.2) l) h.1 f in
          (told-names e q.1 q.2 l h.0 i.1, i.0)
      told-names (cell_ex q c es) r k l h f = (wider c h.0, all-names es r k l h.1 f)
      told-names (seen_ex s d ns es) r k l h f = (dom-wider u w wider d h.0, all-names es r k l h.1 f)

      all-names : (es : Exs) (r : Names Text) (k : ℕ) → (told_all es r k).1 ≤ K → AllNamesHave u es → InUse r →
          AllNamesHave w (told_all es r k).0
      all-names no_exs r k l h f = tt
      all-names (more_exs e es) r k l h f =
          let q = (told e r k).1 in
          (told-names e r k (on q (told_all es r q).1 K (all-up es r q) l) h.0 f, all-names es r q l h.1 f)

      gens-names : (gs : Gens) (r : Names Text) (k : ℕ) → (told_gens gs r k).2 ≤ K → GensNamesHave u gs → InUse r →
          GensNamesHave w (told_gens gs r k).0 × InUse (told_gens gs r k).1
      gens-names no_gens r k l h f = (tt, f)
      gens-names (over p d gs) r k l h f =
          let c = (told_dom d r k).1 in
          let q = told_pat p r c in
          let m = on q.2 (told_gens gs q.1 q.2).2 K (gens-up gs q.1 q.2) l in
          let i = pat-names p r c m f in
          let j = gens-names gs q.1 q.2 l h.2 i.1 in
          ((i.0, dom-names d r k (on c q.2 K (pat-up p r c) m) h.1 f, j.0), j.1)
      gens-names (from p e gs) r k l h f =
          let c = (told e r k).1 in
          let q = told_pat p r c in
          let m = on q.2 (told_gens gs q.1 q.2).2 K (gens-up gs q.1 q.2) l in
          let i = pat-names p r c m f in
          let j = gens-names gs q.1 q.2 l h.2 i.1 in
          ((i.0, told-names e r k (on c q.2 K (pat-up p r c) m) h.1 f, j.0), j.1)
      gens-names (cond e gs) r k l h f =
          let c = (told e r k).1 in
          let j = gens-names gs r c l h.1 f in
          ((told-names e r k (on c (told_gens gs r c).2 K (gens-up gs r c) l) h.0 f, j.0), j.1)

      dom-names : (d : Dom) (r : Names Text) (k : ℕ) → (told_dom d r k).1 ≤ K → DomNamesHave u d → InUse r →
          DomNamesHave w (told_dom d r k).0
      dom-names bool_dom r k l h f = tt
      dom-names (int_dom rs es) r k l h f = all-names es r k l h f
      dom-names (name_dom a) r k l h f = tt
      dom-names (tuple_dom ds) r k l h f = doms-names ds r k l h f
      dom-names (record_dom fs ds) r k l h f = doms-names ds r k l h f
      dom-names (matrix_dom is d) r k l h f =
          let q = (told_doms is r k).1 in
          (doms-names is r k (on q (told_dom d r q).1 K (dom-up d r q) l) h.0 f, dom-names d r q l h.1 f)
      dom-names (set_dom ms es d) r k l h f =
          let q = (told_all es r k).1 in
          (all-names es r k (on q (told_dom d r q).1 K (dom-up d r q) l) h.0 f, dom-names d r q l h.1 f)
      dom-names (mset_dom ms es d) r k l h f =
          let q = (told_all es r k).1 in
          (all-names es r k (on q (told_dom d r q).1 K (dom-up d r q) l) h.0 f, dom-names d r q l h.1 f)
      dom-names (function_dom ms es d c) r k l h f =
          let q = (told_all es r k).1 in
          let v = (told_dom d r q).1 in
          let m = on v (told_dom c r v).1 K (dom-up c r v) l in
          (all-names es r k (on q v K (dom-up d r q) m) h.0 f, dom-names d r q m h.1 f, dom-names c r v l h.2 f)
      dom-names (relation_dom ms es ds) r k l h f =
          let q = (told_all es r k).1 in
          (all-names es r k (on q (told_doms ds r q).1 K (doms-up ds r q) l) h.0 f, doms-names ds r q l h.1 f)
      dom-names (partition_dom ms es d) r k l h f =
          let q = (told_all es r k).1 in
          (all-names es r k (on q (told_dom d r q).1 K (dom-up d r q) l) h.0 f, dom-names d r q l h.1 f)

      doms-names : (ds : Doms) (r : Names Text) (k : ℕ) → (told_doms ds r k).1 ≤ K → DomsNamesHave u ds → InUse r →
          DomsNamesHave w (told_doms ds r k).0
      doms-names no_doms r k l h f = tt
      doms-names (more_doms d ds) r k l h f =
          let q = (told_dom d r k).1 in
          (dom-names d r k (on q (told_doms ds r q).1 K (doms-up ds r q) l) h.0 f, doms-names ds r q l h.1 f)
