-- A tree whose bound names are told apart binds reserved names alone, and uses those and what its free names are.
use Rattle.std.proofs.Common.{◌≡◌, refl, ℕ, Bool, true, false, ◌||◌, ◌∷◌, Some, if◌then◌else◌}
use Rattle.std.specs.Prelude.{IsTrue}
use Rattle.ess_semantics.specs.Lists.{or_default}
use Rattle.ess_semantics.specs.Values.{Text}
use Rattle.ess_semantics.specs.Order.{same_text}
use Rattle.ess_semantics.specs.Names.{Names, look}
use Rattle.ess_semantics.specs.Trees.{Pat, Pats, name_pat, tuple_pat, no_pats, more_pats, Ex, Exs, number_ex, truth_ex, name_ex, node_ex, matrix_ex, comp_ex, cell_ex, seen_ex, no_exs, more_exs, Gens, no_gens, over, from, cond, Dom, Doms, bool_dom, int_dom, name_dom, tuple_dom, record_dom, matrix_dom, set_dom, mset_dom, function_dom, relation_dom, partition_dom, no_doms, more_doms}
use Rattle.ess_semantics.specs.Scoped.{is_bound, is_bound_by_some, with_names}
use Rattle.ess_semantics.specs.FreeNames.{with_bound_names, FreeNamesAre, FreeNamesAreExs, FreeNamesAreGens, FreeNamesAreDom, FreeNamesAreDoms}
use Rattle.ess_semantics.specs.Substitution.{Binds, BindsAll, NamesAre, NamesAreExs, NamesAreGens, NamesAreDom, NamesAreDoms}
use Rattle.conjure_laws.specs.PlainTrees.{Plain, PlainAll, PlainGens, PlainDom, PlainDoms}
use Rattle.conjure_model_laws.specs.ToldApart.{reserved, renamed, told_pat, told_pats, told, told_all, told_gens, told_dom, told_doms}
use Rattle.conjure_model_laws.proofs.Renames.{or-first, or-shifted}

-- n holds of names in use, b of those that are bound; both hold of reserved names
module _ (n b : Text → Bool) (used : (k : ℕ) → IsTrue (n (reserved k))) (bound : (k : ℕ) → IsTrue (b (reserved k))) where
  -- What the names of u have become is in use.
  abbrev InUse : (Text → Bool) → Names Text → Type 0
  InUse u r = (c : Text) → IsTrue (u c) → IsTrue (n (renamed r c))

  bound-used : (a : Text) (u : Text → Bool) (r : Names Text) (k : ℕ) → InUse u r → InUse (with_names u (name_pat a)) ((a, reserved k) ∷ r)
  bound-used a u r k f c t = go (same_text a c) refl
    where
      go : (q : Bool) → same_text a c ≡ q → IsTrue (n (or_default (if q then Some (reserved k) else look r c) c))
      go true e = used k
      go false e = f c (or-first (u c) (same_text a c) e t)

  mutual
    pat-names : (p : Pat) (u : Text → Bool) (r : Names Text) (k : ℕ) → InUse u r →
        Binds b (told_pat p r k).0 × InUse (with_names u p) (told_pat p r k).1
    pat-names (name_pat a) u r k f = (bound k, bound-used a u r k f)
    pat-names (tuple_pat ps) u r k f = pats-names ps u r k f

    pats-names : (ps : Pats) (u : Text → Bool) (r : Names Text) (k : ℕ) → InUse u r →
        BindsAll b (told_pats ps r k).0 × InUse (λ a. u a || is_bound_by_some ps a) (told_pats ps r k).1
    pats-names no_pats u r k f = (tt, λ c t. f c (or-first (u c) false refl t))
    pats-names (more_pats p ps) u r k f =
        let q = told_pat p r k in
        let i = pat-names p u r k f in
        let j = pats-names ps (with_names u p) q.1 q.2 i.1 in
        ((i.0, j.0), λ c t. j.1 c (or-shifted (u c) (is_bound p c) (is_bound_by_some ps c) t))

  mutual
    pub ex-names : (e : Ex) (u : Text → Bool) (r : Names Text) (k : ℕ) → Plain e → FreeNamesAre u e → InUse u r →
        NamesAre n b (told e r k).0
    ex-names (number_ex m) u r k w o f = tt
    ex-names (truth_ex m) u r k w o f = tt
    ex-names (name_ex a) u r k w o f = f a o
    ex-names (node_ex q op es) u r k w o f = all-names es u r k w o f
    ex-names (matrix_ex es d) u r k w o f = (all-names es u r k w.0 o.0 f, dom-names d u r (told_all es r k).1 w.1 o.1 f)
    ex-names (comp_ex e gs) u r k w o f =
        let q = told_gens gs r k in
        let i = gens-names gs u r k w.1 o.0 f in
        (ex-names e (with_bound_names u gs) q.1 q.2 w.0 o.1 i.1, i.0)
    ex-names (cell_ex q c es) u r k w o f = absurd w
    ex-names (seen_ex s d ns es) u r k w o f = absurd w

    all-names : (es : Exs) (u : Text → Bool) (r : Names Text) (k : ℕ) → PlainAll es → FreeNamesAreExs u es → InUse u r →
        NamesAreExs n b (told_all es r k).0
    all-names no_exs u r k w o f = tt
    all-names (more_exs e es) u r k w o f = (ex-names e u r k w.0 o.0 f, all-names es u r (told e r k).1 w.1 o.1 f)

    gens-names : (gs : Gens) (u : Text → Bool) (r : Names Text) (k : ℕ) → PlainGens gs → FreeNamesAreGens u gs → InUse u r →
        NamesAreGens n b (told_gens gs r k).0 × InUse (with_bound_names u gs) (told_gens gs r k).1
    gens-names no_gens u r k w o f = (tt, f)
    gens-names (over p d gs) u r k w o f =
        let c = (told_dom d r k).1 in
        let q = told_pat p r c in
        let i = pat-names p u r c f in
        let j = gens-names gs (with_names u p) q.1 q.2 w.1 o.1 i.1 in
        ((i.0, dom-names d u r k w.0 o.0 f, j.0), j.1)
    gens-names (from p e gs) u r k w o f =
        let c = (told e r k).1 in
        let q = told_pat p r c in
        let i = pat-names p u r c f in
        let j = gens-names gs (with_names u p) q.1 q.2 w.1 o.1 i.1 in
        ((i.0, ex-names e u r k w.0 o.0 f, j.0), j.1)
    gens-names (cond e gs) u r k w o f =
        let j = gens-names gs u r (told e r k).1 w.1 o.1 f in ((ex-names e u r k w.0 o.0 f, j.0), j.1)

    pub dom-names : (d : Dom) (u : Text → Bool) (r : Names Text) (k : ℕ) → PlainDom d → FreeNamesAreDom u d → InUse u r →
        NamesAreDom n b (told_dom d r k).0
    dom-names bool_dom u r k w o f = tt
    dom-names (int_dom rs es) u r k w o f = all-names es u r k w o f
    dom-names (name_dom a) u r k w o f = tt
    dom-names (tuple_dom ds) u r k w o f = doms-names ds u r k w o f
    dom-names (record_dom fs ds) u r k w o f = doms-names ds u r k w o f
    dom-names (matrix_dom is d) u r k w o f = (doms-names is u r k w.0 o.0 f, dom-names d u r (told_doms is r k).1 w.1 o.1 f)
    dom-names (set_dom ms es d) u r k w o f = (all-names es u r k w.0 o.0 f, dom-names d u r (told_all es r k).1 w.1 o.1 f)
    dom-names (mset_dom ms es d) u r k w o f = (all-names es u r k w.0 o.0 f, dom-names d u r (told_all es r k).1 w.1 o.1 f)
    dom-names (function_dom ms es d c) u r k w o f =
        let q = (told_all es r k).1 in
        (all-names es u r k w.0 o.0 f, dom-names d u r q w.1 o.1 f, dom-names c u r (told_dom d r q).1 w.2 o.2 f)
    dom-names (relation_dom ms es ds) u r k w o f = (all-names es u r k w.0 o.0 f, doms-names ds u r (told_all es r k).1 w.1 o.1 f)
    dom-names (partition_dom ms es d) u r k w o f = (all-names es u r k w.0 o.0 f, dom-names d u r (told_all es r k).1 w.1 o.1 f)

    doms-names : (ds : Doms) (u : Text → Bool) (r : Names Text) (k : ℕ) → PlainDoms ds → FreeNamesAreDoms u ds → InUse u r →
        NamesAreDoms n b (told_doms ds r k).0
    doms-names no_doms u r k w o f = tt
    doms-names (more_doms d ds) u r k w o f = (dom-names d u r k w.0 o.0 f, doms-names ds u r (told_dom d r k).1 w.1 o.1 f)
