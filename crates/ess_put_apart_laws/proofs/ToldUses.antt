-- A tree in scope, told apart anew, uses names in scope and new ones, and binds new ones alone.
use Rattle.std.proofs.Common.{◌≡◌, refl, ℕ, ◌<◌, ◌≤◌, Bool, true, false, ◌||◌, ◌∷◌, Some, if◌then◌else◌, arith}
use Rattle.std.specs.Prelude.{IsTrue}
use Rattle.ess_semantics.specs.Lists.{or_default}
use Rattle.ess_semantics.specs.Values.{Text}
use Rattle.ess_semantics.specs.Order.{same_text}
use Rattle.ess_semantics.specs.Names.{Names, look}
use Rattle.ess_semantics.specs.Trees.{Pat, Pats, name_pat, tuple_pat, no_pats, more_pats, Ex, Exs, number_ex, truth_ex, name_ex, node_ex, matrix_ex, comp_ex, cell_ex, seen_ex, no_exs, more_exs, Gens, no_gens, over, from, cond, Dom, Doms, bool_dom, int_dom, name_dom, tuple_dom, record_dom, matrix_dom, set_dom, mset_dom, function_dom, relation_dom, partition_dom, no_doms, more_doms}
use Rattle.ess_semantics.specs.Scoped.{is_bound, is_bound_by_some, with_names, IsPlainIndex, Scoped, ScopedExs, ScopedGens, ScopedDom, ScopedDoms}
use Rattle.ess_semantics.specs.Substitution.{Binds, BindsAll, NamesAre, NamesAreExs, NamesAreGens, NamesAreDom, NamesAreDoms}
use Rattle.ess_rules_laws.proofs.UsedNames.{names-map-dom}
use Rattle.conjure_model_laws.specs.ToldApart.{reserved, renamed, told_pat, told_pats, told, told_all, told_gens, told_dom, told_doms}
use Rattle.ess_chain_names_laws.proofs.ToldNames.{on, pat-up, pats-up, ex-up, all-up, gens-up, dom-up, doms-up}
use Rattle.ess_told_over_laws.proofs.Renamed.{or-left, or-first, or-shifted, or-both}
use Rattle.ess_put_apart_laws.specs.RenewedApart.{ViewsBindNone, AllViewsBindNone, GensViewsBindNone, DomViewsBindNone, DomsViewsBindNone}

-- z are the names that domains of declarations use; w has these and the reserved names from the j-th on, before the K-th, which b has.
module _ (z w b : Text → Bool) (j K : ℕ) (views : (c : Text) → IsTrue (z c) → IsTrue (w c))
    (used : (i : ℕ) → j ≤ i → i < K → IsTrue (w (reserved i))) (bound : (i : ℕ) → j ≤ i → i < K → IsTrue (b (reserved i))) where
  -- What the names of s have become is in w.
  abbrev pub InUse : (Text → Bool) → Names Text → Type 0
  InUse s r = (c : Text) → IsTrue (s c) → IsTrue (w (renamed r c))

  bound-used : (a : Text) (s : Text → Bool) (r : Names Text) (k : ℕ) → j ≤ k → k < K → InUse s r →
      InUse (with_names s (name_pat a)) ((a, reserved k) ∷ r)
  bound-used a s r k m l f c t = go (same_text a c) refl
    where
      go : (q : Bool) → same_text a c ≡ q → IsTrue (w (or_default (if q then Some (reserved k) else look r c) c))
      go true e = used k m l
      go false e = f c (or-first (s c) (same_text a c) e t)

  mutual
    pat-uses : (p : Pat) (s : Text → Bool) (r : Names Text) (k : ℕ) → j ≤ k → (told_pat p r k).2 ≤ K → InUse s r →
        Binds b (told_pat p r k).0 × InUse (with_names s p) (told_pat p r k).1
    pat-uses (name_pat a) s r k m l f = let n : k < K = omega (arith, l) in (bound k m n, bound-used a s r k m n f)
    pat-uses (tuple_pat ps) s r k m l f = pats-use ps s r k m l f

    pats-use : (ps : Pats) (s : Text → Bool) (r : Names Text) (k : ℕ) → j ≤ k → (told_pats ps r k).2 ≤ K → InUse s r →
        BindsAll b (told_pats ps r k).0 × InUse (λ c. s c || is_bound_by_some ps c) (told_pats ps r k).1
    pats-use no_pats s r k m l f = (tt, λ c t. f c (or-first (s c) false refl t))
    pats-use (more_pats p ps) s r k m l f =
        let q = told_pat p r k in
        let i = pat-uses p s r k m (on q.2 (told_pats ps q.1 q.2).2 K (pats-up ps q.1 q.2) l) f in
        let i' = pats-use ps (with_names s p) q.1 q.2 (on j k q.2 m (pat-up p r k)) l i.1 in
        ((i.0, i'.0), λ c t. i'.1 c (or-shifted (s c) (is_bound p c) (is_bound_by_some ps c) t))

  index-uses : (es : Exs) (s o : Text → Bool) (r : Names Text) (k : ℕ) → IsPlainIndex o es → ((c : Text) → IsTrue (o c) → IsTrue (s c)) →
      InUse s r → NamesAreExs w b (told_all es r k).0
  index-uses no_exs s o r k x n f = tt
  index-uses (more_exs (number_ex i) es) s o r k x n f = (tt, index-uses es s o r k x n f)
  index-uses (more_exs (name_ex a) es) s o r k x n f = (f a (n a x.0), index-uses es s o r k x.1 n f)
  index-uses (more_exs (truth_ex i) es) s o r k x n f = absurd x
  index-uses (more_exs (node_ex q op ds) es) s o r k x n f = absurd x
  index-uses (more_exs (matrix_ex ds d) es) s o r k x n f = absurd x
  index-uses (more_exs (comp_ex e gs) es) s o r k x n f = absurd x
  index-uses (more_exs (cell_ex q i ds) es) s o r k x n f = absurd x
  index-uses (more_exs (seen_ex y d ns ds) es) s o r k x n f = absurd x

  -- The names bound over domains are in scope.
  abbrev In : (Text → Bool) → (Text → Bool) → Type 0
  In s o = (c : Text) → IsTrue (o c) → IsTrue (s c)

  mutual
    pub told-uses : (e : Ex) (s o : Text → Bool) (r : Names Text) (k : ℕ) → Scoped z s o e → ViewsBindNone z e → j ≤ k →
        (told e r k).1 ≤ K → In s o → InUse s r → NamesAre w b (told e r k).0
    told-uses (number_ex i) s o r k x v m l n f = tt
    told-uses (truth_ex i) s o r k x v m l n f = tt
    told-uses (name_ex a) s o r k x v m l n f = f a x
    told-uses (node_ex q op es) s o r k x v m l n f = all-use es s o r k x v m l n f
    told-uses (matrix_ex es d) s o r k x v m l n f =
        let q = (told_all es r k).1 in (
          all-use es s o r k x.0 v.0 m (on q (told_dom d r q).1 K (dom-up d r q) l) n f,
          dom-uses d s o r q x.1 v.1 (on j k q m (all-up es r k)) l n f,
        )
    told-uses (comp_ex e gs) s o r k x v m l n f =
        let q = told_gens gs r k in
        let i = gens-use gs s o e (told e q.1 q.2).0 r k x v.1 m (on q.2 (told e q.1 q.2).1 K (ex-up e q.1 q.2) l) n f
        (λ t p y n' f'. told-uses e t p q.1 q.2 y v.0 (on j k q.2 m (gens-up gs r k)) l n' f') in
        (i.1, i.0)
    told-uses (cell_ex q c es) s o r k x v m l n f = all-use es s o r k x v m l n f
    told-uses (seen_ex y d ns es) s o r k x v m l n f =
        (names-map-dom z w (λ a. false) b views (λ c t. absurd-false c t) d v, index-uses es s o r k x.1 n f)
      where
        absurd-false : (c : Text) → IsTrue false → IsTrue (b c)
        absurd-false c t = cc

    all-use : (es : Exs) (s o : Text → Bool) (r : Names Text) (k : ℕ) → ScopedExs z s o es → AllViewsBindNone z es → j ≤ k →
        (told_all es r k).1 ≤ K → In s o → InUse s r → NamesAreExs w b (told_all es r k).0
    all-use no_exs s o r k x v m l n f = tt
    all-use (more_exs e es) s o r k x v m l n f =
        let q = (told e r k).1 in (
          told-uses e s o r k x.0 v.0 m (on q (told_all es r q).1 K (all-up es r q) l) n f,
          all-use es s o r q x.1 v.1 (on j k q m (ex-up e r k)) l n f,
        )

    gens-use : (gs : Gens) (s o : Text → Bool) (e e' : Ex) (r : Names Text) (k : ℕ) → ScopedGens z s o gs (λ t p. Scoped z t p e) →
        GensViewsBindNone z gs → j ≤ k → (told_gens gs r k).2 ≤ K → In s o → InUse s r →
        ((t p : Text → Bool) → Scoped z t p e → In t p → InUse t (told_gens gs r k).1 → NamesAre w b e') →
        NamesAreGens w b (told_gens gs r k).0 × NamesAre w b e'
    gens-use no_gens s o e e' r k x v m l n f h = (tt, h s o x n f)
    gens-use (over p d gs) s o e e' r k x v m l n f h =
        let c = (told_dom d r k).1 in
        let q = told_pat p r c in
        let a = on q.2 (told_gens gs q.1 q.2).2 K (gens-up gs q.1 q.2) l in
        let m' = on j k c m (dom-up d r k) in
        let i = pat-uses p s r c m' a f in
        let rest = gens-use gs (with_names s p) (with_names o p) e e' q.1 q.2 x.2 v.1 (on j c q.2 m' (pat-up p r c)) l
        (λ y t. or-both (o y) (s y) (is_bound p y) (n y) t) i.1 h in
        ((i.0, dom-uses d s o r k x.1 v.0 m (on c q.2 K (pat-up p r c) a) n f, rest.0), rest.1)
    gens-use (from p t gs) s o e e' r k x v m l n f h =
        let c = (told t r k).1 in
        let q = told_pat p r c in
        let a = on q.2 (told_gens gs q.1 q.2).2 K (gens-up gs q.1 q.2) l in
        let m' = on j k c m (ex-up t r k) in
        let i = pat-uses p s r c m' a f in
        let rest = gens-use gs (with_names s p) o e e' q.1 q.2 x.2 v.1 (on j c q.2 m' (pat-up p r c)) l
        (λ y u. or-left (s y) (is_bound p y) (n y u)) i.1 h in
        ((i.0, told-uses t s o r k x.1 v.0 m (on c q.2 K (pat-up p r c) a) n f, rest.0), rest.1)
    gens-use (cond t gs) s o e e' r k x v m l n f h =
        let c = (told t r k).1 in
        let rest = gens-use gs s o e e' r c x.1 v.1 (on j k c m (ex-up t r k)) l n f h in
        ((told-uses t s o r k x.0 v.0 m (on c (told_gens gs r c).2 K (gens-up gs r c) l) n f, rest.0), rest.1)

    dom-uses : (d : Dom) (s o : Text → Bool) (r : Names Text) (k : ℕ) → ScopedDom z s o d → DomViewsBindNone z d → j ≤ k →
        (told_dom d r k).1 ≤ K → In s o → InUse s r → NamesAreDom w b (told_dom d r k).0
    dom-uses bool_dom s o r k x v m l n f = tt
    dom-uses (int_dom rs es) s o r k x v m l n f = all-use es s o r k x v m l n f
    dom-uses (name_dom a) s o r k x v m l n f = tt
    dom-uses (tuple_dom ds) s o r k x v m l n f = doms-use ds s o r k x v m l n f
    dom-uses (record_dom fs ds) s o r k x v m l n f = doms-use ds s o r k x v m l n f
    dom-uses (matrix_dom is d) s o r k x v m l n f =
        let q = (told_doms is r k).1 in (
          doms-use is s o r k x.0 v.0 m (on q (told_dom d r q).1 K (dom-up d r q) l) n f,
          dom-uses d s o r q x.1 v.1 (on j k q m (doms-up is r k)) l n f,
        )
    dom-uses (set_dom ks es d) s o r k x v m l n f =
        let q = (told_all es r k).1 in (
          all-use es s o r k x.0 v.0 m (on q (told_dom d r q).1 K (dom-up d r q) l) n f,
          dom-uses d s o r q x.1 v.1 (on j k q m (all-up es r k)) l n f,
        )
    dom-uses (mset_dom ks es d) s o r k x v m l n f =
        let q = (told_all es r k).1 in (
          all-use es s o r k x.0 v.0 m (on q (told_dom d r q).1 K (dom-up d r q) l) n f,
          dom-uses d s o r q x.1 v.1 (on j k q m (all-up es r k)) l n f,
        )
    dom-uses (function_dom ks es d c) s o r k x v m l n f =
        let q = (told_all es r k).1 in
        let t = (told_dom d r q).1 in
        let a = on t (told_dom c r t).1 K (dom-up c r t) l in
        let m' = on j k q m (all-up es r k) in (
          all-use es s o r k x.0 v.0 m (on q t K (dom-up d r q) a) n f,
          dom-uses d s o r q x.1 v.1 m' a n f,
          dom-uses c s o r t x.2 v.2 (on j q t m' (dom-up d r q)) l n f,
        )
    dom-uses (relation_dom ks es ds) s o r k x v m l n f =
        let q = (told_all es r k).1 in (
          all-use es s o r k x.0 v.0 m (on q (told_doms ds r q).1 K (doms-up ds r q) l) n f,
          doms-use ds s o r q x.1 v.1 (on j k q m (all-up es r k)) l n f,
        )
    dom-uses (partition_dom ks es d) s o r k x v m l n f =
        let q = (told_all es r k).1 in (
          all-use es s o r k x.0 v.0 m (on q (told_dom d r q).1 K (dom-up d r q) l) n f,
          dom-uses d s o r q x.1 v.1 (on j k q m (all-up es r k)) l n f,
        )

    doms-use : (ds : Doms) (s o : Text → Bool) (r : Names Text) (k : ℕ) → ScopedDoms z s o ds → DomsViewsBindNone z ds → j ≤ k →
        (told_doms ds r k).1 ≤ K → In s o → InUse s r → NamesAreDoms w b (told_doms ds r k).0
    doms-use no_doms s o r k x v m l n f = tt
    doms-use (more_doms d ds) s o r k x v m l n f =
        let q = (told_dom d r k).1 in (
          dom-uses d s o r k x.0 v.0 m (on q (told_doms ds r q).1 K (doms-up ds r q) l) n f,
          doms-use ds s o r q x.1 v.1 (on j k q m (dom-up d r k)) l n f,
        )
