-- A tree that is in scope stays in scope once its bound names are told apart.
use Rattle.std.proofs.Common.{◌≡◌, sym, subst, ℕ, ◌<◌, ◌≤◌, ◌^◌, Bool, false, []}
use Rattle.std.specs.Prelude.{IsTrue}
use Rattle.ess_semantics.specs.Values.{Text}
use Rattle.ess_semantics.specs.Order.{same_text}
use Rattle.ess_semantics.specs.Names.{Names}
use Rattle.ess_semantics.specs.Trees.{Pat, Ex, Exs, number_ex, truth_ex, name_ex, node_ex, matrix_ex, comp_ex, cell_ex, seen_ex, no_exs, more_exs, Gens, no_gens, over, from, cond, Dom, Doms, bool_dom, int_dom, name_dom, tuple_dom, record_dom, matrix_dom, set_dom, mset_dom, function_dom, relation_dom, partition_dom, no_doms, more_doms}
use Rattle.ess_semantics.specs.Scoped.{is_bound, with_names, BindsNew, IsPlainIndex, Scoped, ScopedExs, ScopedGens, ScopedDom, ScopedDoms}
use Rattle.conjure_model_laws.specs.ToldApart.{reserved, told_pat, told, told_apart, told_all, told_gens, told_dom, told_doms}
use Rattle.conjure_model_laws.proofs.ToldLaws.{reserved-differ}
use Rattle.ess_chain_names_laws.proofs.ToldNames.{on, pat-up, ex-up, all-up, gens-up, dom-up, doms-up}
use Rattle.ess_told_over_laws.specs.ToldOverTables.{IsScopedBelow}
use Rattle.ess_told_over_laws.proofs.Renamed.{or-left, or-both}
use Rattle.ess_told_over_laws.proofs.NewNames.{Used, New, used-behind, new-behind, binds-new, new-apart, unbound}

module _ (lim : ℕ) (differ : (i j : ℕ) → i < j → j < lim → same_text (reserved j) (reserved i) ≡ false) where
  -- s and o are the names in scope, s' and o' what they have become, r what names have become, k the next number.
  record There (s o s' o' : Text → Bool) (r : Names Text) (k : ℕ) : Type 0 where
    used : Used s s' r
    plain : Used o o' r
    within : (c : Text) → IsTrue (o c) → IsTrue (s c)
    new : New lim differ s' k

  later : (s o s' o' : Text → Bool) (r : Names Text) (k m : ℕ) → k ≤ m → There s o s' o' r k → There s o s' o' r m
  later s o s' o' r k m l x = record { used = x.used; plain = x.plain; within = x.within; new = λ j a b. x.new j (on k m j l a) b }

  over-there : (p : Pat) (s o s' o' : Text → Bool) (r : Names Text) (k : ℕ) → (told_pat p r k).2 ≤ lim → There s o s' o' r k →
      There (with_names s p) (with_names o p) (with_names s' (told_pat p r k).0) (with_names o' (told_pat p r k).0) (told_pat p r k).1
      (told_pat p r k).2
  over-there p s o s' o' r k l x = record {
    used = used-behind p s s' r k x.used;
    plain = used-behind p o o' r k x.plain;
    within = λ c t. or-both (o c) (s c) (is_bound p c) (x.within c) t;
    new = new-behind lim differ p s' r k l x.new;
  }

  from-there : (p : Pat) (s o s' o' : Text → Bool) (r : Names Text) (k : ℕ) → BindsNew s p → (told_pat p r k).2 ≤ lim →
      There s o s' o' r k → There (with_names s p) o (with_names s' (told_pat p r k).0) o' (told_pat p r k).1 (told_pat p r k).2
  from-there p s o s' o' r k n l x = record {
    used = used-behind p s s' r k x.used;
    plain = λ c t. subst (λ a. IsTrue (o' a)) (sym (unbound p r k c (new-apart s c (x.within c t) p n))) (x.plain c t);
    within = λ c t. or-left (s c) (is_bound p c) (x.within c t);
    new = new-behind lim differ p s' r k l x.new;
  }

  module _ (z : Text → Bool) where
    index-plain : (es : Exs) (s o s' o' : Text → Bool) (r : Names Text) (k : ℕ) → IsPlainIndex o es → There s o s' o' r k →
        IsPlainIndex o' (told_all es r k).0
    index-plain no_exs s o s' o' r k w x = tt
    index-plain (more_exs (number_ex n) es) s o s' o' r k w x = index-plain es s o s' o' r k w x
    index-plain (more_exs (name_ex a) es) s o s' o' r k w x = (x.plain a w.0, index-plain es s o s' o' r k w.1 x)
    index-plain (more_exs (truth_ex n) es) s o s' o' r k w x = absurd w
    index-plain (more_exs (node_ex b op ds) es) s o s' o' r k w x = absurd w
    index-plain (more_exs (matrix_ex ds d) es) s o s' o' r k w x = absurd w
    index-plain (more_exs (comp_ex e gs) es) s o s' o' r k w x = absurd w
    index-plain (more_exs (cell_ex b n ds) es) s o s' o' r k w x = absurd w
    index-plain (more_exs (seen_ex y d ns ds) es) s o s' o' r k w x = absurd w

    mutual
      told-scoped : (e : Ex) (s o s' o' : Text → Bool) (r : Names Text) (k : ℕ) → Scoped z s o e → (told e r k).1 ≤ lim →
          There s o s' o' r k → Scoped z s' o' (told e r k).0
      told-scoped (number_ex m) s o s' o' r k w l x = tt
      told-scoped (truth_ex m) s o s' o' r k w l x = tt
      told-scoped (name_ex a) s o s' o' r k w l x = x.used a w
      told-scoped (node_ex q op es) s o s' o' r k w l x = all-scoped es s o s' o' r k w l x
      told-scoped (matrix_ex es d) s o s' o' r k w l x =
          let q = (told_all es r k).1 in (
            all-scoped es s o s' o' r k w.0 (on q (told_dom d r q).1 lim (dom-up d r q) l) x,
            dom-scoped d s o s' o' r q w.1 l (later s o s' o' r k q (all-up es r k) x),
          )
      told-scoped (comp_ex e gs) s o s' o' r k w l x =
          let q = told_gens gs r k in
          gens-scoped gs s o s' o' e (told e q.1 q.2).0 r k w
          (on q.2 (told e q.1 q.2).1 lim (ex-up e q.1 q.2) l) x
          (λ t p t' p' w' x'. told-scoped e t p t' p' q.1 q.2 w' l x')
      told-scoped (cell_ex q c es) s o s' o' r k w l x = all-scoped es s o s' o' r k w l x
      told-scoped (seen_ex y d ns es) s o s' o' r k w l x = (w.0, index-plain es s o s' o' r k w.1 x)

      all-scoped : (es : Exs) (s o s' o' : Text → Bool) (r : Names Text) (k : ℕ) → ScopedExs z s o es → (told_all es r k).1 ≤ lim →
          There s o s' o' r k → ScopedExs z s' o' (told_all es r k).0
      all-scoped no_exs s o s' o' r k w l x = tt
      all-scoped (more_exs e es) s o s' o' r k w l x =
          let q = (told e r k).1 in (
            told-scoped e s o s' o' r k w.0 (on q (told_all es r q).1 lim (all-up es r q) l) x,
            all-scoped es s o s' o' r q w.1 l (later s o s' o' r k q (ex-up e r k) x),
          )

      gens-scoped : (gs : Gens) (s o s' o' : Text → Bool) (b b' : Ex) (r : Names Text) (k : ℕ) →
          ScopedGens z s o gs (λ t p. Scoped z t p b) → (told_gens gs r k).2 ≤ lim → There s o s' o' r k →
          ((t p t' p' : Text → Bool) → Scoped z t p b → There t p t' p' (told_gens gs r k).1 (told_gens gs r k).2 → Scoped z t' p' b') →
          ScopedGens z s' o' (told_gens gs r k).0 (λ t p. Scoped z t p b')
      gens-scoped no_gens s o s' o' b b' r k w l x f = f s o s' o' w x
      gens-scoped (over p d gs) s o s' o' b b' r k w l x f =
          let c = (told_dom d r k).1 in
          let q = told_pat p r c in
          let m = on q.2 (told_gens gs q.1 q.2).2 lim (gens-up gs q.1 q.2) l in
          let y = later s o s' o' r k c (dom-up d r k) x in (
            binds-new lim differ p s' r c m y.new,
            dom-scoped d s o s' o' r k w.1 (on c q.2 lim (pat-up p r c) m) x,
            gens-scoped gs (with_names s p) (with_names o p) (with_names s' q.0) (with_names o' q.0) b b' q.1 q.2 w.2 l
                (over-there p s o s' o' r c m y) f,
          )
      gens-scoped (from p e gs) s o s' o' b b' r k w l x f =
          let c = (told e r k).1 in
          let q = told_pat p r c in
          let m = on q.2 (told_gens gs q.1 q.2).2 lim (gens-up gs q.1 q.2) l in
          let y = later s o s' o' r k c (ex-up e r k) x in (
            binds-new lim differ p s' r c m y.new,
            told-scoped e s o s' o' r k w.1 (on c q.2 lim (pat-up p r c) m) x,
            gens-scoped gs (with_names s p) o (with_names s' q.0) o' b b' q.1 q.2 w.2 l (from-there p s o s' o' r c w.0 m y) f,
          )
      gens-scoped (cond e gs) s o s' o' b b' r k w l x f =
          let c = (told e r k).1 in (
            told-scoped e s o s' o' r k w.0 (on c (told_gens gs r c).2 lim (gens-up gs r c) l) x,
            gens-scoped gs s o s' o' b b' r c w.1 l (later s o s' o' r k c (ex-up e r k) x) f,
          )

      dom-scoped : (d : Dom) (s o s' o' : Text → Bool) (r : Names Text) (k : ℕ) → ScopedDom z s o d → (told_dom d r k).1 ≤ lim →
          There s o s' o' r k → ScopedDom z s' o' (told_dom d r k).0
      dom-scoped bool_dom s o s' o' r k w l x = tt
      dom-scoped (int_dom rs es) s o s' o' r k w l x = all-scoped es s o s' o' r k w l x
      dom-scoped (name_dom a) s o s' o' r k w l x = tt
      dom-scoped (tuple_dom ds) s o s' o' r k w l x = doms-scoped ds s o s' o' r k w l x
      dom-scoped (record_dom fs ds) s o s' o' r k w l x = doms-scoped ds s o s' o' r k w l x
      dom-scoped (matrix_dom is d) s o s' o' r k w l x =
          let q = (told_doms is r k).1 in (
            doms-scoped is s o s' o' r k w.0 (on q (told_dom d r q).1 lim (dom-up d r q) l) x,
            dom-scoped d s o s' o' r q w.1 l (later s o s' o' r k q (doms-up is r k) x),
          )
      dom-scoped (set_dom ks es d) s o s' o' r k w l x =
          let q = (told_all es r k).1 in (
            all-scoped es s o s' o' r k w.0 (on q (told_dom d r q).1 lim (dom-up d r q) l) x,
            dom-scoped d s o s' o' r q w.1 l (later s o s' o' r k q (all-up es r k) x),
          )
      dom-scoped (mset_dom ks es d) s o s' o' r k w l x =
          let q = (told_all es r k).1 in (
            all-scoped es s o s' o' r k w.0 (on q (told_dom d r q).1 lim (dom-up d r q) l) x,
            dom-scoped d s o s' o' r q w.1 l (later s o s' o' r k q (all-up es r k) x),
          )
      dom-scoped (function_dom ks es d c) s o s' o' r k w l x =
          let q = (told_all es r k).1 in
          let t = (told_dom d r q).1 in
          let m = on t (told_dom c r t).1 lim (dom-up c r t) l in (
            all-scoped es s o s' o' r k w.0 (on q t lim (dom-up d r q) m) x,
            dom-scoped d s o s' o' r q w.1 m (later s o s' o' r k q (all-up es r k) x),
            dom-scoped c s o s' o' r t w.2 l (later s o s' o' r k t (on k q t (all-up es r k) (dom-up d r q)) x),
          )
      dom-scoped (relation_dom ks es ds) s o s' o' r k w l x =
          let q = (told_all es r k).1 in (
            all-scoped es s o s' o' r k w.0 (on q (told_doms ds r q).1 lim (doms-up ds r q) l) x,
            doms-scoped ds s o s' o' r q w.1 l (later s o s' o' r k q (all-up es r k) x),
          )
      dom-scoped (partition_dom ks es d) s o s' o' r k w l x =
          let q = (told_all es r k).1 in (
            all-scoped es s o s' o' r k w.0 (on q (told_dom d r q).1 lim (dom-up d r q) l) x,
            dom-scoped d s o s' o' r q w.1 l (later s o s' o' r k q (all-up es r k) x),
          )

      doms-scoped : (ds : Doms) (s o s' o' : Text → Bool) (r : Names Text) (k : ℕ) → ScopedDoms z s o ds → (told_doms ds r k).1 ≤ lim →
          There s o s' o' r k → ScopedDoms z s' o' (told_doms ds r k).0
      doms-scoped no_doms s o s' o' r k w l x = tt
      doms-scoped (more_doms d ds) s o s' o' r k w l x =
          let q = (told_dom d r k).1 in (
            dom-scoped d s o s' o' r k w.0 (on q (told_doms ds r q).1 lim (doms-up ds r q) l) x,
            doms-scoped ds s o s' o' r q w.1 l (later s o s' o' r k q (dom-up d r k) x),
          )

-- So the tree stays in scope.
pub told-stays : (z s o : Text → Bool) (k : ℕ) (e : Ex) → IsScopedBelow z s o k e → (told e [] k).1 ≤ 2 ^ 64 → Scoped z s o (told_apart k e)
told-stays z s o k e i l = told-scoped (2 ^ 64) reserved-differ z e s o s o [] k i.scoped l
    (record { used = λ c t. t; plain = λ c t. t; within = i.within; new = i.spared })
