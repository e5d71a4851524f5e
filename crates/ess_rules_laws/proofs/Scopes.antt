-- What scopes say of bound names, and that substitution keeps scopes.
use Rattle.std.proofs.Common.{◌≡◌, refl, ap, ◌∙◌, subst, sym, Bool, true, false, ◌||◌, not, if◌then◌else◌}
use Rattle.std.specs.Prelude.{IsTrue}
use Rattle.ess_semantics.specs.Values.{Text}
use Rattle.ess_semantics.specs.Order.{same_text}
use Rattle.ess_semantics.specs.Trees.{Pat, Pats, name_pat, tuple_pat, no_pats, more_pats, Ex, Exs, number_ex, truth_ex, name_ex, node_ex, matrix_ex, comp_ex, cell_ex, seen_ex, no_exs, more_exs, Gens, no_gens, over, from, cond, Dom, Doms, bool_dom, int_dom, name_dom, tuple_dom, record_dom, matrix_dom, set_dom, mset_dom, function_dom, relation_dom, partition_dom, no_doms, more_doms}
use Rattle.ess_semantics.specs.Substitution.{substitute, substitute_exs, substitute_gens, substitute_dom, substitute_doms, for_name, Binds, BindsAll, NamesAre, NamesAreExs, NamesAreGens, NamesAreDom, NamesAreDoms}
use Rattle.ess_semantics.specs.Scoped.{is_bound, is_bound_by_some, BindsNew, AllBindNew, with_names, IsPlainIndex, Scoped, ScopedExs, ScopedGens, ScopedDom, ScopedDoms}
use Rattle.ess_rules_laws.proofs.Simulation.{any, but}
use Rattle.ess_rules_laws.proofs.Agreement.{outside, same_text-equal}
use Rattle.ess_rules_laws.proofs.UsedNames.{Within, names-map-dom, dom-unused}
use Rattle.ess_rules_laws.proofs.ViewDomains.{ViewDomains, ViewDomainsExs, ViewDomainsGens, ViewDomainsDom, ViewDomainsDoms}

-- ---- sets of names

or-left : (a b : Bool) → a ≡ true → a || b ≡ true
or-left true b e = refl
or-left false b e = cc

or-either : (a b c d : Bool) → (a ≡ true → c ≡ true) → a || b ≡ true → c || b ≡ true
or-either true b c d f e = ap (λ x. x || b) (f refl)
or-either false b true d f e = refl
or-either false b false d f e = e

-- A pattern binds more names in both.
pub within-both : (s t : Text → Bool) (p : Pat) → Within s t → Within (with_names s p) (with_names t p)
within-both s t p h a e = or-either (s a) (is_bound p a) (t a) true (h a) e

-- A pattern binds more names in the larger one.
pub within-more : (s t : Text → Bool) (p : Pat) → Within s t → Within s (with_names t p)
within-more s t p h a e = or-left (t a) (is_bound p a) (h a e)

-- A name that isn't in the larger one isn't in the smaller one.
pub not-within : (s t : Text → Bool) (a : Text) → Within s t → IsTrue (not (t a)) → IsTrue (not (s a))
not-within s t a h e = go (s a) refl
  where
    go : (b : Bool) → s a ≡ b → not b ≡ true
    go true q = let r = h a q in cc
    go false q = refl

mutual
  new-outside : (s t : Text → Bool) (p : Pat) → Within s t → BindsNew t p → Binds (outside s) p
  new-outside s t (name_pat a) h n = not-within s t a h n
  new-outside s t (tuple_pat ps) h n = all-new-outside s t ps h n

  all-new-outside : (s t : Text → Bool) (ps : Pats) → Within s t → AllBindNew t ps → BindsAll (outside s) ps
  all-new-outside s t no_pats h n = tt
  all-new-outside s t (more_pats p ps) h n = (new-outside s t p h n.0, all-new-outside s t ps h n.1)

plain-names : (b o : Text → Bool) (es : Exs) → IsPlainIndex o es → NamesAreExs any b es
plain-names b o no_exs h = tt
plain-names b o (more_exs (number_ex n) es) h = (tt, plain-names b o es h)
plain-names b o (more_exs (name_ex a) es) h = (refl, plain-names b o es h.1)
plain-names b o (more_exs _ es) h = absurd h

-- ---- what a tree in scope binds

-- s are some of the names in scope, none of which the domain of a view binds
module _ (z s : Text → Bool) where
  abbrev Apart : Dom → Type 0
  Apart = NamesAreDom any (outside s)

  mutual
    -- A tree binds no name of s.
    pub scoped-outside : (e : Ex) (t o : Text → Bool) → Within s t → Scoped z t o e → ViewDomains Apart e → NamesAre any (outside s) e
    scoped-outside (number_ex k) t o h x y = tt
    scoped-outside (truth_ex k) t o h x y = tt
    scoped-outside (name_ex a) t o h x y = refl
    scoped-outside (node_ex q op es) t o h x y = scoped-outside-exs es t o h x y
    scoped-outside (matrix_ex es d) t o h x y = (scoped-outside-exs es t o h x.0 y.0, scoped-outside-dom d t o h x.1 y.1)
    scoped-outside (comp_ex e gs) t o h x y = let r = scoped-outside-gens gs e t o h (λ t' o' h' v. scoped-outside e t' o' h' v y.0) x y.1 in (r.1, r.0)
    scoped-outside (cell_ex q c es) t o h x y = scoped-outside-exs es t o h x y
    scoped-outside (seen_ex r d ns es) t o h x y = (y.0, plain-names (outside s) o es x.1)

    -- The same of several expressions.
    pub scoped-outside-exs : (es : Exs) (t o : Text → Bool) → Within s t → ScopedExs z t o es → ViewDomainsExs Apart es → NamesAreExs any (outside s) es
    scoped-outside-exs no_exs t o h x y = tt
    scoped-outside-exs (more_exs e es) t o h x y = (scoped-outside e t o h x.0 y.0, scoped-outside-exs es t o h x.1 y.1)

    -- The same of generators and of what stands behind them.
    pub scoped-outside-gens : (gs : Gens) (e : Ex) (t o : Text → Bool) → Within s t →
        ((t' o' : Text → Bool) → Within s t' → Scoped z t' o' e → NamesAre any (outside s) e) →
        ScopedGens z t o gs (λ t' o'. Scoped z t' o' e) → ViewDomainsGens Apart gs → NamesAreGens any (outside s) gs × NamesAre any (outside s) e
    scoped-outside-gens no_gens e t o h k x y = (tt, k t o h x)
    scoped-outside-gens (over p d gs) e t o h k x y =
        let r = scoped-outside-gens gs e (with_names t p) (with_names o p) (within-more s t p h) k x.2 y.1 in
        ((new-outside s t p h x.0, scoped-outside-dom d t o h x.1 y.0, r.0), r.1)
    scoped-outside-gens (from p e' gs) e t o h k x y =
        let r = scoped-outside-gens gs e (with_names t p) o (within-more s t p h) k x.2 y.1 in
        ((new-outside s t p h x.0, scoped-outside e' t o h x.1 y.0, r.0), r.1)
    scoped-outside-gens (cond e' gs) e t o h k x y =
        let r = scoped-outside-gens gs e t o h k x.1 y.1 in ((scoped-outside e' t o h x.0 y.0, r.0), r.1)

    -- The same of a domain.
    pub scoped-outside-dom : (d : Dom) (t o : Text → Bool) → Within s t → ScopedDom z t o d → ViewDomainsDom Apart d → NamesAreDom any (outside s) d
    scoped-outside-dom bool_dom t o h x y = tt
    scoped-outside-dom (int_dom rs es) t o h x y = scoped-outside-exs es t o h x y
    scoped-outside-dom (name_dom a) t o h x y = tt
    scoped-outside-dom (tuple_dom ds) t o h x y = scoped-outside-doms ds t o h x y
    scoped-outside-dom (record_dom fs ds) t o h x y = scoped-outside-doms ds t o h x y
    scoped-outside-dom (matrix_dom is d) t o h x y = (scoped-outside-doms is t o h x.0 y.0, scoped-outside-dom d t o h x.1 y.1)
    scoped-outside-dom (set_dom ms es d) t o h x y = (scoped-outside-exs es t o h x.0 y.0, scoped-outside-dom d t o h x.1 y.1)
    scoped-outside-dom (mset_dom ms es d) t o h x y = (scoped-outside-exs es t o h x.0 y.0, scoped-outside-dom d t o h x.1 y.1)
    scoped-outside-dom (function_dom ms es d c) t o h x y =
        (scoped-outside-exs es t o h x.0 y.0, scoped-outside-dom d t o h x.1 y.1, scoped-outside-dom c t o h x.2 y.2)
    scoped-outside-dom (relation_dom ms es ds) t o h x y = (scoped-outside-exs es t o h x.0 y.0, scoped-outside-doms ds t o h x.1 y.1)
    scoped-outside-dom (partition_dom ms es d) t o h x y = (scoped-outside-exs es t o h x.0 y.0, scoped-outside-dom d t o h x.1 y.1)

    scoped-outside-doms : (ds : Doms) (t o : Text → Bool) → Within s t → ScopedDoms z t o ds → ViewDomainsDoms Apart ds → NamesAreDoms any (outside s) ds
    scoped-outside-doms no_doms t o h x y = tt
    scoped-outside-doms (more_doms d ds) t o h x y = (scoped-outside-dom d t o h x.0 y.0, scoped-outside-doms ds t o h x.1 y.1)

-- ---- substitution for a name that is bound over an expression

mutual
  new-unbound : (s : Text → Bool) (p : Pat) (x : Text) → BindsNew s p → IsTrue (s x) → is_bound p x ≡ false
  new-unbound s (name_pat a) x n h = go (same_text a x) refl
    where
      go : (b : Bool) → same_text a x ≡ b → same_text a x ≡ false
      go true q = let e : s a ≡ s x = ap s (same_text-equal a x q) in cc
      go false q = q
  new-unbound s (tuple_pat ps) x n h = all-new-unbound s ps x n h

  all-new-unbound : (s : Text → Bool) (ps : Pats) (x : Text) → AllBindNew s ps → IsTrue (s x) → is_bound_by_some ps x ≡ false
  all-new-unbound s no_pats x n h = refl
  all-new-unbound s (more_pats p ps) x n h = ap (λ b. b || is_bound_by_some ps x) (new-unbound s p x n.0 h) ∙ all-new-unbound s ps x n.1 h

-- w is put for x, which no domain of a declaration uses; w is in scope wherever the names of s0 are, x among them, and
-- those of o0 are bound over domains
module _ (z : Text → Bool) (x : Text) (w : Ex) (s0 o0 : Text → Bool) (free : z x ≡ false) (here : IsTrue (s0 x))
    (put : (s o : Text → Bool) → Within s0 s → Within o0 o → Scoped z s o w) where
  abbrev f : Text → Ex
  f = for_name x w

  but-x : Within z (but x)
  but-x a h = go (same_text x a) refl
    where
      go : (b : Bool) → same_text x a ≡ b → not b ≡ true
      go true q = let e : z x ≡ z a = ap z (same_text-equal x a q) in cc
      go false q = refl

  view-domain : (d : Dom) → NamesAreDom z any d → NamesAreDom z any (substitute_dom f d)
  view-domain d h = subst (NamesAreDom z any) (sym (dom-unused x w any d (names-map-dom z (but x) any any but-x (λ a r. r) d h))) h

  plain-put : (o o' : Text → Bool) (es : Exs) → Within o o' → o x ≡ false → IsPlainIndex o es → IsPlainIndex o' (substitute_exs f es)
  plain-put o o' no_exs h n p = tt
  plain-put o o' (more_exs (number_ex k) es) h n p = plain-put o o' es h n p
  plain-put o o' (more_exs (name_ex a) es) h n p = go (same_text x a) refl (plain-put o o' es h n p.1)
    where
      go : (b : Bool) → same_text x a ≡ b → IsPlainIndex o' (substitute_exs f es) → IsPlainIndex o' (more_exs (if b then w else name_ex a) (substitute_exs f es))
      go true q r = let e : o x ≡ o a = ap o (same_text-equal x a q) in let c = p.0 in cc
      go false q r = (h a p.0, r)
  plain-put o o' (more_exs _ es) h n p = absurd p

  -- x is bound over no domain, and stays so under further generators
  still : (s o : Text → Bool) (p : Pat) → BindsNew s p → IsTrue (s x) → o x ≡ false → with_names o p x ≡ false
  still s o p n h q = ap (λ b. b || is_bound p x) q ∙ new-unbound s p x n h

  mutual
    -- With w put for x a tree stays in scope, also where more names count as bound over domains.
    pub scoped-put : (e : Ex) (s o o' : Text → Bool) → Within o0 o' → Within o o' → o x ≡ false → Within s0 s → Scoped z s o e → Scoped z s o' (substitute f e)
    scoped-put (number_ex k) s o o' i h n m y = tt
    scoped-put (truth_ex k) s o o' i h n m y = tt
    scoped-put (name_ex a) s o o' i h n m y = go (same_text x a)
      where
        go : (b : Bool) → Scoped z s o' (if b then w else name_ex a)
        go true = put s o' m i
        go false = y
    scoped-put (node_ex q op es) s o o' i h n m y = scoped-put-exs es s o o' i h n m y
    scoped-put (matrix_ex es d) s o o' i h n m y = (scoped-put-exs es s o o' i h n m y.0, scoped-put-dom d s o o' i h n m y.1)
    scoped-put (comp_ex e gs) s o o' i h n m y = scoped-put-gens gs e s o o' i h n m (λ s' t t' i' h' n' m' v. scoped-put e s' t t' i' h' n' m' v) y
    scoped-put (cell_ex q c es) s o o' i h n m y = scoped-put-exs es s o o' i h n m y
    scoped-put (seen_ex r d ns es) s o o' i h n m y = (view-domain d y.0, plain-put o o' es h n y.1)

    scoped-put-exs : (es : Exs) (s o o' : Text → Bool) → Within o0 o' → Within o o' → o x ≡ false → Within s0 s → ScopedExs z s o es → ScopedExs z s o' (substitute_exs f es)
    scoped-put-exs no_exs s o o' i h n m y = tt
    scoped-put-exs (more_exs e es) s o o' i h n m y = (scoped-put e s o o' i h n m y.0, scoped-put-exs es s o o' i h n m y.1)

    -- The same of generators, where it is so of what stands behind them.
    pub scoped-put-gens : (gs : Gens) (e : Ex) (s o o' : Text → Bool) → Within o0 o' → Within o o' → o x ≡ false → Within s0 s →
        ((s' t t' : Text → Bool) → Within o0 t' → Within t t' → t x ≡ false → Within s0 s' → Scoped z s' t e → Scoped z s' t' (substitute f e)) →
        ScopedGens z s o gs (λ s' t. Scoped z s' t e) → ScopedGens z s o' (substitute_gens f gs) (λ s' t. Scoped z s' t (substitute f e))
    scoped-put-gens no_gens e s o o' i h n m k y = k s o o' i h n m y
    scoped-put-gens (over p d gs) e s o o' i h n m k y = (
      y.0,
      scoped-put-dom d s o o' i h n m y.1,
      scoped-put-gens gs e (with_names s p) (with_names o p) (with_names o' p) (within-more o0 o' p i) (within-both o o' p h) (still s o p y.0 (m x here) n) (within-more s0 s p m) k y.2,
    )
    scoped-put-gens (from p e' gs) e s o o' i h n m k y =
        (y.0, scoped-put e' s o o' i h n m y.1, scoped-put-gens gs e (with_names s p) o o' i h n (within-more s0 s p m) k y.2)
    scoped-put-gens (cond e' gs) e s o o' i h n m k y = (scoped-put e' s o o' i h n m y.0, scoped-put-gens gs e s o o' i h n m k y.1)

    scoped-put-dom : (d : Dom) (s o o' : Text → Bool) → Within o0 o' → Within o o' → o x ≡ false → Within s0 s → ScopedDom z s o d → ScopedDom z s o' (substitute_dom f d)
    scoped-put-dom bool_dom s o o' i h n m y = tt
    scoped-put-dom (int_dom rs es) s o o' i h n m y = scoped-put-exs es s o o' i h n m y
    scoped-put-dom (name_dom a) s o o' i h n m y = tt
    scoped-put-dom (tuple_dom ds) s o o' i h n m y = scoped-put-doms ds s o o' i h n m y
    scoped-put-dom (record_dom fs ds) s o o' i h n m y = scoped-put-doms ds s o o' i h n m y
    scoped-put-dom (matrix_dom is d) s o o' i h n m y = (scoped-put-doms is s o o' i h n m y.0, scoped-put-dom d s o o' i h n m y.1)
    scoped-put-dom (set_dom ms es d) s o o' i h n m y = (scoped-put-exs es s o o' i h n m y.0, scoped-put-dom d s o o' i h n m y.1)
    scoped-put-dom (mset_dom ms es d) s o o' i h n m y = (scoped-put-exs es s o o' i h n m y.0, scoped-put-dom d s o o' i h n m y.1)
    scoped-put-dom (function_dom ms es d c) s o o' i h n m y =
        (scoped-put-exs es s o o' i h n m y.0, scoped-put-dom d s o o' i h n m y.1, scoped-put-dom c s o o' i h n m y.2)
    scoped-put-dom (relation_dom ms es ds) s o o' i h n m y = (scoped-put-exs es s o o' i h n m y.0, scoped-put-doms ds s o o' i h n m y.1)
    scoped-put-dom (partition_dom ms es d) s o o' i h n m y = (scoped-put-exs es s o o' i h n m y.0, scoped-put-dom d s o o' i h n m y.1)

    scoped-put-doms : (ds : Doms) (s o o' : Text → Bool) → Within o0 o' → Within o o' → o x ≡ false → Within s0 s → ScopedDoms z s o ds → ScopedDoms z s o' (substitute_doms f ds)
    scoped-put-doms no_doms s o o' i h n m y = tt
    scoped-put-doms (more_doms d ds) s o o' i h n m y = (scoped-put-dom d s o o' i h n m y.0, scoped-put-doms ds s o o' i h n m y.1)
