-- Guarded, a tree is in scope as it was, and so are the conditions of a term.
use Rattle.std.proofs.Common.{◌≡◌, refl, ap, ◌∙◌, Bool, true, false, ◌&&◌, ◌||◌, not, if◌then◌else◌, List, ◌++◌}
use Rattle.ess_semantics.specs.Values.{Text}
use Rattle.ess_semantics.specs.Order.{same_text}
use Rattle.ess_semantics.specs.Names.{Names}
use Rattle.ess_semantics.specs.Trees.{Op, Pat, Pats, name_pat, tuple_pat, no_pats, more_pats, Ex, Exs, number_ex, truth_ex, name_ex, node_ex, matrix_ex, comp_ex, cell_ex, seen_ex, no_exs, more_exs, Gens, no_gens, over, from, cond, Dom, Doms, bool_dom, int_dom, name_dom, tuple_dom, record_dom, matrix_dom, set_dom, mset_dom, function_dom, relation_dom, partition_dom, no_doms, more_doms}
use Rattle.ess_semantics.specs.Substitution.{Binds, BindsAll, NamesAre, NamesAreExs, NamesAreGens, NamesAreDom, NamesAreDoms}
use Rattle.ess_semantics.specs.Scoped.{is_bound, is_bound_by_some, with_names, Scoped, ScopedExs, ScopedGens, ScopedDom, ScopedDoms}
use Rattle.ess_semantics.proofs.Tests.{and-left, and-right, not-true}
use Rattle.ess_guard_laws.specs.Origins.{Origin, with_any, with_over, known_behind}
use Rattle.ess_guard_laws.specs.Conditions.{own}
use Rattle.ess_guard_laws.specs.Guard.{is_plain, connects, own_at, opens, passes, guarded, guarded_all, guarded_gens, guarded_dom, guarded_doms, conditions, conditions_all, conditions_gens, conditions_dom, conditions_doms}
use Rattle.ess_guard_laws.specs.Reserved.{is_other}
use Rattle.ess_guard_laws.proofs.ScopedRows as R
use Rattle.ess_guard_laws.proofs.ScopedRows.{Within, Clear, EachScoped, scoped-append, scoped-choose, chained-scoped, over-scoped, from-scoped, given-scoped}

-- ---- scopes

module _ (x y : Text) where
  mutual
    -- A pattern that binds other names binds neither.
    other-first : (p : Pat) → Binds (is_other x y) p → (is_bound p x ≡ false) × (is_bound p y ≡ false)
    other-first (name_pat a) b = (
      not-true (same_text a x) (and-left (not (same_text a x)) (not (same_text a y)) b),
      not-true (same_text a y) (and-right (not (same_text a x)) (not (same_text a y)) b),
    )
    other-first (tuple_pat ps) b = others-first ps b

    others-first : (ps : Pats) → BindsAll (is_other x y) ps → (is_bound_by_some ps x ≡ false) × (is_bound_by_some ps y ≡ false)
    others-first no_pats b = (refl, refl)
    others-first (more_pats p ps) b =
        let r = other-first p b.0 in
        let q = others-first ps b.1 in
        (ap (λ t. t || is_bound_by_some ps x) r.0 ∙ q.0, ap (λ t. t || is_bound_by_some ps y) r.1 ∙ q.1)

  clear-with : (s : Text → Bool) (p : Pat) → Clear x y s → Binds (is_other x y) p → Clear x y (with_names s p)
  clear-with s p c b = let r = other-first p b in (ap (λ t. t || is_bound p x) c.0 ∙ r.0, ap (λ t. t || is_bound p y) c.1 ∙ r.1)

within-with : (z s : Text → Bool) (p : Pat) → Within z s → Within z (with_names s p)
within-with z s p w a h = ap (λ t. t || is_bound p a) (w a h)

-- Both trees are.
choose-scoped : (z s o : Text → Bool) (t : Bool) (a b : Ex) → Scoped z s o a → Scoped z s o b → Scoped z s o (if t then a else b)
choose-scoped z s o true a b p q = p
choose-scoped z s o false a b p q = q

module _ (natural : Bool) (x y : Text) (z : Text → Bool) (differ : same_text y x ≡ false) where
  abbrev G : Names Origin → Ex → Ex
  G = guarded natural x y

  abbrev Gs : Names Origin → Exs → Exs
  Gs = guarded_all natural x y

  abbrev C : Names Origin → Bool → Ex → List Ex
  C = conditions natural x y

  abbrev Cs : Names Origin → Bool → Exs → List Ex
  Cs = conditions_all natural x y

  abbrev Free : Ex → Type 0
  Free = NamesAre (λ a. true) (is_other x y)

  abbrev Frees : Exs → Type 0
  Frees = NamesAreExs (λ a. true) (is_other x y)

  abbrev Each : (Text → Bool) → (Text → Bool) → List Ex → Type 0
  Each = EachScoped z

  -- The conditions of a node's operands and its own.
  node-scoped : (w u : Bool) (op : Op) (es : Exs) (k : Names Origin) (s o : Text → Bool) → Clear x y s → Within z s → Each s o (Cs k w es) →
      ScopedExs z s o (Gs k es) →
      Each s o (Cs k w es ++ own_at natural x y k u op (Gs k es))
  node-scoped w u op es k s o c v p q = scoped-append z s o (Cs k w es) (own_at natural x y k u op (Gs k es)) p
      (scoped-choose z s o (u && is_plain op) (own k x y op (Gs k es)) (R.own-scoped z x y differ s o c v k op (Gs k es) q))

  mutual
    -- A tree with its Booleans guarded.
    pub scoped : (e : Ex) (k : Names Origin) (s o : Text → Bool) → Clear x y s → Within z s → Free e → Scoped z s o e → Scoped z s o (G k e)
    scoped (number_ex n) k s o c v f m = tt
    scoped (truth_ex b) k s o c v f m = tt
    scoped (name_ex a) k s o c v f m = m
    scoped (node_ex b op es) k s o c v f m = choose-scoped z s o (b && not (connects op)) _ _
        (chained-scoped z s o
        (Cs k (opens natural x y op) es ++ own_at natural x y k false op (Gs k es))
        (node_ex true op (Gs k es))
        (node-scoped (opens natural x y op) false op es k s o c v
        (asked-all es k (opens natural x y op) s o c v f m) (scoped-all es k s o c v f m))
        (scoped-all es k s o c v f m))
        (scoped-all es k s o c v f m)
    scoped (matrix_ex es d) k s o c v f m = (scoped-all es k s o c v f.0 m.0, scoped-dom d k s o c v f.1 m.1)
    scoped (comp_ex e gs) k s o c v f m =
        scoped-gens gs k s o e (G (known_behind gs k) e) (λ t p d w q. scoped e (known_behind gs k) t p d w f.0 q) c v f.1 m
    scoped (cell_ex true n es) k s o c v f m =
        chained-scoped z s o (Cs k false es) (cell_ex true n (Gs k es)) (asked-all es k false s o c v f m) (scoped-all es k s o c v f m)
    scoped (cell_ex false n es) k s o c v f m = scoped-all es k s o c v f m
    scoped (seen_ex r d ns es) k s o c v f m = m

    -- The same of operands.
    pub scoped-all : (es : Exs) (k : Names Origin) (s o : Text → Bool) → Clear x y s → Within z s → Frees es → ScopedExs z s o es →
        ScopedExs z s o (Gs k es)
    scoped-all no_exs k s o c v f m = tt
    scoped-all (more_exs e es) k s o c v f m = (scoped e k s o c v f.0 m.0, scoped-all es k s o c v f.1 m.1)

    -- The same of generators.
    pub scoped-gens : (gs : Gens) (k : Names Origin) (s o : Text → Bool) (a b : Ex) →
        ((t p : Text → Bool) → Clear x y t → Within z t → Scoped z t p a → Scoped z t p b) → Clear x y s → Within z s →
        NamesAreGens (λ a. true) (is_other x y) gs → ScopedGens z s o gs (λ t p. Scoped z t p a) →
        ScopedGens z s o (guarded_gens natural x y k gs) (λ t p. Scoped z t p b)
    scoped-gens no_gens k s o a b g c v f m = g s o c v m
    scoped-gens (over p d gs) k s o a b g c v f m = (
      m.0,
      scoped-dom d k s o c v f.1 m.1,
      scoped-gens gs (with_over p d k) (with_names s p) (with_names o p) a b g (clear-with x y s p c f.0)
          (within-with z s p v) f.2 m.2,
    )
    scoped-gens (from p e gs) k s o a b g c v f m = (
      m.0,
      scoped e k s o c v f.1 m.1,
      scoped-gens gs (with_any p k) (with_names s p) o a b g (clear-with x y s p c f.0) (within-with z s p v) f.2 m.2,
    )
    scoped-gens (cond e gs) k s o a b g c v f m = (scoped e k s o c v f.0 m.0, scoped-gens gs k s o a b g c v f.1 m.1)

    -- The same of a domain.
    pub scoped-dom : (d : Dom) (k : Names Origin) (s o : Text → Bool) → Clear x y s → Within z s → NamesAreDom (λ a. true) (is_other x y) d →
        ScopedDom z s o d → ScopedDom z s o (guarded_dom natural x y k d)
    scoped-dom bool_dom k s o c v f m = tt
    scoped-dom (int_dom rs es) k s o c v f m = scoped-all es k s o c v f m
    scoped-dom (name_dom a) k s o c v f m = tt
    scoped-dom (tuple_dom ds) k s o c v f m = scoped-doms ds k s o c v f m
    scoped-dom (record_dom fs ds) k s o c v f m = scoped-doms ds k s o c v f m
    scoped-dom (matrix_dom is d) k s o c v f m = (scoped-doms is k s o c v f.0 m.0, scoped-dom d k s o c v f.1 m.1)
    scoped-dom (set_dom ms es d) k s o c v f m = (scoped-all es k s o c v f.0 m.0, scoped-dom d k s o c v f.1 m.1)
    scoped-dom (mset_dom ms es d) k s o c v f m = (scoped-all es k s o c v f.0 m.0, scoped-dom d k s o c v f.1 m.1)
    scoped-dom (function_dom ms es d e) k s o c v f m =
        (scoped-all es k s o c v f.0 m.0, scoped-dom d k s o c v f.1 m.1, scoped-dom e k s o c v f.2 m.2)
    scoped-dom (relation_dom ms es ds) k s o c v f m = (scoped-all es k s o c v f.0 m.0, scoped-doms ds k s o c v f.1 m.1)
    scoped-dom (partition_dom ms es d) k s o c v f m = (scoped-all es k s o c v f.0 m.0, scoped-dom d k s o c v f.1 m.1)

    -- The same of several domains.
    pub scoped-doms : (ds : Doms) (k : Names Origin) (s o : Text → Bool) → Clear x y s → Within z s →
        NamesAreDoms (λ a. true) (is_other x y) ds → ScopedDoms z s o ds → ScopedDoms z s o (guarded_doms natural x y k ds)
    scoped-doms no_doms k s o c v f m = tt
    scoped-doms (more_doms d ds) k s o c v f m = (scoped-dom d k s o c v f.0 m.0, scoped-doms ds k s o c v f.1 m.1)

    -- The conditions of a term.
    pub asked : (e : Ex) (k : Names Origin) (w : Bool) (s o : Text → Bool) → Clear x y s → Within z s → Free e → Scoped z s o e →
        Each s o (C k w e)
    asked (number_ex n) k w s o c v f m = tt
    asked (truth_ex b) k w s o c v f m = tt
    asked (name_ex a) k w s o c v f m = tt
    asked (node_ex b op es) k w s o c v f m = scoped-choose z s o (b || connects op) _
        (node-scoped (passes natural x y w op) w op es k s o c v (asked-all es k (passes natural x y w op) s o c v f m)
        (scoped-all es k s o c v f m))
    asked (matrix_ex es d) k w s o c v f m = scoped-append z s o (Cs k false es) _ (asked-all es k false s o c v f.0 m.0)
        (scoped-append z s o (conditions_dom natural x y k d) _ (asked-dom d k s o c v f.1 m.1)
        (R.matrix-scoped z x y differ s o c v es (guarded_dom natural x y k d) (scoped-dom d k s o c v f.1 m.1)))
    asked (comp_ex e gs) k w s o c v f m =
        asked-gens gs k s o e (C (known_behind gs k) false e) (λ t p d u q. asked e (known_behind gs k) false t p d u f.0 q) c v f.1 m
    asked (cell_ex true n es) k w s o c v f m = tt
    asked (cell_ex false n es) k w s o c v f m = asked-all es k false s o c v f m
    asked (seen_ex r d ns es) k w s o c v f m = tt

    -- The same of operands.
    pub asked-all : (es : Exs) (k : Names Origin) (w : Bool) (s o : Text → Bool) → Clear x y s → Within z s → Frees es → ScopedExs z s o es →
        Each s o (Cs k w es)
    asked-all no_exs k w s o c v f m = tt
    asked-all (more_exs e es) k w s o c v f m =
        scoped-append z s o (C k w e) (Cs k w es) (asked e k w s o c v f.0 m.0) (asked-all es k w s o c v f.1 m.1)

    -- The same of generators.
    pub asked-gens : (gs : Gens) (k : Names Origin) (s o : Text → Bool) (a : Ex) (cs : List Ex) →
        ((t p : Text → Bool) → Clear x y t → Within z t → Scoped z t p a → Each t p cs) → Clear x y s → Within z s →
        NamesAreGens (λ a. true) (is_other x y) gs → ScopedGens z s o gs (λ t p. Scoped z t p a) →
        Each s o (conditions_gens natural x y k gs cs)
    asked-gens no_gens k s o a cs g c v f m = g s o c v m
    asked-gens (over p d gs) k s o a cs g c v f m = scoped-append z s o (conditions_dom natural x y k d) _ (asked-dom d k s o c v f.1 m.1)
        (over-scoped z s o p (guarded_dom natural x y k d) (conditions_gens natural x y (with_over p d k) gs cs) m.0
        (scoped-dom d k s o c v f.1 m.1)
        (asked-gens gs (with_over p d k) (with_names s p) (with_names o p) a cs g (clear-with x y s p c f.0) (within-with z s p v) f.2 m.2))
    asked-gens (from p e gs) k s o a cs g c v f m = scoped-append z s o (C k false e) _ (asked e k false s o c v f.1 m.1)
        (from-scoped z s o p (G k e) (conditions_gens natural x y (with_any p k) gs cs) m.0 (scoped e k s o c v f.1 m.1)
        (asked-gens gs (with_any p k) (with_names s p) o a cs g (clear-with x y s p c f.0) (within-with z s p v) f.2 m.2))
    asked-gens (cond e gs) k s o a cs g c v f m =
        given-scoped z s o (G k e) (conditions_gens natural x y k gs cs) (scoped e k s o c v f.0 m.0)
        (asked-gens gs k s o a cs g c v f.1 m.1)

    -- The same of a domain.
    pub asked-dom : (d : Dom) (k : Names Origin) (s o : Text → Bool) → Clear x y s → Within z s → NamesAreDom (λ a. true) (is_other x y) d →
        ScopedDom z s o d → Each s o (conditions_dom natural x y k d)
    asked-dom bool_dom k s o c v f m = tt
    asked-dom (int_dom rs es) k s o c v f m = asked-all es k false s o c v f m
    asked-dom (name_dom a) k s o c v f m = tt
    asked-dom (tuple_dom ds) k s o c v f m = asked-doms ds k s o c v f m
    asked-dom (record_dom fs ds) k s o c v f m = asked-doms ds k s o c v f m
    asked-dom (matrix_dom is d) k s o c v f m =
        scoped-append z s o (conditions_doms natural x y k is) _ (asked-doms is k s o c v f.0 m.0) (asked-dom d k s o c v f.1 m.1)
    asked-dom (set_dom ms es d) k s o c v f m =
        scoped-append z s o (Cs k false es) _ (asked-all es k false s o c v f.0 m.0) (asked-dom d k s o c v f.1 m.1)
    asked-dom (mset_dom ms es d) k s o c v f m =
        scoped-append z s o (Cs k false es) _ (asked-all es k false s o c v f.0 m.0) (asked-dom d k s o c v f.1 m.1)
    asked-dom (function_dom ms es d e) k s o c v f m = scoped-append z s o (Cs k false es) _ (asked-all es k false s o c v f.0 m.0)
        (scoped-append z s o (conditions_dom natural x y k d) _ (asked-dom d k s o c v f.1 m.1) (asked-dom e k s o c v f.2 m.2))
    asked-dom (relation_dom ms es ds) k s o c v f m =
        scoped-append z s o (Cs k false es) _ (asked-all es k false s o c v f.0 m.0) (asked-doms ds k s o c v f.1 m.1)
    asked-dom (partition_dom ms es d) k s o c v f m =
        scoped-append z s o (Cs k false es) _ (asked-all es k false s o c v f.0 m.0) (asked-dom d k s o c v f.1 m.1)

    -- The same of several domains.
    pub asked-doms : (ds : Doms) (k : Names Origin) (s o : Text → Bool) → Clear x y s → Within z s →
        NamesAreDoms (λ a. true) (is_other x y) ds → ScopedDoms z s o ds → Each s o (conditions_doms natural x y k ds)
    asked-doms no_doms k s o c v f m = tt
    asked-doms (more_doms d ds) k s o c v f m =
        scoped-append z s o (conditions_dom natural x y k d) _ (asked-dom d k s o c v f.0 m.0) (asked-doms ds k s o c v f.1 m.1)
