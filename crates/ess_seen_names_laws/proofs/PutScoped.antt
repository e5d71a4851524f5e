-- Terms in the place of names leave a tree in scope, where the names that are bound over domains stay, and where no name is in scope but
-- the old ones and x, which the tree doesn't bind.
use Rattle.std.proofs.Common.{◌≡◌, refl, sym, ap, ◌∙◌, subst, Bool, true, false, ◌||◌, not}
use Rattle.std.specs.Prelude.{IsTrue}
use Rattle.ess_semantics.specs.Values.{Text}
use Rattle.ess_semantics.specs.Order.{same_text}
use Rattle.ess_semantics.specs.Trees.{Pat, Pats, name_pat, tuple_pat, no_pats, more_pats, Ex, Exs, number_ex, truth_ex, name_ex, node_ex, matrix_ex, comp_ex, cell_ex, seen_ex, no_exs, more_exs, Gens, no_gens, over, from, cond, Dom, Doms, bool_dom, int_dom, name_dom, tuple_dom, record_dom, matrix_dom, set_dom, mset_dom, function_dom, relation_dom, partition_dom, no_doms, more_doms}
use Rattle.ess_semantics.specs.Scoped.{is_bound, is_bound_by_some, BindsNew, AllBindNew, with_names, IsPlainIndex, Scoped, ScopedExs, ScopedGens, ScopedDom, ScopedDoms}
use Rattle.ess_semantics.specs.Substitution.{substitute, substitute_exs, substitute_gens, substitute_dom, substitute_doms, Binds, BindsAll, NamesAre, NamesAreExs, NamesAreGens, NamesAreDom, NamesAreDoms}
use Rattle.ess_semantics.proofs.Tests.{or-yes}
use Rattle.ess_rules_laws.proofs.Agreement.{same_text-equal, same_text-itself}
use Rattle.ess_rules_laws.proofs.Simulation.{dom-itself, substitute-itself}
use Rattle.ess_rules_laws.proofs.UsedNames.{dom-agree}
use Rattle.ess_refine_laws.specs.ScopesStay.{Scope}
use Rattle.ess_seen_names_laws.specs.Laws.{none}

-- ---- tests

pub no : {A : Type 0} → false ≡ true → A
no h = cc

pub left-true : (b c : Bool) → b ≡ true → b || c ≡ true
left-true b c h = ap (λ d. d || c) h

pub right-true : (b c : Bool) → c ≡ true → b || c ≡ true
right-true b c h = ap (λ d. b || d) h ∙ or-yes b

pub one-of : {A : Type 0} (b c : Bool) → b || c ≡ true → (b ≡ true → A) → (c ≡ true → A) → A
one-of true c h f g = f refl
one-of false c h f g = g h

pub first-false : (b c : Bool) → b || c ≡ false → b ≡ false
first-false false c h = refl
first-false true c h = h

pub second-false : (b c : Bool) → b || c ≡ false → c ≡ false
second-false false c h = h
second-false true c h = cc

-- What isn't true is false.
pub otherwise : (b : Bool) → (b ≡ true → false ≡ true) → b ≡ false
otherwise false f = refl
otherwise true f = sym (f refl)

pub absent : (b : Bool) → IsTrue (not b) → b ≡ false
absent false h = refl
absent true h = cc

-- A name that is bound behind a generator of it.
pub bound : (x : Text) (u : Text → Bool) → IsTrue (with_names u (name_pat x) x)
bound x u = ap (λ b. u x || b) (same_text-itself x) ∙ or-yes (u x)

-- A name that isn't x.
pub other-way : (x b : Text) → IsTrue (not (same_text x b)) → same_text b x ≡ false
other-way x b h = otherwise (same_text b x) (λ q.
    let i : b ≡ x = same_text-equal b x q in
    let j : same_text x b ≡ true = ap (λ a. same_text a b) (sym i) ∙ same_text-itself b in
    sym (absent (same_text x b) h) ∙ j)

-- ---- patterns

mutual
  -- What a new pattern binds isn't there.
  bound-new : (s : Text → Bool) (q : Pat) (a : Text) → BindsNew s q → is_bound q a ≡ true → s a ≡ false
  bound-new s (name_pat b) a n h = let i : b ≡ a = same_text-equal b a h in ap s (sym i) ∙ absent (s b) n
  bound-new s (tuple_pat qs) a n h = all-bound-new s qs a n h

  all-bound-new : (s : Text → Bool) (qs : Pats) (a : Text) → AllBindNew s qs → is_bound_by_some qs a ≡ true → s a ≡ false
  all-bound-new s no_pats a n h = no h
  all-bound-new s (more_pats q qs) a n h =
      one-of (is_bound q a) (is_bound_by_some qs a) h (bound-new s q a n.0) (all-bound-new s qs a n.1)

module _ (f : Text → Ex) (x : Text) (grows : (a : Text) (t p u o : Text → Bool) → ((c : Text) → t c ≡ true → u c ≡ true) →
    ((c : Text) → p c ≡ true → o c ≡ true) → Scoped none t p (f a) → Scoped none u o (f a)) where
  -- The tree stands at names s, and o over domains, and goes to t and p.
  pub record Moves (s t o p : Text → Bool) : Type 0 where
    pub used : (a : Text) → s a ≡ true → Scoped none t p (f a)
    pub plain : (a : Text) → o a ≡ true → (p a ≡ true) × (f a ≡ name_ex a)
    pub new : (a : Text) → t a ≡ true → s a || same_text x a ≡ true
    pub same : (a : Text) → s a ≡ false → f a ≡ name_ex a

  module _ (s t o p : Text → Bool) (w : Moves s t o p) where
    behind-used : (q : Pat) (r : Text → Bool) → BindsNew s q → ((c : Text) → p c ≡ true → r c ≡ true) → (a : Text) →
        with_names s q a ≡ true → Scoped none (with_names t q) r (f a)
    behind-used q r n k a h = one-of (s a) (is_bound q a) h
        (λ i. grows a t p (with_names t q) r (λ c j. left-true (t c) (is_bound q c) j) k (w.used a i))
        (λ i. subst (Scoped none (with_names t q) r) (sym (w.same a (bound-new s q a n i))) (right-true (t a) (is_bound q a) i))

    behind-new : (q : Pat) (a : Text) → with_names t q a ≡ true → with_names s q a || same_text x a ≡ true
    behind-new q a h = one-of (t a) (is_bound q a) h
        (λ i. one-of (s a) (same_text x a) (w.new a i)
        (λ j. left-true (s a || is_bound q a) (same_text x a) (left-true (s a) (is_bound q a) j))
        (right-true (s a || is_bound q a) (same_text x a)))
        (λ i. left-true (s a || is_bound q a) (same_text x a) (right-true (s a) (is_bound q a) i))

    behind-same : (q : Pat) (a : Text) → with_names s q a ≡ false → f a ≡ name_ex a
    behind-same q a h = w.same a (first-false (s a) (is_bound q a) h)

    moves-domain : (q : Pat) → BindsNew s q → Moves (with_names s q) (with_names t q) (with_names o q) (with_names p q)
    moves-domain q n = record {
      used = behind-used q (with_names p q) n (λ c j. left-true (p c) (is_bound q c) j);
      plain = λ a h. one-of (o a) (is_bound q a) h
          (λ i. (left-true (p a) (is_bound q a) (w.plain a i).0, (w.plain a i).1))
          (λ i. (right-true (p a) (is_bound q a) i, w.same a (bound-new s q a n i)));
      new = behind-new q;
      same = behind-same q;
    }

    moves-source : (q : Pat) → BindsNew s q → Moves (with_names s q) (with_names t q) o p
    moves-source q n = record {
      used = behind-used q p n (λ c j. j);
      plain = w.plain;
      new = behind-new q;
      same = behind-same q;
    }

    mutual
      -- A pattern that is new and doesn't bind x is new there.
      pat-new : (q : Pat) → Binds (λ a. not (same_text x a)) q → BindsNew s q → BindsNew t q
      pat-new (name_pat a) b h = ap not (otherwise (t a) (λ i. one-of (s a) (same_text x a) (w.new a i)
          (λ j. sym (absent (s a) h) ∙ j) (λ j. sym (absent (same_text x a) b) ∙ j)))
      pat-new (tuple_pat qs) b h = pats-new qs b h

      pats-new : (qs : Pats) → BindsAll (λ a. not (same_text x a)) qs → AllBindNew s qs → AllBindNew t qs
      pats-new no_pats b h = tt
      pats-new (more_pats q qs) b h = (pat-new q b.0 h.0, pats-new qs b.1 h.1)

    index-moves : (es : Exs) → IsPlainIndex o es → IsPlainIndex p (substitute_exs f es)
    index-moves no_exs h = tt
    index-moves (more_exs (number_ex n) es) h = index-moves es h
    index-moves (more_exs (name_ex a) es) h =
        let k = w.plain a h.0 in
        subst (λ e. IsPlainIndex p (more_exs e (substitute_exs f es))) (sym k.1) (k.0, index-moves es h.1)
    index-moves (more_exs _ es) h = absurd h

  view-domain : (d : Dom) → NamesAreDom none (λ a. true) d → NamesAreDom none (λ a. true) (substitute_dom f d)
  view-domain d h = subst (NamesAreDom none (λ a. true))
      (sym (dom-agree f name_ex none (λ a. true) (λ a i. no i) d h ∙ dom-itself d)) h

  mutual
    pub moved : (e : Ex) (s t o p : Text → Bool) → Moves s t o p → NamesAre (λ a. true) (λ a. not (same_text x a)) e → Scoped none s o e →
        Scoped none t p (substitute f e)
    moved (number_ex n) s t o p w b h = tt
    moved (truth_ex c) s t o p w b h = tt
    moved (name_ex a) s t o p w b h = w.used a h
    moved (node_ex c op es) s t o p w b h = moved-exs es s t o p w b h
    moved (matrix_ex es d) s t o p w b h = (moved-exs es s t o p w b.0 h.0, moved-dom d s t o p w b.1 h.1)
    moved (comp_ex e gs) s t o p w b h = moved-gens gs e s t o p w b.1 (λ u v i j k l. moved e u v i j k b.0 l) h
    moved (cell_ex c n es) s t o p w b h = moved-exs es s t o p w b h
    moved (seen_ex r d ns es) s t o p w b h = (view-domain d h.0, index-moves s t o p w es h.1)

    moved-exs : (es : Exs) (s t o p : Text → Bool) → Moves s t o p → NamesAreExs (λ a. true) (λ a. not (same_text x a)) es →
        ScopedExs none s o es → ScopedExs none t p (substitute_exs f es)
    moved-exs no_exs s t o p w b h = tt
    moved-exs (more_exs e es) s t o p w b h = (moved e s t o p w b.0 h.0, moved-exs es s t o p w b.1 h.1)

    -- Of generators, where it is so of what stands behind them.
    pub moved-gens : (gs : Gens) (e : Ex) (s t o p : Text → Bool) → Moves s t o p → NamesAreGens (λ a. true) (λ a. not (same_text x a)) gs →
        ((u v i j : Text → Bool) → Moves u v i j → Scoped none u i e → Scoped none v j (substitute f e)) →
        ScopedGens none s o gs (λ u i. Scoped none u i e) →
        ScopedGens none t p (substitute_gens f gs) (λ u i. Scoped none u i (substitute f e))
    moved-gens no_gens e s t o p w b k h = k s t o p w h
    moved-gens (over q d gs) e s t o p w b k h = (
      pat-new s t o p w q b.0 h.0,
      moved-dom d s t o p w b.1 h.1,
      moved-gens gs e (with_names s q) (with_names t q) (with_names o q) (with_names p q) (moves-domain s t o p w q h.0) b.2 k h.2,
    )
    moved-gens (from q c gs) e s t o p w b k h = (
      pat-new s t o p w q b.0 h.0,
      moved c s t o p w b.1 h.1,
      moved-gens gs e (with_names s q) (with_names t q) o p (moves-source s t o p w q h.0) b.2 k h.2,
    )
    moved-gens (cond c gs) e s t o p w b k h = (moved c s t o p w b.0 h.0, moved-gens gs e s t o p w b.1 k h.1)

    moved-dom : (d : Dom) (s t o p : Text → Bool) → Moves s t o p → NamesAreDom (λ a. true) (λ a. not (same_text x a)) d →
        ScopedDom none s o d → ScopedDom none t p (substitute_dom f d)
    moved-dom bool_dom s t o p w b h = tt
    moved-dom (int_dom rs es) s t o p w b h = moved-exs es s t o p w b h
    moved-dom (name_dom a) s t o p w b h = tt
    moved-dom (tuple_dom ds) s t o p w b h = moved-doms ds s t o p w b h
    moved-dom (record_dom fs ds) s t o p w b h = moved-doms ds s t o p w b h
    moved-dom (matrix_dom is d) s t o p w b h = (moved-doms is s t o p w b.0 h.0, moved-dom d s t o p w b.1 h.1)
    moved-dom (set_dom ms es d) s t o p w b h = (moved-exs es s t o p w b.0 h.0, moved-dom d s t o p w b.1 h.1)
    moved-dom (mset_dom ms es d) s t o p w b h = (moved-exs es s t o p w b.0 h.0, moved-dom d s t o p w b.1 h.1)
    moved-dom (function_dom ms es d c) s t o p w b h =
        (moved-exs es s t o p w b.0 h.0, moved-dom d s t o p w b.1 h.1, moved-dom c s t o p w b.2 h.2)
    moved-dom (relation_dom ms es ds) s t o p w b h = (moved-exs es s t o p w b.0 h.0, moved-doms ds s t o p w b.1 h.1)
    moved-dom (partition_dom ms es d) s t o p w b h = (moved-exs es s t o p w b.0 h.0, moved-dom d s t o p w b.1 h.1)

    moved-doms : (ds : Doms) (s t o p : Text → Bool) → Moves s t o p → NamesAreDoms (λ a. true) (λ a. not (same_text x a)) ds →
        ScopedDoms none s o ds → ScopedDoms none t p (substitute_doms f ds)
    moved-doms no_doms s t o p w b h = tt
    moved-doms (more_doms d ds) s t o p w b h = (moved-dom d s t o p w b.0 h.0, moved-doms ds s t o p w b.1 h.1)

-- A tree that doesn't bind x is in scope behind x.
pub behind : (x : Text) (s : Scope) (e : Ex) → NamesAre (λ a. true) (λ a. not (same_text x a)) e → Scoped none s.all s.over_domains e →
    Scoped none (with_names s.all (name_pat x)) s.over_domains e
behind x s e b h = subst (Scoped none (with_names s.all (name_pat x)) s.over_domains) (substitute-itself e)
    (moved name_ex x (λ a t p u o f g k. f a k) e s.all (with_names s.all (name_pat x)) s.over_domains s.over_domains (record {
      used = λ a k. left-true (s.all a) (same_text x a) k;
      plain = λ a k. (k, refl);
      new = λ a k. k;
      same = λ a k. refl;
    }) b h)
