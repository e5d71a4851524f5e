-- What stands over tables in the place of the names of a specification of sets.
use Rattle.std.proofs.Common.{◌≡◌, refl, sym, ap, ◌∙◌, subst, ℕ, suc, Bool, true, false, ◌||◌, if◌then◌else◌, List, [], ◌∷◌, ◌++◌, map, filter, length, pos, inl, inr, ◌⊎◌, Option, Some, None, is_some}
use Rattle.ess_semantics.specs.Values.{Text}
use Rattle.ess_semantics.specs.Order.{same_text}
use Rattle.ess_semantics.specs.Names.{Names, look, keys, is_among}
use Rattle.ess_semantics.specs.Trees.{Ex, number_ex, cell_ex, no_exs, Dom, name_dom, set_dom, Stm, find}
use Rattle.ess_semantics.specs.Plans.{Plan, plans, is_plan_for}
use Rattle.ess_semantics.proofs.Texts.{same_text-itself}
use Rattle.conjure_laws.specs.Members.{In}
use Rattle.conjure_laws.specs.SetsOfAtoms.{Atom, range, boolean, typed, Line, enum, given_type, unnamed, set_find, holds_lit, sets_of, statement, spec, TypeKind, fixed, sized, Declared, none_declared, enum_values, after, after_all}
use Rattle.conjure_laws.specs.ModelsOfSets.{no_options, size_name, axis_for}
use Rattle.ess_repr_laws.specs.StructureParts.{upto}
use Rattle.ess_semantics.proofs.Tests.{or-yes}
use Rattle.conjure_laws.proofs.SetScopes.{Fine, fine-later, prepared-itself, look-past, not-new, other, known-later}
use Rattle.conjure_laws.proofs.SetNames.{look-cons, of-some}
use Rattle.conjure_laws.proofs.SetValues.{one-atom}
use Rattle.conjure_model_laws.specs.ToldApart.{told_dom}
use Rattle.conjure_model_laws.specs.Shown.{Shows, shows_nothing, shown_dom, view_by, with_views, with_declared, positions_from, shows_behind, shows_from, shows_of}
use Rattle.ess_member_shows_laws.proofs.FindPlans.{plan_at, find-plans}
use Rattle.ess_member_models_laws.specs.MemberModels.{axis_at}

-- ---- names that are declared before

-- A type keeps its kind.
type-final : (U : List Line) (c : Declared) → Fine c U → (t : Text) (k : TypeKind) → is_among c.names t ≡ true →
    look c.types t ≡ Some k → look (after_all U c).types t ≡ Some k
type-final [] c f t k i e = e
type-final (enum u ns ∷ U) c f t k i e = type-final U (after (enum u ns) c) f.1 t k (known-later (enum u ns) c t i)
    (ap (λ b. if b then Some (fixed (length ns)) else look c.types t) (other c.names u t f.0.0.0 i) ∙ e)
type-final (given_type u ∷ U) c f t k i e = type-final U (after (given_type u) c) f.1 t k (known-later (given_type u) c t i)
    (ap (λ b. if b then Some sized else look c.types t) (other c.names u t f.0.0.0 i) ∙ e)
type-final (unnamed u n ∷ U) c f t k i e = type-final U (after (unnamed u n) c) f.1 t k (known-later (unnamed u n) c t i)
    (ap (λ b. if b then Some (fixed n) else look c.types t) (other c.names u t f.0.0.0 i) ∙ e)
type-final (set_find x A ∷ U) c f t k i e = type-final U (after (set_find x A) c) f.2 t k (known-later (set_find x A) c t i) e
type-final (holds_lit l x ∷ U) c f t k i e = type-final U c f.1 t k i e

module _ (T : List Line) (ok : Fine none_declared T) where
  abbrev S' : List Stm
  S' = spec T

  abbrev ks : Names TypeKind
  ks = (after_all T none_declared).types

  abbrev Ps : List Plan
  Ps = plans S' no_options

  -- ---- what is shown

  -- The number of values of a type.
  abbrev size_of : TypeKind → Text → Ex
  size_of (fixed n) t = number_ex (pos n)
  size_of sized t = cell_ex false (size_name Ps t) no_exs

  -- The domain and the view of a find.
  abbrev pub dom_at : Atom → Dom
  dom_at A = set_dom [] no_exs (axis_at T A)

  abbrev pub view_at : Text → Atom → Ex
  view_at x A = view_by (dom_at A) (plan_at T ok x A)

  -- What is known behind lines that declare c.
  pub record Inv (c : Declared) (sh : Shows) : Type 0 where
    pub sizes : (t : Text) (k : TypeKind) → look c.types t ≡ Some k → (look sh.sizes t ≡ Some (size_of k t)) × (is_among c.names t ≡ true)
    pub values : (n t : Text) (k : ℕ) → look c.values n ≡ Some (t, k) →
        (look sh.first n ≡ Some (number_ex (pos k))) × (is_among c.names n ≡ true)
    pub finds : (x : Text) (A : Atom) → look c.finds x ≡ Some A →
        (look sh.last x ≡ Some (view_at x A)) × (look sh.doms x ≡ Some (dom_at A)) × (is_among c.names x ≡ true)

  -- A type more.
  type-more : (l : Line) (u : Text) (k0 : TypeKind) (c : Declared) (sh : Shows) → is_among c.names u ≡ false →
      is_among (after l c).names u ≡ true → Inv c sh → (t : Text) (k : TypeKind) → look ((u, k0) ∷ c.types) t ≡ Some k →
      (look ((u, size_of k0 u) ∷ sh.sizes) t ≡ Some (size_of k t)) × (is_among (after l c).names t ≡ true)
  type-more l u k0 c sh f g h t k e = go (look-cons u t k0 k c.types e)
    where
      go : ((u ≡ t) × (k0 ≡ k)) ⊎ (look c.types t ≡ Some k) →
          (look ((u, size_of k0 u) ∷ sh.sizes) t ≡ Some (size_of k t)) × (is_among (after l c).names t ≡ true)
      go (inl q) = (
        ap (λ b. if b then Some (size_of k0 u) else look sh.sizes t) (ap (λ z. same_text z t) q.0 ∙ same_text-itself t)
            ∙ ap (λ z. Some (size_of k0 z)) q.0 ∙ ap (λ z. Some (size_of z t)) q.1,
        ap (is_among (after l c).names) (sym q.0) ∙ g,
      )
      go (inr q) = let r = h.sizes t k q in (
        ap (λ b. if b then Some (size_of k0 u) else look sh.sizes t) (other c.names u t f r.1) ∙ r.0,
        known-later l c t r.1,
      )

  -- Values of an enumerated type.
  value-more : (u : Text) (k0 : ℕ) (ns : List Text) (c : Declared) (gs : Names Ex) (n t : Text) (k : ℕ) →
      look (enum_values u k0 ns ++ c.values) n ≡ Some (t, k) →
      (look c.values n ≡ Some (t, k) → (look gs n ≡ Some (number_ex (pos k))) × (is_among c.names n ≡ true)) →
      (look (positions_from k0 ns ++ gs) n ≡ Some (number_ex (pos k))) × (is_among (ns ++ c.names) n ≡ true)
  value-more u k0 [] c gs n t k e h = h e
  value-more u k0 (m ∷ ns) c gs n t k e h = go (same_text m n) e (λ e. value-more u (suc k0) ns c gs n t k e h)
    where
      go : (b : Bool) → (if b then Some (u, k0) else look (enum_values u (suc k0) ns ++ c.values) n) ≡ Some (t, k) →
          (look (enum_values u (suc k0) ns ++ c.values) n ≡ Some (t, k) →
          (look (positions_from (suc k0) ns ++ gs) n ≡ Some (number_ex (pos k))) × (is_among (ns ++ c.names) n ≡ true)) →
          ((if b then Some (number_ex (pos k0)) else look (positions_from (suc k0) ns ++ gs) n) ≡ Some (number_ex (pos k)))
          × (b || is_among (ns ++ c.names) n ≡ true)
      go true e f = let z : k0 ≡ k = ap (λ v. v.1) (of-some (u, k0) (t, k) e) in (ap (λ j. Some (number_ex (pos j))) z, refl)
      go false e f = f e

  position-keys : (k : ℕ) (ns : List Text) → keys (positions_from k ns) ≡ ns
  position-keys k [] = refl
  position-keys k (n ∷ ns) = ap (λ l. n ∷ l) (position-keys (suc k) ns)

  -- A find's domain over tables.
  dom-shown : (U : List Line) (c : Declared) (sh : Shows) (x : Text) (A : Atom) → Fine c (set_find x A ∷ U) →
      (after_all (set_find x A ∷ U) c).types ≡ ks → Inv c sh → shown_dom sh (sets_of A) ≡ dom_at A
  dom-shown U c sh x (range a b) f e h = refl
  dom-shown U c sh x boolean f e h = refl
  dom-shown U c sh x (typed t) f e h = go (look c.types t) refl f.1
    where
      go : (o : Option TypeKind) → look c.types t ≡ o → is_some o ≡ true → shown_dom sh (sets_of (typed t)) ≡ dom_at (typed t)
      go None q s = cc
      go (Some k) q s =
          let r = h.sizes t k q in
          ap (λ o. set_dom [] no_exs (elim o [ Some e ↦ upto e | None ↦ name_dom t ])) r.0
          ∙ same k ∙ ap (λ o. set_dom [] no_exs (axis_for Ps t o))
          (sym (ap (λ g. look g t) (sym e) ∙ type-final (set_find x (typed t) ∷ U) c f t k r.1 q))
        where
          same : (k : TypeKind) → set_dom [] no_exs (upto (size_of k t)) ≡ set_dom [] no_exs (axis_for Ps t (Some k))
          same (fixed n) = refl
          same sized = refl

  told-sets : (A : Atom) (k : ℕ) → told_dom (sets_of A) [] k ≡ (sets_of A, k)
  told-sets (range a b) k = refl
  told-sets boolean k = refl
  told-sets (typed t) k = refl

  -- What is shown behind a find.
  abbrev behind_find : Text → Atom → Shows → Shows
  behind_find x A sh = record {
    first = (x, view_at x A) ∷ sh.first;
    last = (x, view_at x A) ∷ sh.last;
    sizes = sh.sizes;
    doms = (x, dom_at A) ∷ sh.doms;
    next = sh.next;
  }

  find-shown : (x : Text) (A : Atom) (sh : Shows) → In (find x (sets_of A)) S' → shown_dom sh (sets_of A) ≡ dom_at A →
      with_declared Ps x (sets_of A) sh ≡ behind_find x A sh
  find-shown x A sh i e =
      ap (λ q. with_views x (map (view_by (shown_dom sh q.0)) (filter (is_plan_for x) Ps))
      (record { first = sh.first; last = sh.last; sizes = sh.sizes; doms = (x, shown_dom sh q.0) ∷ sh.doms; next = q.1 }))
      (told-sets A sh.next)
      ∙ ap (λ d. with_views x (map (view_by d) (filter (is_plan_for x) Ps))
      (record { first = sh.first; last = sh.last; sizes = sh.sizes; doms = (x, d) ∷ sh.doms; next = sh.next })) e
      ∙ ap (λ Qs. with_views x (map (view_by (dom_at A)) Qs)
      (record {
        first = sh.first;
        last = sh.last;
        sizes = sh.sizes;
        doms = (x, dom_at A) ∷ sh.doms;
        next =
            sh.next;
      })) (find-plans T ok x A i)

  -- From one line to the next.
  step : (l : Line) (U : List Line) (c : Declared) (sh : Shows) → Fine c (l ∷ U) → (after_all (l ∷ U) c).types ≡ ks →
      ((x : Text) (d : Dom) → In (find x d) (spec (l ∷ U)) → In (find x d) S') → Inv c sh →
      Inv (after l c) (shows_behind Ps (statement l) sh)
  step (enum u ns) U c sh f e i h = record {
    sizes = type-more (enum u ns) u (fixed (length ns)) c sh f.0.0.0
        (ap (λ b. b || is_among (ns ++ c.names) u) (same_text-itself u)) h;
    values = λ n t k q. let r = value-more u 1 ns c sh.first n t k q (h.values n t k) in
        (r.0, ap (λ b. same_text u n || b) r.1 ∙ or-yes (same_text u n));
    finds = λ x A q. let r = h.finds x A q in (
      look-past (positions_from 1 ns) sh.last x (ap (λ l. is_among l x) (position-keys 1 ns) ∙ not-new c.names ns x f.0.0.1 r.2) ∙ r.0,
      r.1,
      known-later (enum u ns) c x r.2,
    );
  }
  step (given_type u) U c sh f e i h = record {
    sizes = type-more (given_type u) u sized c sh f.0.0.0 (ap (λ b. b || is_among c.names u) (same_text-itself u)) h;
    values = λ n t k q. let r = h.values n t k q in (r.0, known-later (given_type u) c n r.1);
    finds = λ x A q. let r = h.finds x A q in (r.0, r.1, known-later (given_type u) c x r.2);
  }
  step (unnamed u m) U c sh f e i h = record {
    sizes = type-more (unnamed u m) u (fixed m) c sh f.0.0.0 (ap (λ b. b || is_among c.names u) (same_text-itself u)) h;
    values = λ n t k q. let r = h.values n t k q in (r.0, known-later (unnamed u m) c n r.1);
    finds = λ x A q. let r = h.finds x A q in (r.0, r.1, known-later (unnamed u m) c x r.2);
  }
  step (set_find y B) U c sh f e i h =
      subst (Inv (after (set_find y B) c)) (sym (find-shown y B sh (i y (sets_of B) (inl refl)) (dom-shown U c sh y B f e h))) (record {
        sizes = λ t k q. let r = h.sizes t k q in (r.0, known-later (set_find y B) c t r.1);
        values = λ n t k q. let r = h.values n t k q in (
          ap (λ b. if b then Some (view_at y B) else look sh.first n) (other c.names y n f.0.0.0 r.1) ∙ r.0,
          known-later (set_find y B) c n r.1,
        );
        finds = λ x A q. more x A (look-cons y x B A c.finds q);
      })
    where
      more : (x : Text) (A : Atom) → ((y ≡ x) × (B ≡ A)) ⊎ (look c.finds x ≡ Some A) →
          (look ((y, view_at y B) ∷ sh.last) x ≡ Some (view_at x A)) × (look ((y, dom_at B) ∷ sh.doms) x ≡ Some (dom_at A))
          × (is_among (y ∷ c.names) x ≡ true)
      more x A (inl q) =
          let s : same_text y x ≡ true = ap (λ z. same_text z x) q.0 ∙ same_text-itself x in (
            ap (λ b. if b then Some (view_at y B) else look sh.last x) s ∙ ap (λ z. Some (view_at z B)) q.0
                ∙ ap (λ z. Some (view_at x z)) q.1,
            ap (λ b. if b then Some (dom_at B) else look sh.doms x) s ∙ ap (λ z. Some (dom_at z)) q.1,
            ap (λ b. b || is_among c.names x) s,
          )
      more x A (inr q) =
          let r = h.finds x A q in
          let s = other c.names y x f.0.0.0 r.2 in (
            ap (λ b. if b then Some (view_at y B) else look sh.last x) s ∙ r.0,
            ap (λ b. if b then Some (dom_at B) else look sh.doms x) s ∙ r.1,
            known-later (set_find y B) c x r.2,
          )
  step (holds_lit l x) U c sh f e i h = h

  -- Behind all lines.
  all-lines : (U : List Line) (c : Declared) (sh : Shows) → Fine c U → (after_all U c).types ≡ ks →
      ((x : Text) (d : Dom) → In (find x d) (spec U) → In (find x d) S') → Inv c sh → Inv (after_all U c) (shows_from Ps (spec U) sh)
  all-lines [] c sh f e i h = h
  all-lines (l ∷ U) c sh f e i h =
      all-lines U (after l c) (shows_behind Ps (statement l) sh) (fine-later l U c f) e (λ x d j. i x d (inr j)) (step l U c sh f e i h)

  pub shows-all : Inv (after_all T none_declared) (shows_of S' no_options)
  shows-all = subst (λ l. Inv (after_all T none_declared) (shows_from Ps l shows_nothing)) (sym (prepared-itself T))
      (all-lines T none_declared shows_nothing ok refl (λ x d i. i) (record {
        sizes = λ t k e. absurd (no e);
        values = λ n t k e. absurd (no e);
        finds = λ x A e. absurd (no e);
      }))
    where
      no : {A : Type 0} {a : A} → None ≡ Some a → ⊥
      no e = cc

  -- ---- a find is known behind all lines

  find-final : (U : List Line) (c : Declared) → Fine c U → (x : Text) (A : Atom) →
      ((look c.finds x ≡ Some A) × (is_among c.names x ≡ true)) ⊎ In (find x (sets_of A)) (spec U) → look (after_all U c).finds x ≡ Some A
  find-final [] c f x A (inl e) = e.0
  find-final [] c f x A (inr i) = absurd i
  find-final (enum u ns ∷ U) c f x A (inl e) = find-final U (after (enum u ns) c) f.1 x A (inl (e.0, known-later (enum u ns) c x e.1))
  find-final (enum u ns ∷ U) c f x A (inr (inl e)) = cc
  find-final (enum u ns ∷ U) c f x A (inr (inr i)) = find-final U (after (enum u ns) c) f.1 x A (inr i)
  find-final (given_type u ∷ U) c f x A (inl e) = find-final U (after (given_type u) c) f.1 x A (inl (
    e.0,
    known-later
        (given_type u) c x e.1,
  ))
  find-final (given_type u ∷ U) c f x A (inr (inl e)) = cc
  find-final (given_type u ∷ U) c f x A (inr (inr i)) = find-final U (after (given_type u) c) f.1 x A (inr i)
  find-final (unnamed u m ∷ U) c f x A (inl e) = find-final U (after (unnamed u m) c) f.1 x A (inl (e.0, known-later (unnamed u m) c x e.1))
  find-final (unnamed u m ∷ U) c f x A (inr (inl e)) = cc
  find-final (unnamed u m ∷ U) c f x A (inr (inr i)) = find-final U (after (unnamed u m) c) f.1 x A (inr i)
  find-final (holds_lit l y ∷ U) c f x A (inl e) = find-final U c f.1 x A (inl e)
  find-final (holds_lit l y ∷ U) c f x A (inr (inl e)) = cc
  find-final (holds_lit l y ∷ U) c f x A (inr (inr i)) = find-final U c f.1 x A (inr i)
  find-final (set_find y B ∷ U) c f x A (inl e) = find-final U (after (set_find y B) c) f.2 x A (inl (
    ap (λ b. if b then Some B else look c.finds x) (other c.names y x f.0.0.0 e.1) ∙ e.0,
    known-later (set_find y B) c x e.1,
  ))
  find-final (set_find y B ∷ U) c f x A (inr (inl e)) =
      let p : x ≡ y = cc in
      let d : sets_of A ≡ sets_of B = cc in
      let s : same_text y x ≡ true = ap (λ z. same_text z x) (sym p) ∙ same_text-itself x in
      find-final U (after (set_find y B) c) f.2 x A (inl (
        ap (λ b. if b then Some B else look c.finds x) s ∙ ap (λ z. Some z) (sym (one-atom T ok A B d)),
        ap (λ b. b || is_among c.names x) s,
      ))
  find-final (set_find y B ∷ U) c f x A (inr (inr i)) = find-final U (after (set_find y B) c) f.2 x A (inr i)

  -- What is shown for a find.
  pub found-shown : (x : Text) (A : Atom) → In (find x (sets_of A)) S' →
      (look (shows_of S' no_options).last x ≡ Some (view_at x A)) × (look (shows_of S' no_options).doms x ≡ Some (dom_at A))
  found-shown x A i = let r = shows-all.finds x A (find-final T none_declared ok x A (inr i)) in (r.0, r.1)
