-- The domains of names of the class over tables: each domain with cells in the place of the givens that its bounds name, since these are
-- declared before and their views are there.
use Rattle.std.proofs.Common.{◌≡◌, refl, sym, ap, ◌∙◌, subst, Bool, true, false, ◌||◌, not, if◌then◌else◌, List, [], ◌∷◌, ◌++◌, ◌⊎◌, inl, inr, map, filter, Option, Some, None, option_map}
use Rattle.std.specs.List.{list_all}
use Rattle.ess_semantics.specs.Lists.{or_default}
use Rattle.ess_semantics.specs.Values.{Text}
use Rattle.ess_semantics.specs.Order.{same_text}
use Rattle.ess_semantics.specs.Names.{Names, look, keys, is_among, all_distinct}
use Rattle.ess_semantics.specs.Trees.{name_ex, Dom, Stm, given, let_ex, let_dom, needs, find, such_that, minimise, maximise}
use Rattle.ess_semantics.specs.Contexts.{Each}
use Rattle.ess_semantics.specs.Plans.{Options, Plan, is_plan_for, domain_of_stm}
use Rattle.ess_semantics.specs.Models.{scalar_cell, cell_for}
use Rattle.ess_semantics.proofs.Tests.{and-left, and-right}
use Rattle.ess_rules_laws.proofs.Agreement.{same_text-equal, same_text-itself}
use Rattle.conjure_laws.specs.Members.{In}
use Rattle.conjure_laws.proofs.Lists.{in-right}
use Rattle.conjure_model_laws.specs.ToldApart.{told_dom}
use Rattle.conjure_model_laws.specs.Shown.{Shows, in_place, shown_dom, view_by, with_declared, shows_from}
use Rattle.ess_flat_models_laws.specs.FlatSpecifications.{given_mark, mark_among, is_scalar_dom, scalar_mark, is_flat_statement, are_bounded}
use Rattle.ess_flat_models_laws.specs.FlatModels.{dom_with_cells}
use Rattle.ess_flat_models_laws.proofs.FlatPlans.{AtomPlan}
use Rattle.ess_flat_models_laws.proofs.FlatNames.{no-yes, given-plan}
use Rattle.conjure_standing_laws.proofs.BuiltShows.{told-scalar, shown-scalar, first-view, doms-behind, kept_in, one-declared}

-- ---- names that are kept

-- A statement that keeps a name is one of those that do.
pub kept-of : (T : List Stm) (s : Stm) (x : Text) (d : Dom) → In s T → domain_of_stm s ≡ (x, d) ∷ [] → In (x, d) (kept_in T)
kept-of [] s x d i e = absurd i
kept-of (t ∷ T) s x d (inl q) e = subst (λ l. In (x, d) (l ++ kept_in T)) (sym (ap domain_of_stm (sym q) ∙ e)) (inl refl)
kept-of (t ∷ T) s x d (inr i) e = in-right (x, d) (domain_of_stm t) (kept_in T) (kept-of T s x d i e)

-- What is kept has its name among the keys.
pub in-keys : {A : Type 0} (x : Text) (d : A) (ks : Names A) → In (x, d) ks → In x (keys ks)
in-keys x d [] i = absurd i
in-keys x d (k ∷ ks) (inl e) = inl (ap (λ w. w.0) e)
in-keys x d (k ∷ ks) (inr i) = inr (in-keys x d ks i)

-- ---- marks

-- A given's mark among these names is its mark.
among : (xs : List Text) (g : Text → Option Bool) (a : Text) → mark_among xs g a ≡ Some false → (is_among xs a ≡ true) × (g a ≡ Some false)
among xs g a e = go (is_among xs a) refl e
  where
    go : (b : Bool) → is_among xs a ≡ b → (if b then g a else None) ≡ Some false → (is_among xs a ≡ true) × (g a ≡ Some false)
    go true q e = (q, e)
    go false q e = cc

module _ (Ps : List Plan) (o : Options) (atoms : Each Ps AtomPlan) where
  abbrev flat : Stm → Bool
  flat = is_flat_statement Ps o

  -- ---- views of givens

  -- Those of these names that are givens and numbers have their cells as views.
  pub record Seen (xs : List Text) (sh : Shows) : Type 0 where
    pub seen : (a : Text) → is_among xs a ≡ true → given_mark Ps a ≡ Some false → look sh.first a ≡ Some (cell_for a (scalar_cell Ps a))

  marked : (a : Text) → given_mark Ps a ≡ Some false → scalar_mark Ps a ≡ Some false
  marked a m = let r = given-plan Ps atoms a false m in ap (option_map (λ w. w.0)) r.cell

  -- A declaration leaves a view that is there, or gives that of its name.
  view-stays : (a : Text) → given_mark Ps a ≡ Some false → (x : Text) (d : Dom) (sh : Shows) →
      (look sh.first a ≡ Some (cell_for a (scalar_cell Ps a))) ⊎ In a (x ∷ []) →
      look (with_declared Ps x d sh).first a ≡ Some (cell_for a (scalar_cell Ps a))
  view-stays a m x d sh r =
      there (one-declared Ps o a (cell_for a (scalar_cell Ps a)) (first-view Ps atoms a false (marked a m)) x d [] sh r)
    where
      there : (look (with_declared Ps x d sh).first a ≡ Some (cell_for a (scalar_cell Ps a))) ⊎ In a [] →
          look (with_declared Ps x d sh).first a ≡ Some (cell_for a (scalar_cell Ps a))
      there (inl e) = e
      there (inr i) = absurd i

  seen-more : (xs : List Text) (x : Text) (d : Dom) (sh : Shows) → Seen xs sh → Seen (x ∷ xs) (with_declared Ps x d sh)
  seen-more xs x d sh w = record { seen = λ a i m. view-stays a m x d sh (go a (same_text x a) refl i m) }
    where
      go : (a : Text) (c : Bool) → same_text x a ≡ c → same_text x a || is_among xs a ≡ true → given_mark Ps a ≡ Some false →
          (look sh.first a ≡ Some (cell_for a (scalar_cell Ps a))) ⊎ In a (x ∷ [])
      go a true q i m = inr (inl (sym (same_text-equal x a q)))
      go a false q i m = inl (w.seen a (sym (ap (λ c. c || is_among xs a) q) ∙ i) m)

  seen-still : (xs : List Text) (x : Text) (d : Dom) (sh : Shows) → Seen xs sh → Seen xs (with_declared Ps x d sh)
  seen-still xs x d sh w = record { seen = λ a i m. view-stays a m x d sh (inl (w.seen a i m)) }

  in-bounds : (xs : List Text) (sh : Shows) → Seen xs sh → (a : Text) → mark_among xs (given_mark Ps) a ≡ Some false →
      in_place sh.first a ≡ cell_for a (scalar_cell Ps a)
  in-bounds xs sh w a e = let r = among xs (given_mark Ps) a e in ap (λ u. or_default u (name_ex a)) (w.seen a r.0 r.1)

  -- ---- domains

  doms-declared : (xs : List Text) (x : Text) (d : Dom) (sh : Shows) → Seen xs sh → is_scalar_dom (mark_among xs (given_mark Ps)) d ≡ true →
      (with_declared Ps x d sh).doms ≡ (x, dom_with_cells Ps d) ∷ sh.doms
  doms-declared xs x d sh w h =
      doms-behind x (map (view_by (shown_dom sh (told_dom d [] sh.next).0)) (filter (is_plan_for x) Ps))
      (record sh { doms = (x, shown_dom sh (told_dom d [] sh.next).0) ∷ sh.doms; next = (told_dom d [] sh.next).1 })
      ∙ ap (λ c. (x, c) ∷ sh.doms)
      (ap (λ q. shown_dom sh q.0) (told-scalar (mark_among xs (given_mark Ps)) d sh.next h)
      ∙ shown-scalar (mark_among xs (given_mark Ps)) Ps sh (in-bounds xs sh w) d h)

  -- The domain is there and no statement to come declares the name, or one to come declares it with the domain.
  abbrev DomReady : Text → Dom → Names Dom → List Stm → Type 0
  DomReady x d g T = ((look g x ≡ Some (dom_with_cells Ps d)) × (is_among (keys (kept_in T)) x ≡ false)) ⊎ In (x, d) (kept_in T)

  other-name : (y x : Text) (ks : List Text) → is_among (y ∷ ks) x ≡ false → (same_text y x ≡ false) × (is_among ks x ≡ false)
  other-name y x ks h = go (same_text y x) (is_among ks x) h
    where
      go : (a b : Bool) → a || b ≡ false → (a ≡ false) × (b ≡ false)
      go false b h = (refl, h)
      go true b h = absurd (no-yes (sym h))

  dom-step : (y : Text) (c : Dom) (ks : Names Dom) (x : Text) (d : Dom) (g : Names Dom) → all_distinct (keys ((y, c) ∷ ks)) ≡ true →
      ((look g x ≡ Some (dom_with_cells Ps d)) × (is_among (keys ((y, c) ∷ ks)) x ≡ false)) ⊎ In (x, d) ((y, c) ∷ ks) →
      ((look ((y, dom_with_cells Ps c) ∷ g) x ≡ Some (dom_with_cells Ps d)) × (is_among (keys ks) x ≡ false)) ⊎ In (x, d) ks
  dom-step y c ks x d g t (inl r) =
      let z = other-name y x (keys ks) r.1 in inl (ap (λ b. if b then Some (dom_with_cells Ps c) else look g x) z.0 ∙ r.0, z.1)
  dom-step y c ks x d g t (inr (inl e)) =
      let p : y ≡ x = ap (λ w. w.0) (sym e) in
      let q : c ≡ d = ap (λ w. w.1) (sym e) in
      inl (
        ap (λ b. if b then Some (dom_with_cells Ps c) else look g x) (ap (λ z. same_text z x) p ∙ same_text-itself x)
            ∙ ap (λ z. Some (dom_with_cells Ps z)) q,
        ap (is_among (keys ks)) (sym p) ∙ no-true (is_among (keys ks) y) (and-left (not (is_among (keys ks) y)) (all_distinct (keys ks)) t),
      )
    where
      no-true : (b : Bool) → not b ≡ true → b ≡ false
      no-true false h = refl
      no-true true h = absurd (no-yes h)
  dom-step y c ks x d g t (inr (inr i)) = inr i

  rest : (s : Stm) (T : List Stm) → list_all flat (s ∷ T) ≡ true → list_all flat T ≡ true
  rest s T h = and-right (flat s) (list_all flat T) h

  -- What is declared at a statement.
  dom-declared : (xs : List Text) (y : Text) (c : Dom) (T : List Stm) (sh : Shows) (x : Text) (d : Dom) → Seen xs sh →
      is_scalar_dom (mark_among xs (given_mark Ps)) c ≡ true → all_distinct (keys ((y, c) ∷ kept_in T)) ≡ true →
      ((look sh.doms x ≡ Some (dom_with_cells Ps d)) × (is_among (keys ((y, c) ∷ kept_in T)) x ≡ false)) ⊎ In (x, d) ((y, c) ∷ kept_in T) →
      DomReady x d (with_declared Ps y c sh).doms T
  dom-declared xs y c T sh x d w s t r =
      subst (λ g. DomReady x d g T) (sym (doms-declared xs y c sh w s)) (dom-step y c (kept_in T) x d sh.doms t r)

  -- So behind all statements each name has its domain.
  pub shows-doms : (T : List Stm) (xs : List Text) (sh : Shows) (x : Text) (d : Dom) → list_all flat T ≡ true → are_bounded Ps xs T ≡ true →
      Seen xs sh → all_distinct (keys (kept_in T)) ≡ true → DomReady x d sh.doms T →
      look (shows_from Ps T sh).doms x ≡ Some (dom_with_cells Ps d)
  shows-doms [] xs sh x d h b w t (inl r) = r.0
  shows-doms [] xs sh x d h b w t (inr i) = absurd i
  shows-doms (given y c ∷ T) xs sh x d h b w t r =
      let p : Bool = is_scalar_dom (mark_among xs (given_mark Ps)) c in
      let q : Bool = are_bounded Ps (y ∷ xs) T in
      shows-doms T (y ∷ xs) (with_declared Ps y c sh) x d (rest (given y c) T h) (and-right p q b) (seen-more xs y c sh w)
      (and-right (not (is_among (keys (kept_in T)) y)) (all_distinct (keys (kept_in T))) t)
      (dom-declared xs y c T sh x d w (and-left p q b) t r)
  shows-doms (find y c ∷ T) xs sh x d h b w t r =
      let p : Bool = is_scalar_dom (mark_among xs (given_mark Ps)) c in
      let q : Bool = are_bounded Ps xs T in
      shows-doms T xs (with_declared Ps y c sh) x d (rest (find y c) T h) (and-right p q b) (seen-still xs y c sh w)
      (and-right (not (is_among (keys (kept_in T)) y)) (all_distinct (keys (kept_in T))) t)
      (dom-declared xs y c T sh x d w (and-left p q b) t r)
  shows-doms (needs e ∷ T) xs sh x d h b w t r = shows-doms T xs sh x d (rest (needs e) T h) b w t r
  shows-doms (let_ex y e ∷ T) xs sh x d h b w t r = shows-doms T xs sh x d (rest (let_ex y e) T h) b w t r
  shows-doms (let_dom y c ∷ T) xs sh x d h b w t r = shows-doms T xs sh x d (rest (let_dom y c) T h) b w t r
  shows-doms (minimise e ∷ T) xs sh x d h b w t r = shows-doms T xs sh x d (rest (minimise e) T h) b w t r
  shows-doms (maximise e ∷ T) xs sh x d h b w t r = shows-doms T xs sh x d (rest (maximise e) T h) b w t r
  shows-doms (such_that e ∷ T) xs sh x d h b w t r = shows-doms T xs sh x d (rest (such_that e) T h) b w t r
  shows-doms (s ∷ T) xs sh x d h b w t r = absurd (no-yes h)
