-- What stands over tables in the place of names of the class: the cell of each, also in bounds.
use Rattle.std.proofs.Common.{◌≡◌, refl, sym, ap, ◌∙◌, subst, ℕ, Bool, true, false, if◌then◌else◌, List, [], ◌∷◌, ◌⊎◌, inl, inr, map, filter, Option, Some, None, option_map}
use Rattle.std.specs.List.{list_all}
use Rattle.ess_semantics.specs.declared.words.Op1.{Op1}
use Rattle.ess_semantics.specs.declared.words.Op2.{Op2}
use Rattle.ess_semantics.specs.Lists.{append_all}
use Rattle.ess_semantics.specs.Values.{Text}
use Rattle.ess_semantics.specs.Order.{same_text}
use Rattle.ess_semantics.specs.Names.{Names, look, keys}
use Rattle.ess_semantics.specs.Trees.{Ex, Exs, no_exs, more_exs, ex1, ex2, Dom, bool_dom, int_dom, Stm, given, let_ex, let_dom, needs, find, such_that, minimise, maximise}
use Rattle.ess_semantics.specs.Contexts.{Each}
use Rattle.ess_semantics.specs.Meaning.{is_bool_dom}
use Rattle.ess_semantics.specs.Plans.{Options, Side, Plan, value_plan, is_plan_for, domain_of_stm}
use Rattle.ess_semantics.specs.Models.{scalar_cell, cell_for, with_cells, all_with_cells}
use Rattle.ess_semantics.proofs.Tests.{and-right}
use Rattle.ess_rules_laws.proofs.Agreement.{same_text-equal, same_text-itself}
use Rattle.conjure_laws.specs.Members.{In}
use Rattle.conjure_model_laws.specs.ToldApart.{told_dom, told_all}
use Rattle.conjure_model_laws.specs.Shown.{Shows, in_place, shown, shown_dom, shown_all, view_by, with_views, with_declared, shows_from}
use Rattle.ess_flat_models_laws.specs.FlatSpecifications.{is_scalar_dom, scalar_mark, is_flat_statement}
use Rattle.ess_flat_models_laws.specs.FlatModels.{dom_with_cells}
use Rattle.ess_flat_laws.specs.Flat.{none_marked}
use Rattle.ess_flat_models_laws.proofs.Reckoned.{Reckoned, digits, of_name, of_cell, minus, bar, plus, less, times, AllReckoned, reckoned-flat, bounds-reckoned}
use Rattle.ess_flat_models_laws.proofs.ScalarDomains.{Atom, is_shape}
use Rattle.ess_flat_models_laws.proofs.FlatPlans.{AtomPlan}
use Rattle.ess_flat_models_laws.proofs.FlatNames.{no-yes, scalar-step}
use Rattle.ess_flat_trees_laws.proofs.FlatTrees.{told-flat}

-- ---- domains

module _ (g : Text → Option Bool) where
  no-cell : None ≡ Some false → ⊥
  no-cell h = cc

  told-bounds : (es : Exs) (k : ℕ) → AllReckoned g es → told_all es [] k ≡ (es, k)
  told-bounds no_exs k w = refl
  told-bounds (more_exs e es) k w =
      ap (λ q. let u : Exs × ℕ = told_all es [] q.1 in (more_exs q.0 u.0, u.1))
      (told-flat g (reckoned-flat g none_marked w.0) k)
      ∙ ap (λ u. (more_exs e u.0, u.1)) (told-bounds es k w.1)

  -- Nothing is bound in the domain of a scalar.
  pub told-scalar : (d : Dom) (k : ℕ) → is_scalar_dom g d ≡ true → told_dom d [] k ≡ (d, k)
  told-scalar bool_dom k h = refl
  told-scalar (int_dom rs es) k h = ap (λ q. (int_dom rs q.0, q.1)) (told-bounds es k (bounds-reckoned g rs es h))
  told-scalar d k h = absurd (no-yes h)

  -- Where cells are shown for names that are numbers, bounds get them.
  module _ (Ps : List Plan) (sh : Shows) (v : (a : Text) → g a ≡ Some false → in_place sh.first a ≡ cell_for a (scalar_cell Ps a)) where
    shown-reckoned : {e : Ex} → Reckoned g none_marked e → shown sh e ≡ with_cells Ps e
    shown-reckoned digits = refl
    shown-reckoned (of_name {a = a} h) = v a h
    shown-reckoned (of_cell h) = absurd (no-cell h)
    shown-reckoned (minus w) = ap (ex1 false Op1.Minus) (shown-reckoned w)
    shown-reckoned (bar w) = ap (ex1 false Op1.Bar) (shown-reckoned w)
    shown-reckoned (plus {x = x} {y = y} w u) =
        ap (λ z. ex2 false Op2.Plus z (shown sh y)) (shown-reckoned w) ∙ ap (ex2 false Op2.Plus (with_cells Ps x)) (shown-reckoned u)
    shown-reckoned (less {x = x} {y = y} w u) =
        ap (λ z. ex2 false Op2.Minus z (shown sh y)) (shown-reckoned w) ∙ ap (ex2 false Op2.Minus (with_cells Ps x)) (shown-reckoned u)
    shown-reckoned (times {x = x} {y = y} w u) =
        ap (λ z. ex2 false Op2.Times z (shown sh y)) (shown-reckoned w) ∙ ap (ex2 false Op2.Times (with_cells Ps x)) (shown-reckoned u)

    shown-bounds : (es : Exs) → AllReckoned g es → shown_all sh es ≡ all_with_cells Ps es
    shown-bounds no_exs w = refl
    shown-bounds (more_exs e es) w =
        ap (λ z. more_exs z (shown_all sh es)) (shown-reckoned w.0) ∙ ap (more_exs (with_cells Ps e)) (shown-bounds es w.1)

    -- So does the domain of a scalar.
    pub shown-scalar : (d : Dom) → is_scalar_dom g d ≡ true → shown_dom sh d ≡ dom_with_cells Ps d
    shown-scalar bool_dom h = refl
    shown-scalar (int_dom rs es) h = ap (int_dom rs) (shown-bounds es (bounds-reckoned g rs es h))
    shown-scalar d h = absurd (no-yes h)

-- ---- views

-- The first view of a scalar name is its cell.
pub first-view : (Qs : List Plan) → Each Qs AtomPlan → (a : Text) (m : Bool) → scalar_mark Qs a ≡ Some m → (c : Dom) →
    (vs : List Ex) × (map (view_by c) (filter (is_plan_for a) Qs) ≡ cell_for a (scalar_cell Qs a) ∷ vs)
first-view [] h a m e c = absurd (no e)
  where
    no : {m : Bool} → None ≡ Some m → ⊥
    no q = cc
first-view (P ∷ Qs) h a m e c =
    let w = h.0 in
    subst (λ P. scalar_mark (P ∷ Qs) a ≡ Some m →
    (vs : List Ex) × (map (view_by c) (filter (is_plan_for a) (P ∷ Qs)) ≡ cell_for a (scalar_cell (P ∷ Qs) a) ∷ vs)) (sym w.is)
    (at w.f w.x w.d w.n w.scalar (first-view Qs h.1 a m)) e
  where
    at : (f : Side) (x : Text) (d : Dom) (n : Text) → is_shape d ≡ true →
        (scalar_mark Qs a ≡ Some m → (c : Dom) →
        (vs : List Ex) × (map (view_by c) (filter (is_plan_for a) Qs) ≡ cell_for a (scalar_cell Qs a) ∷ vs)) →
        scalar_mark (value_plan f x Atom d ((n, 0) ∷ []) ∷ Qs) a ≡ Some m →
        (vs : List Ex) × (map (view_by c) (filter (is_plan_for a) (value_plan f x Atom d ((n, 0) ∷ []) ∷ Qs))
        ≡ cell_for a (scalar_cell (value_plan f x Atom d ((n, 0) ∷ []) ∷ Qs) a) ∷ vs)
    at f x d n s ih e = go (same_text x a) refl
      where
        P' : Plan
        P' = value_plan f x Atom d ((n, 0) ∷ [])

        step : scalar_cell (value_plan f x Atom d ((n, 0) ∷ []) ∷ Qs) a ≡
            (if same_text x a then Some (is_bool_dom d, n) else scalar_cell Qs a)
        step = scalar-step f x d n Qs a s

        go : (t : Bool) → same_text x a ≡ t →
            (vs : List Ex) × (map (view_by c) (filter (is_plan_for a) (value_plan f x Atom d ((n, 0) ∷ []) ∷ Qs))
            ≡ cell_for a (scalar_cell (value_plan f x Atom d ((n, 0) ∷ []) ∷ Qs) a) ∷ vs)
        go true q = (
          map (view_by c) (filter (is_plan_for a) Qs),
          ap (λ t. map (view_by c) (if t then value_plan f x Atom d ((n, 0) ∷ []) ∷ filter (is_plan_for a) Qs else filter
              (is_plan_for a) Qs)) q
              ∙ ap (λ o. cell_for a o ∷ map (view_by c) (filter (is_plan_for a) Qs))
              (sym (step ∙ ap (λ t. if t then Some (is_bool_dom d, n) else scalar_cell Qs a) q)),
        )
        go false q =
            let z = step ∙ ap (λ t. if t then Some (is_bool_dom d, n) else scalar_cell Qs a) q in
            let r = ih (ap (option_map (λ w. w.0)) (sym z) ∙ e) c in (
              r.0,
              ap (λ t. map (view_by c) (if t then value_plan f x Atom d ((n, 0) ∷ []) ∷ filter (is_plan_for a) Qs else filter
                  (is_plan_for a) Qs)) q
                  ∙ r.1 ∙ ap (λ o. cell_for a o ∷ r.0) (sym z),
            )

first-behind : (x : Text) (vs : List Ex) (sh : Shows) (a : Text) → same_text x a ≡ false → look
    (with_views x vs sh).first a ≡ look sh.first a
first-behind x [] sh a q = refl
first-behind x (v ∷ vs) sh a q = ap (λ t. if t then Some v else look sh.first a) q

first-here : (x : Text) (v : Ex) (vs ws : List Ex) (sh : Shows) (a : Text) → same_text x a ≡ true → ws ≡ v ∷ vs →
    look (with_views x ws sh).first a ≡ Some v
first-here x v vs ws sh a q e =
    ap (λ l. look (with_views x l sh).first a) e ∙ ap (λ t. if t then Some v else look sh.first a) q

-- Views leave domains.
pub doms-behind : (x : Text) (vs : List Ex) (sh : Shows) → (with_views x vs sh).doms ≡ sh.doms
doms-behind x [] sh = refl
doms-behind x (v ∷ vs) sh = refl

-- The givens and finds of statements with their domains.
abbrev pub kept_in : List Stm → Names Dom
kept_in T = append_all (map domain_of_stm T)

module _ (Ps : List Plan) (o : Options) where
  abbrev flat : Stm → Bool
  flat = is_flat_statement Ps o

  module _ (a : Text) (w : Ex) (views : (c : Dom) → (vs : List Ex) × (map (view_by c) (filter (is_plan_for a) Ps) ≡ w ∷ vs)) where
    -- The name's view is there, or a statement to come declares the name.
    abbrev Ready : Shows → List Stm → Type 0
    Ready sh T = (look sh.first a ≡ Some w) ⊎ In a (keys (kept_in T))

    -- A declaration leaves it there.
    pub one-declared : (x : Text) (d : Dom) (ks : List Text) (sh : Shows) → (look sh.first a ≡ Some w) ⊎ In a (x ∷ ks) →
        (look (with_declared Ps x d sh).first a ≡ Some w) ⊎ In a ks
    one-declared x d ks sh r = go (same_text x a) refl r
      where
        c : Dom
        c = shown_dom sh (told_dom d [] sh.next).0

        sh' : Shows
        sh' = record sh { doms = (x, shown_dom sh (told_dom d [] sh.next).0) ∷ sh.doms; next = (told_dom d [] sh.next).1 }

        go : (t : Bool) → same_text x a ≡ t → (look sh.first a ≡ Some w) ⊎ In a (x ∷ ks) →
            (look (with_declared Ps x d sh).first a ≡ Some w) ⊎ In a ks
        go true q r =
            let v = views (shown_dom sh (told_dom d [] sh.next).0) in
            inl (first-here x w v.0 (map (view_by (shown_dom sh (told_dom d [] sh.next).0)) (filter (is_plan_for x) Ps))
            (record sh { doms = (x, shown_dom sh (told_dom d [] sh.next).0) ∷ sh.doms; next = (told_dom d [] sh.next).1 }) a q
            (ap (λ z. map (view_by (shown_dom sh (told_dom d [] sh.next).0)) (filter (is_plan_for z) Ps)) (same_text-equal x a q) ∙ v.1))
        go false q (inl e) =
            inl (first-behind x (map (view_by (shown_dom sh (told_dom d [] sh.next).0)) (filter (is_plan_for x) Ps))
            (record sh { doms = (x, shown_dom sh (told_dom d [] sh.next).0) ∷ sh.doms; next = (told_dom d [] sh.next).1 }) a q ∙ e)
        go false q (inr (inl e)) = let z : false ≡ true = sym q ∙ ap (λ y. same_text y a) (sym e) ∙ same_text-itself a in absurd (no-yes z)
        go false q (inr (inr i)) = inr i

    -- So behind all statements the first view is there.
    pub shows-first : (T : List Stm) (sh : Shows) → list_all flat T ≡ true → Ready sh T → look (shows_from Ps T sh).first a ≡ Some w
    shows-first [] sh h (inl e) = e
    shows-first [] sh h (inr i) = absurd i
    shows-first (given x d ∷ T) sh h r = shows-first T (with_declared Ps x d sh)
        (and-right (flat (given x d)) (list_all flat T) h) (one-declared x d (keys (kept_in T)) sh r)
    shows-first (find x d ∷ T) sh h r = shows-first T (with_declared Ps x d sh)
        (and-right (flat (find x d)) (list_all flat T) h) (one-declared x d (keys (kept_in T)) sh r)
    shows-first (needs e ∷ T) sh h r = shows-first T sh (and-right (flat (needs e)) (list_all flat T) h) r
    shows-first (let_ex y e ∷ T) sh h r = shows-first T sh (and-right (flat (let_ex y e)) (list_all flat T) h) r
    shows-first (let_dom y d ∷ T) sh h r = shows-first T sh (and-right (flat (let_dom y d)) (list_all flat T) h) r
    shows-first (minimise e ∷ T) sh h r = shows-first T sh (and-right (flat (minimise e)) (list_all flat T) h) r
    shows-first (maximise e ∷ T) sh h r = shows-first T sh (and-right (flat (maximise e)) (list_all flat T) h) r
    shows-first (such_that e ∷ T) sh h r = shows-first T sh (and-right (flat (such_that e)) (list_all flat T) h) r
    shows-first (s ∷ T) sh h r = absurd (no-yes h)
