-- What conditions are built of keeps what is given at its place, and comprehensions in order.
use Rattle.std.proofs.Common.{◌≡◌, refl, sym, subst, Bool, true, false, ◌&&◌, List, [], ◌∷◌, pos}
use Rattle.ess_semantics.specs.declared.words.Fun.{Fun}
use Rattle.ess_semantics.specs.Values.{Text}
use Rattle.ess_semantics.specs.Trees.{word, Pat, matrix_literal, name_pat, Ex, Exs, number_ex, truth_ex, name_ex, node_ex, comp_ex, no_exs, more_exs, Gens, no_gens, over, from, Dom, fun1}
use Rattle.ess_semantics.specs.ExpressionJudgements.{forgets_order}
use Rattle.ess_semantics.proofs.Tests.{and-left, and-right, and-both}
use Rattle.ess_guard_laws.specs.Conditions.{conds, all_of, every}
use Rattle.ess_given_laws.specs.Given.{is_fixed_dom}
use Rattle.ess_given_conditions_laws.specs.InScope.{bound_as, is_fixed_in, fixed_behind, is_dom_fixed_in, is_given_in, are_given_in, are_gens_given_in}
use Rattle.ess_given_conditions_laws.proofs.ScopedGiven.{Within, within-bound}
use Rattle.ess_given_order_laws.specs.OrderInScope.{is_in_order_in, is_ordered_in, are_ordered_in, are_gens_ordered_in}
use Rattle.ess_given_guard_laws.proofs.FixedInScope.{given-from, place-from, order-from}
use Rattle.ess_given_guard_laws.proofs.OwnConditions.{EachHas, ListHas, Builds, all-has}
use Rattle.ess_given_guard_laws.proofs.BuildsFixed.{F, DF, into-dom}

module _ (u : Text → Bool) where
  -- In a place where order is forgotten: what is given is given, and comprehensions are in order.
  abbrev pub R : (Text → Bool) → Ex → Type 0
  R s e = (is_given_in u s e ≡ true) × (is_ordered_in u s e ≡ true)

  -- In a place where order counts.
  abbrev pub K : (Text → Bool) → Ex → Type 0
  K s e = R s e × (is_in_order_in u s e ≡ true)

  -- What is fixed at its place is so.
  pub of-fixed : (s : Text → Bool) (e : Ex) → F u s e → K s e
  of-fixed s e h = ((given-from u e s h, order-from u e s h), place-from u e s h)

  -- The same of a list.
  pub list-fixed : (s : Text → Bool) (cs : List Ex) → ListHas (F u s) cs → ListHas (K s) cs
  list-fixed s [] h = tt
  list-fixed s (c ∷ cs) h = (of-fixed s c h.0, list-fixed s cs h.1)

  -- ---- operands

  each-given : (es : Exs) (s : Text → Bool) → EachHas (K s) es → are_given_in u s es ≡ true
  each-given no_exs s h = refl
  each-given (more_exs e es) s h = and-both (is_given_in u s e) (are_given_in u s es) h.0.0.0 (each-given es s h.1)

  each-ordered : (es : Exs) (c : Bool) (s : Text → Bool) → EachHas (K s) es → are_ordered_in u s es c ≡ true
  each-ordered no_exs c s h = refl
  each-ordered (more_exs e es) true s h = and-both (is_ordered_in u s e) (are_ordered_in u s es true) h.0.0.1 (each-ordered es true s h.1)
  each-ordered (more_exs e es) false s h = and-both (is_in_order_in u s e && is_ordered_in u s e) (are_ordered_in u s es false)
      (and-both (is_in_order_in u s e) (is_ordered_in u s e) h.0.1 h.0.0.1) (each-ordered es false s h.1)

  place-of : (e : Ex) (es : Exs) (s : Text → Bool) → are_given_in u s (more_exs e es) ≡ true →
      are_ordered_in u s (more_exs e es) false ≡ true → K s e
  place-of e es s h k = let b = is_in_order_in u s e && is_ordered_in u s e in
      let r = and-left b (are_ordered_in u s es false) k in (
        (and-left (is_given_in u s e) (are_given_in u s es) h, and-right (is_in_order_in u s e) (is_ordered_in u s e) r),
        and-left (is_in_order_in u s e) (is_ordered_in u s e) r,
      )

  -- Each of operands in places where order counts, or is forgotten.
  pub given-each : (es : Exs) (s : Text → Bool) → are_given_in u s es ≡ true → are_ordered_in u s es false ≡ true → EachHas (K s) es
  given-each no_exs s h k = tt
  given-each (more_exs e es) s h k = (
    place-of e es s h k,
    given-each es s (and-right (is_given_in u s e) (are_given_in u s es) h)
        (and-right (is_in_order_in u s e && is_ordered_in u s e) (are_ordered_in u s es false) k),
  )

  -- The same where order is forgotten.
  pub loose-each : (es : Exs) (s : Text → Bool) → are_given_in u s es ≡ true → are_ordered_in u s es true ≡ true → EachHas (R s) es
  loose-each no_exs s h k = tt
  loose-each (more_exs e es) s h k = (
    (and-left (is_given_in u s e) (are_given_in u s es) h, and-left (is_ordered_in u s e) (are_ordered_in u s es true) k),
    loose-each es s (and-right (is_given_in u s e) (are_given_in u s es) h)
        (and-right (is_ordered_in u s e) (are_ordered_in u s es true) k),
  )

  -- ---- what operators keep

  on-word : (s : Text → Bool) (b : Bool) (g : Fun) (e : Ex) → forgets_order (word g) ≡ true → R s e → K s (fun1 b g e)
  on-word s b g e q h = (
    (
      and-both (is_given_in u s e) true h.0 refl,
      subst (λ c. are_ordered_in u s (more_exs e no_exs) c ≡ true) (sym q) (and-both (is_ordered_in u s e) true h.1 refl),
    ),
    refl,
  )

  constant : (s : Text → Bool) (e c : Ex) (gs : Gens) → ((r : Text → Bool) → K r c) → R s (comp_ex e gs) → R s (comp_ex c gs)
  constant s e c gs k h = let i = fixed_behind u s gs in let j = k i in (
    and-both (are_gens_given_in u s gs) (is_given_in u i c) (and-left (are_gens_given_in u s gs) (is_given_in u i e) h.0) j.0.0,
    and-both (are_gens_ordered_in u s gs) (is_in_order_in u i c && is_ordered_in u i c)
        (and-left (are_gens_ordered_in u s gs) (is_in_order_in u i e && is_ordered_in u i e) h.1)
        (and-both (is_in_order_in u i c) (is_ordered_in u i c) j.1 j.0.1),
  )

  over-one : (s : Text → Bool) (x : Text) (d : Dom) (e : Ex) → DF u s d → ((r : Text → Bool) → K r e) →
      R s (comp_ex e (over (name_pat x) d no_gens))
  over-one s x d e h k = let i = bound_as true (name_pat x) s in let j = k i in (
    and-both (is_dom_fixed_in u s d && true) (is_given_in u i e) (and-both (is_dom_fixed_in u s d) true h refl) j.0.0,
    and-both (is_in_order_in u i e) (is_ordered_in u i e) j.1 j.0.1,
  )

  conds-under : (cs : List Ex) (s : Text → Bool) (b : Ex) → ListHas (K s) cs → K s b → R s (comp_ex b (conds cs))
  conds-under [] s b h k = (k.0.0, and-both (is_in_order_in u s b) (is_ordered_in u s b) k.1 k.0.1)
  conds-under (c ∷ cs) s b h k = let r = conds-under cs s b h.1 k in let i = fixed_behind u s (conds cs) in
      let p = is_in_order_in u s c && is_ordered_in u s c in let q = is_in_order_in u i b && is_ordered_in u i b in (
        and-both (is_given_in u s c && are_gens_given_in u s (conds cs)) (is_given_in u i b)
            (and-both (is_given_in u s c) (are_gens_given_in u s (conds cs)) h.0.0.0
            (and-left (are_gens_given_in u s (conds cs)) (is_given_in u i b) r.0))
            (and-right (are_gens_given_in u s (conds cs)) (is_given_in u i b) r.0),
        and-both (p && are_gens_ordered_in u s (conds cs)) q
            (and-both p (are_gens_ordered_in u s (conds cs)) (and-both (is_in_order_in u s c) (is_ordered_in u s c) h.0.1 h.0.0.1)
            (and-left (are_gens_ordered_in u s (conds cs)) q r.1))
            (and-right (are_gens_ordered_in u s (conds cs)) q r.1),
      )

  two-sources : (s : Text → Bool) (x y : Text) (ss : Exs) → EachHas (K s) ss →
      R s (comp_ex (name_ex x) (from (name_pat y) (node_ex false matrix_literal ss) (from (name_pat x) (name_ex y) no_gens)))
  two-sources s x y ss h = (
    and-both (are_given_in u s ss && true) true (and-both (are_given_in u s ss) true (each-given ss s h) refl) refl,
    and-both (are_ordered_in u s ss false && true) true (and-both (are_ordered_in u s ss false) true (each-ordered ss false s h) refl) refl,
  )

  -- What operators keep.
  pub builds-given : (s : Text → Bool) → Within u s → Builds u (K s) (R s) (DF u s)
  builds-given s f = record {
    loosen = λ e h. h.0;
    number = λ z. ((refl, refl), refl);
    truth = λ b. ((refl, refl), refl);
    node = λ b op es h. ((each-given es s h, each-ordered es (forgets_order op) s h), refl);
    worded = λ b g e q h. on-word s b g e q h;
    counted = λ x d h. over-one s x d (number_ex (pos 1)) h (λ r. ((refl, refl), refl));
    named = λ x d h. over-one s x d (name_ex x) h (λ r. ((refl, refl), refl));
    truths = λ e gs h. constant s e (truth_ex true) gs (λ r. ((refl, refl), refl)) h;
    numbers = λ e gs h. constant s e (number_ex (pos 1)) gs (λ r. ((refl, refl), refl)) h;
    drawn = λ x e h. (
      and-both (is_given_in u s e && true) true (and-both (is_given_in u s e) true h.0 refl) refl,
      and-both (is_ordered_in u s e && true) true (and-both (is_ordered_in u s e) true h.1 refl) refl,
    );
    disjoint = λ x y ss h. two-sources s x y ss h;
    under = λ b cs h k. conds-under cs s b h k;
    items = λ es h. given-each es s h.0.0 h.0.1;
    axis = λ es d h. and-right (are_given_in u s es) (is_dom_fixed_in u s d) h.0.0;
    seen = λ r d ns js h. and-left (is_fixed_dom u d) (are_given_in u s js) h.0.0;
    indexed = λ qs m is h. place-of m is s h.0.0 h.0.1;
    into = λ d h. into-dom u s f d h;
    ends = λ a b h. let k = and-right (is_fixed_in u s a) (is_fixed_in u s b && true) h in (
      of-fixed s a (and-left (is_fixed_in u s a) (is_fixed_in u s b && true) h),
      of-fixed s b (and-left (is_fixed_in u s b) true k),
    );
  }

  -- Conditions at each binding of a generator.
  pub every-over-given : (p : Pat) (d : Dom) (s : Text → Bool) (cs : List Ex) → Within u s → DF u s d → ListHas (K (bound_as true p s)) cs →
      ListHas (K s) (every (over p d no_gens) cs)
  every-over-given p d s [] f h k = tt
  every-over-given p d s (c ∷ cs) f h k = let i = bound_as true p s in
      let a = all-has u (K i) (R i) (DF u i) (builds-given i (within-bound u p s f)) (c ∷ cs) k in let e = all_of (c ∷ cs) in (
        on-word s true Fun.And (comp_ex e (over p d no_gens)) refl (
          and-both (is_dom_fixed_in u s d && true) (is_given_in u i e) (and-both (is_dom_fixed_in u s d) true h refl) a.0.0,
          and-both (is_in_order_in u i e) (is_ordered_in u i e) a.1 a.0.1,
        ),
        tt,
      )

  -- The same over a source.
  pub every-from-given : (p : Pat) (t : Ex) (s : Text → Bool) (cs : List Ex) → R s t → Within u (bound_as (is_fixed_in u s t) p s) →
      ListHas (K (bound_as (is_fixed_in u s t) p s)) cs → ListHas (K s) (every (from p t no_gens) cs)
  every-from-given p t s [] h f k = tt
  every-from-given p t s (c ∷ cs) h f k = let i = bound_as (is_fixed_in u s t) p s in
      let a = all-has u (K i) (R i) (DF u i) (builds-given i f) (c ∷ cs) k in let e = all_of (c ∷ cs) in (
        on-word s true Fun.And (comp_ex e (from p t no_gens)) refl (
          and-both (is_given_in u s t && true) (is_given_in u i e) (and-both (is_given_in u s t) true h.0 refl) a.0.0,
          and-both (is_ordered_in u s t && true) (is_in_order_in u i e && is_ordered_in u i e)
              (and-both (is_ordered_in u s t) true h.1 refl) (and-both (is_in_order_in u i e) (is_ordered_in u i e) a.1 a.0.1),
        ),
        tt,
      )
