-- Bare trees are refined, so that any tables meet them, and their free names are bound around them.
use Rattle.std.proofs.Common.{◌≡◌, refl, ap, ◌∙◌, ℕ, Bool, true, false, ◌&&◌, ◌||◌, if◌then◌else◌, ◌∷◌, Option, Some}
use Rattle.std.specs.Prelude.{is_some}
use Rattle.ess_semantics.specs.Values.{Text}
use Rattle.ess_semantics.specs.Order.{same_text}
use Rattle.ess_semantics.specs.Names.{Names, look}
use Rattle.ess_semantics.specs.Kinds.{is_bounded}
use Rattle.ess_semantics.specs.Trees.{name_pat, Ex, Exs, Gens, Dom}
use Rattle.ess_semantics.specs.Refined.{is_refined, are_refined, is_refined_list, are_refined_gens}
use Rattle.ess_semantics.specs.Meaning.{Env}
use Rattle.ess_semantics.specs.Meets.{Meets}
use Rattle.ess_semantics.specs.Scoped.{with_names}
use Rattle.ess_semantics.specs.FreeNames.{with_bound_names, FreeNamesAre, FreeNamesAreExs, FreeNamesAreGens, FreeNamesAreDom}
use Rattle.ess_semantics.proofs.Tests.{or-yes, and-both}
use Rattle.ess_refine_laws.proofs.RefinedTrees.{refined-met}
use Rattle.ess_flat_laws.specs.Flat.{denied, negative, absolute, both, either, implied, agreeing, equal, unequal, below, at_most, above, at_least, sum, difference, product}
use Rattle.ess_bare_laws.specs.Bare.{before, not_behind, all_hold, some_holds, Bare, number, truth, named, cell, one, two, power, chosen, folded, added, ordered, Row, row, Ranging, at_end, through, where_holds, Axes, no_axis, along, Range, truths, numbers, Indices, no_index, one_index, Bounds, no_bound, one_bound}

-- One operand, and two, as a refined node asks.
one-so : (a b : Bool) → a ≡ true → (a && true) || b ≡ true
one-so a b p = ap (λ z. (z && true) || b) p

two-so : (a c b : Bool) → a ≡ true → c ≡ true → (a && (c && true)) || b ≡ true
two-so a c b p q = ap (λ z. (z && (c && true)) || b) p ∙ ap (λ z. (z && true) || b) q

list-so : (a : Bool) → a ≡ true → a && true ≡ true
list-so a p = ap (λ z. z && true) p

lists-so : (a c : Bool) → a ≡ true → c ≡ true → a && (c && true) ≡ true
lists-so a c p q = ap (λ z. z && (c && true)) p ∙ ap (λ z. z && true) q

module _ (cells : Text → Option (Bool × ℕ)) where
  mutual
    -- A bare tree is refined.
    pub bare-refined : {r : Names Bool} {e : Ex} {m : Bool} → Bare cells r e m → is_refined e ≡ true
    bare-refined number = refl
    bare-refined truth = refl
    bare-refined (named h) = refl
    bare-refined (cell h i) = indices-refined i
    bare-refined (one {x = x} denied f) = one-so (is_refined x) _ (bare-refined f)
    bare-refined (one {x = x} negative f) = one-so (is_refined x) _ (bare-refined f)
    bare-refined (one {x = x} absolute f) = one-so (is_refined x) _ (bare-refined f)
    bare-refined (two {x = x} {y = y} both f h) = two-so (is_refined x) (is_refined y) _ (bare-refined f) (bare-refined h)
    bare-refined (two {x = x} {y = y} either f h) = two-so (is_refined x) (is_refined y) _ (bare-refined f) (bare-refined h)
    bare-refined (two {x = x} {y = y} implied f h) = two-so (is_refined x) (is_refined y) _ (bare-refined f) (bare-refined h)
    bare-refined (two {x = x} {y = y} agreeing f h) = two-so (is_refined x) (is_refined y) _ (bare-refined f) (bare-refined h)
    bare-refined (two {x = x} {y = y} equal f h) = two-so (is_refined x) (is_refined y) _ (bare-refined f) (bare-refined h)
    bare-refined (two {x = x} {y = y} unequal f h) = two-so (is_refined x) (is_refined y) _ (bare-refined f) (bare-refined h)
    bare-refined (two {x = x} {y = y} below f h) = two-so (is_refined x) (is_refined y) _ (bare-refined f) (bare-refined h)
    bare-refined (two {x = x} {y = y} at_most f h) = two-so (is_refined x) (is_refined y) _ (bare-refined f) (bare-refined h)
    bare-refined (two {x = x} {y = y} above f h) = two-so (is_refined x) (is_refined y) _ (bare-refined f) (bare-refined h)
    bare-refined (two {x = x} {y = y} at_least f h) = two-so (is_refined x) (is_refined y) _ (bare-refined f) (bare-refined h)
    bare-refined (two {x = x} {y = y} sum f h) = two-so (is_refined x) (is_refined y) _ (bare-refined f) (bare-refined h)
    bare-refined (two {x = x} {y = y} difference f h) = two-so (is_refined x) (is_refined y) _ (bare-refined f) (bare-refined h)
    bare-refined (two {x = x} {y = y} product f h) = two-so (is_refined x) (is_refined y) _ (bare-refined f) (bare-refined h)
    bare-refined (power {x = x} {y = y} f h) = two-so (is_refined x) (is_refined y) _ (bare-refined f) (bare-refined h)
    bare-refined (chosen {x = x} f) = one-so (is_refined x) _ (bare-refined f)
    bare-refined (folded {e = e} {gs = gs} all_hold g f) =
        list-so (is_refined e && are_refined_gens gs) (and-both (is_refined e) (are_refined_gens gs) (bare-refined f) (gens-refined g))
    bare-refined (folded {e = e} {gs = gs} some_holds g f) =
        list-so (is_refined e && are_refined_gens gs) (and-both (is_refined e) (are_refined_gens gs) (bare-refined f) (gens-refined g))
    bare-refined (added {e = e} {gs = gs} g f) =
        list-so (is_refined e && are_refined_gens gs) (and-both (is_refined e) (are_refined_gens gs) (bare-refined f) (axes-refined g))
    bare-refined (ordered {x = x} {y = y} before f h) =
        lists-so (is_refined_list x) (is_refined_list y) (row-refined f) (row-refined h)
    bare-refined (ordered {x = x} {y = y} not_behind f h) =
        lists-so (is_refined_list x) (is_refined_list y) (row-refined f) (row-refined h)

    row-refined : {r : Names Bool} {e : Ex} {m : Bool} → Row cells r e m → is_refined_list e ≡ true
    row-refined (row {e = e} {gs = gs} g f) = and-both (is_refined e) (are_refined_gens gs) (bare-refined f) (axes-refined g)

    indices-refined : {r : Names Bool} {es : Exs} {k : ℕ} → Indices cells r es k → are_refined es ≡ true
    indices-refined no_index = refl
    indices-refined (one_index {e = e} {es = es} f i) = and-both (is_refined e) (are_refined es) (bare-refined f) (indices-refined i)

    bounds-refined : {r : Names Bool} {es : Exs} → Bounds cells r es → are_refined es ≡ true
    bounds-refined no_bound = refl
    bounds-refined (one_bound {e = e} {es = es} f i) = and-both (is_refined e) (are_refined es) (bare-refined f) (bounds-refined i)

    gens-refined : {r t : Names Bool} {gs : Gens} → Ranging cells r gs t → are_refined_gens gs ≡ true
    gens-refined at_end = refl
    gens-refined (through truths g) = gens-refined g
    gens-refined (through {gs = gs} (numbers {rs = rs} {es = es} b bs) g) =
        and-both (is_bounded rs && are_refined es) (are_refined_gens gs)
        (and-both (is_bounded rs) (are_refined es) b (bounds-refined bs)) (gens-refined g)
    gens-refined (where_holds {c = c} {gs = gs} f g) =
        and-both (is_refined c) (are_refined_gens gs) (bare-refined f) (gens-refined g)

    axes-refined : {r t : Names Bool} {gs : Gens} → Axes cells r gs t → are_refined_gens gs ≡ true
    axes-refined no_axis = refl
    axes-refined (along truths g) = axes-refined g
    axes-refined (along {gs = gs} (numbers {rs = rs} {es = es} b bs) g) =
        and-both (is_bounded rs && are_refined es) (are_refined_gens gs)
        (and-both (is_bounded rs) (are_refined es) b (bounds-refined bs)) (axes-refined g)

  -- So any tables meet it.
  pub bare-met : (r : Names Bool) (e : Ex) (m : Bool) → Bare cells r e m → (env : Env) → Meets e env
  bare-met r e m f env = refined-met e (bare-refined f) env

  -- ---- free names

  -- The names with a mark have the property.
  abbrev pub Covers : (Text → Bool) → Names Bool → Type 0
  Covers u r = (a : Text) (m : Bool) → look r a ≡ Some m → u a ≡ true

  one-more : (u : Text → Bool) (r : Names Bool) (a : Text) (m : Bool) → Covers u r → Covers (with_names u (name_pat a)) ((a, m) ∷ r)
  one-more u r a m c x k h = go (same_text a x) h
    where
      go : (b : Bool) → (if b then Some m else look r x) ≡ Some k → u x || b ≡ true
      go true q = or-yes (u x)
      go false q = ap (λ z. z || false) (c x k q)

  mutual
    names-free : {r : Names Bool} {e : Ex} {m : Bool} (u : Text → Bool) → Covers u r → Bare cells r e m → FreeNamesAre u e
    names-free u c number = tt
    names-free u c truth = tt
    names-free u c (named {a = a} {m = m} h) = c a m h
    names-free u c (cell h i) = indices-free u c i
    names-free u c (one w f) = (names-free u c f, tt)
    names-free u c (two w f h) = (names-free u c f, (names-free u c h, tt))
    names-free u c (power f h) = (names-free u c f, (names-free u c h, tt))
    names-free u c (chosen f) = (names-free u c f, tt)
    names-free u c (folded w g f) = let k = gens-free u c g in ((k.0, names-free _ k.1 f), tt)
    names-free u c (added g f) = let k = axes-free u c g in ((k.0, names-free _ k.1 f), tt)
    names-free u c (ordered w f h) = (row-free u c f, (row-free u c h, tt))

    row-free : {r : Names Bool} {e : Ex} {m : Bool} (u : Text → Bool) → Covers u r → Row cells r e m → FreeNamesAre u e
    row-free u c (row g f) = let k = axes-free u c g in (k.0, names-free _ k.1 f)

    indices-free : {r : Names Bool} {es : Exs} {k : ℕ} (u : Text → Bool) → Covers u r → Indices cells r es k → FreeNamesAreExs u es
    indices-free u c no_index = tt
    indices-free u c (one_index f i) = (names-free u c f, indices-free u c i)

    bounds-free : {r : Names Bool} {es : Exs} (u : Text → Bool) → Covers u r → Bounds cells r es → FreeNamesAreExs u es
    bounds-free u c no_bound = tt
    bounds-free u c (one_bound f i) = (names-free u c f, bounds-free u c i)

    range-free : {r : Names Bool} {d : Dom} {m : Bool} (u : Text → Bool) → Covers u r → Range cells r d m → FreeNamesAreDom u d
    range-free u c truths = tt
    range-free u c (numbers b bs) = bounds-free u c bs

    gens-free : {r t : Names Bool} {gs : Gens} (u : Text → Bool) → Covers u r → Ranging cells r gs t →
        FreeNamesAreGens u gs × Covers (with_bound_names u gs) t
    gens-free u c at_end = (tt, c)
    gens-free {r} u c (through {m = m} {a = a} n g) =
        let k = gens-free (with_names u (name_pat a)) (one-more u r a m c) g in ((range-free u c n, k.0), k.1)
    gens-free u c (where_holds f g) = let k = gens-free u c g in ((names-free u c f, k.0), k.1)

    axes-free : {r t : Names Bool} {gs : Gens} (u : Text → Bool) → Covers u r → Axes cells r gs t →
        FreeNamesAreGens u gs × Covers (with_bound_names u gs) t
    axes-free u c no_axis = (tt, c)
    axes-free {r} u c (along {m = m} {a = a} n g) =
        let k = axes-free (with_names u (name_pat a)) (one-more u r a m c) g in ((range-free u c n, k.0), k.1)

  -- The free names of a bare tree are bound around it.
  pub bare-closed : (r : Names Bool) (e : Ex) (m : Bool) → Bare cells r e m → FreeNamesAre (λ a. is_some (look r a)) e
  bare-closed r e m f = names-free (λ a. is_some (look r a)) (λ a k q. ap is_some q) f
