-- An expression whose free names are fixed is fixed at its place.
use Rattle.std.proofs.Common.{◌≡◌, refl, sym, subst, ◌∙◌, Bool, true, false, ◌&&◌, ◌||◌}
use Rattle.ess_semantics.specs.Values.{Text}
use Rattle.ess_semantics.specs.Trees.{Pat, Ex, Exs, number_ex, truth_ex, name_ex, node_ex, matrix_ex, comp_ex, cell_ex, seen_ex, no_exs, more_exs, Gens, no_gens, over, from, cond, Dom, Doms, bool_dom, int_dom, name_dom, tuple_dom, record_dom, matrix_dom, set_dom, mset_dom, function_dom, relation_dom, partition_dom, no_doms, more_doms}
use Rattle.ess_semantics.specs.Scoped.{is_bound, with_names}
use Rattle.ess_semantics.specs.FreeNames.{with_bound_names, FreeNamesAre, FreeNamesAreExs, FreeNamesAreGens, FreeNamesAreDom, FreeNamesAreDoms}
use Rattle.ess_semantics.proofs.Tests.{and-both}
use Rattle.conjure_laws.specs.PlainTrees.{Plain, PlainAll, PlainGens, PlainDom, PlainDoms}
use Rattle.ess_chain_names_laws.specs.NamesHave.{NamesHave, AllNamesHave, GensNamesHave, DomNamesHave, DomsNamesHave}
use Rattle.ess_given_conditions_laws.specs.InScope.{bound_as, is_fixed_in, are_fixed_in, are_gens_fixed_in, fixed_behind, is_dom_fixed_in, are_doms_fixed_in}
use Rattle.ess_given_judged_laws.proofs.BoundFixed.{bound-is}

module _ (t w : Text → Bool) where
  -- Of the names w, s has what u has.
  abbrev pub Reaches : (Text → Bool) → (Text → Bool) → Type 0
  Reaches u s = (a : Text) → u a ≡ true → w a ≡ true → s a ≡ true

  turned : (x b z : Bool) → (x ≡ true → z ≡ true) → x || b ≡ true → b || z ≡ true
  turned true true z f h = refl
  turned true false z f h = f refl
  turned false true z f h = refl
  turned false false z f h = cc

  reaches-bound : (p : Pat) (u s : Text → Bool) → Reaches u s → Reaches (with_names u p) (bound_as true p s)
  reaches-bound p u s f a h k = bound-is p s a ∙ turned (u a) (is_bound p a) (s a) (λ q. f a q k) h

  reaches-drawn : (b : Bool) (p : Pat) (u s : Text → Bool) → b ≡ true → Reaches u s → Reaches (with_names u p) (bound_as b p s)
  reaches-drawn b p u s q f = subst (λ c. Reaches (with_names u p) (bound_as c p s)) (sym q) (reaches-bound p u s f)

  mutual
    pub free-fixed : (e : Ex) (u s : Text → Bool) → Reaches u s → FreeNamesAre u e → NamesHave w e → Plain e → is_fixed_in t s e ≡ true
    free-fixed (number_ex n) u s f h k p = refl
    free-fixed (truth_ex b) u s f h k p = refl
    free-fixed (name_ex a) u s f h k p = f a h k
    free-fixed (node_ex b op es) u s f h k p = all-free-fixed es u s f h k p
    free-fixed (matrix_ex es d) u s f h k p = and-both (are_fixed_in t s es) (is_dom_fixed_in t s d)
        (all-free-fixed es u s f h.0 k.0 p.0) (dom-free-fixed d u s f h.1 k.1 p.1)
    free-fixed (comp_ex e gs) u s f h k p = and-both (are_gens_fixed_in t s gs) (is_fixed_in t (fixed_behind t s gs) e)
        (gens-free-fixed gs u s f h.0 k.1 p.1)
        (free-fixed e (with_bound_names u gs) (fixed_behind t s gs) (reaches-behind gs u s f h.0 k.1 p.1) h.1 k.0 p.0)
    free-fixed (cell_ex b n es) u s f h k p = absurd p
    free-fixed (seen_ex r d ns es) u s f h k p = absurd p

    all-free-fixed : (es : Exs) (u s : Text → Bool) → Reaches u s → FreeNamesAreExs u es → AllNamesHave w es → PlainAll es →
        are_fixed_in t s es ≡ true
    all-free-fixed no_exs u s f h k p = refl
    all-free-fixed (more_exs e es) u s f h k p = and-both (is_fixed_in t s e) (are_fixed_in t s es)
        (free-fixed e u s f h.0 k.0 p.0) (all-free-fixed es u s f h.1 k.1 p.1)

    gens-free-fixed : (gs : Gens) (u s : Text → Bool) → Reaches u s → FreeNamesAreGens u gs → GensNamesHave w gs → PlainGens gs →
        are_gens_fixed_in t s gs ≡ true
    gens-free-fixed no_gens u s f h k p = refl
    gens-free-fixed (over x d gs) u s f h k p = and-both (is_dom_fixed_in t s d) (are_gens_fixed_in t (bound_as true x s) gs)
        (dom-free-fixed d u s f h.0 k.1 p.0)
        (gens-free-fixed gs (with_names u x) (bound_as true x s) (reaches-bound x u s f) h.1 k.2 p.1)
    gens-free-fixed (from x e gs) u s f h k p =
        let q = free-fixed e u s f h.0 k.1 p.0 in
        and-both (is_fixed_in t s e) (are_gens_fixed_in t (bound_as (is_fixed_in t s e) x s) gs) q
        (gens-free-fixed gs (with_names u x) (bound_as (is_fixed_in t s e) x s) (reaches-drawn (is_fixed_in t s e) x u s q f) h.1 k.2 p.1)
    gens-free-fixed (cond e gs) u s f h k p = and-both (is_fixed_in t s e) (are_gens_fixed_in t s gs)
        (free-fixed e u s f h.0 k.0 p.0) (gens-free-fixed gs u s f h.1 k.1 p.1)

    reaches-behind : (gs : Gens) (u s : Text → Bool) → Reaches u s → FreeNamesAreGens u gs → GensNamesHave w gs → PlainGens gs →
        Reaches (with_bound_names u gs) (fixed_behind t s gs)
    reaches-behind no_gens u s f h k p = f
    reaches-behind (over x d gs) u s f h k p = reaches-behind gs (with_names u x) (bound_as true x s) (reaches-bound x u s f) h.1 k.2 p.1
    reaches-behind (from x e gs) u s f h k p = reaches-behind gs (with_names u x) (bound_as (is_fixed_in t s e) x s)
        (reaches-drawn (is_fixed_in t s e) x u s (free-fixed e u s f h.0 k.1 p.0) f) h.1 k.2 p.1
    reaches-behind (cond e gs) u s f h k p = reaches-behind gs u s f h.1 k.1 p.1

    dom-free-fixed : (d : Dom) (u s : Text → Bool) → Reaches u s → FreeNamesAreDom u d → DomNamesHave w d → PlainDom d →
        is_dom_fixed_in t s d ≡ true
    dom-free-fixed bool_dom u s f h k p = refl
    dom-free-fixed (int_dom rs es) u s f h k p = all-free-fixed es u s f h k p
    dom-free-fixed (name_dom a) u s f h k p = refl
    dom-free-fixed (tuple_dom ds) u s f h k p = doms-free-fixed ds u s f h k p
    dom-free-fixed (record_dom fs ds) u s f h k p = doms-free-fixed ds u s f h k p
    dom-free-fixed (matrix_dom is d) u s f h k p = and-both (are_doms_fixed_in t s is) (is_dom_fixed_in t s d)
        (doms-free-fixed is u s f h.0 k.0 p.0) (dom-free-fixed d u s f h.1 k.1 p.1)
    dom-free-fixed (set_dom ms es d) u s f h k p = and-both (are_fixed_in t s es) (is_dom_fixed_in t s d)
        (all-free-fixed es u s f h.0 k.0 p.0) (dom-free-fixed d u s f h.1 k.1 p.1)
    dom-free-fixed (mset_dom ms es d) u s f h k p = and-both (are_fixed_in t s es) (is_dom_fixed_in t s d)
        (all-free-fixed es u s f h.0 k.0 p.0) (dom-free-fixed d u s f h.1 k.1 p.1)
    dom-free-fixed (function_dom ms es d c) u s f h k p = and-both (are_fixed_in t s es) (is_dom_fixed_in t s d && is_dom_fixed_in t s c)
        (all-free-fixed es u s f h.0 k.0 p.0)
        (and-both (is_dom_fixed_in t s d) (is_dom_fixed_in t s c) (dom-free-fixed d u s f h.1 k.1 p.1) (dom-free-fixed c u s f h.2 k.2 p.2))
    dom-free-fixed (relation_dom ms es ds) u s f h k p = and-both (are_fixed_in t s es) (are_doms_fixed_in t s ds)
        (all-free-fixed es u s f h.0 k.0 p.0) (doms-free-fixed ds u s f h.1 k.1 p.1)
    dom-free-fixed (partition_dom ms es d) u s f h k p = and-both (are_fixed_in t s es) (is_dom_fixed_in t s d)
        (all-free-fixed es u s f h.0 k.0 p.0) (dom-free-fixed d u s f h.1 k.1 p.1)

    doms-free-fixed : (ds : Doms) (u s : Text → Bool) → Reaches u s → FreeNamesAreDoms u ds → DomsNamesHave w ds → PlainDoms ds →
        are_doms_fixed_in t s ds ≡ true
    doms-free-fixed no_doms u s f h k p = refl
    doms-free-fixed (more_doms d ds) u s f h k p = and-both (is_dom_fixed_in t s d) (are_doms_fixed_in t s ds)
        (dom-free-fixed d u s f h.0 k.0 p.0) (doms-free-fixed ds u s f h.1 k.1 p.1)
