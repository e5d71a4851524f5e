-- Bound names that are none of some and none of others are none of both.
use Rattle.std.proofs.Common.{◌≡◌, Bool, true, false, ◌||◌, not}
use Rattle.ess_semantics.specs.Values.{Text}
use Rattle.ess_semantics.specs.Trees.{Pat, name_pat, tuple_pat, Pats, no_pats, more_pats, Ex, number_ex, truth_ex, name_ex, node_ex, matrix_ex, comp_ex, cell_ex, seen_ex, Exs, no_exs, more_exs, Gens, no_gens, over, from, cond, Dom, Doms, bool_dom, int_dom, name_dom, tuple_dom, record_dom, matrix_dom, set_dom, mset_dom, function_dom, relation_dom, partition_dom, no_doms, more_doms}
use Rattle.ess_semantics.specs.Substitution.{Binds, BindsAll, NamesAre, NamesAreExs, NamesAreGens, NamesAreDom, NamesAreDoms}

neither-so : (a b : Bool) → not a ≡ true → not b ≡ true → not (a || b) ≡ true
neither-so false b p q = q
neither-so true b p q = cc

module _ (s t : Text → Bool) where
  -- No name of s, none of t, and none of both.
  abbrev S : Text → Bool
  S a = not (s a)

  abbrev T : Text → Bool
  T a = not (t a)

  abbrev B : Text → Bool
  B a = not (s a || t a)

  abbrev U : Text → Bool
  U a = true

  mutual
    pat-both : (p : Pat) → Binds S p → Binds T p → Binds B p
    pat-both (name_pat a) h k = neither-so (s a) (t a) h k
    pat-both (tuple_pat ps) h k = pats-both ps h k

    pats-both : (ps : Pats) → BindsAll S ps → BindsAll T ps → BindsAll B ps
    pats-both no_pats h k = tt
    pats-both (more_pats p ps) h k = (pat-both p h.0 k.0, pats-both ps h.1 k.1)

  mutual
    -- Of a tree.
    pub names-both : (e : Ex) → NamesAre U S e → NamesAre U T e → NamesAre U B e
    names-both (number_ex n) h k = tt
    names-both (truth_ex b) h k = tt
    names-both (name_ex a) h k = h
    names-both (node_ex b op es) h k = all-both es h k
    names-both (matrix_ex es d) h k = (all-both es h.0 k.0, dom-both d h.1 k.1)
    names-both (comp_ex e gs) h k = (names-both e h.0 k.0, gens-both gs h.1 k.1)
    names-both (cell_ex b n es) h k = all-both es h k
    names-both (seen_ex r d ns es) h k = (dom-both d h.0 k.0, all-both es h.1 k.1)

    all-both : (es : Exs) → NamesAreExs U S es → NamesAreExs U T es → NamesAreExs U B es
    all-both no_exs h k = tt
    all-both (more_exs e es) h k = (names-both e h.0 k.0, all-both es h.1 k.1)

    gens-both : (gs : Gens) → NamesAreGens U S gs → NamesAreGens U T gs → NamesAreGens U B gs
    gens-both no_gens h k = tt
    gens-both (over p d gs) h k = (pat-both p h.0 k.0, dom-both d h.1 k.1, gens-both gs h.2 k.2)
    gens-both (from p e gs) h k = (pat-both p h.0 k.0, names-both e h.1 k.1, gens-both gs h.2 k.2)
    gens-both (cond e gs) h k = (names-both e h.0 k.0, gens-both gs h.1 k.1)

    dom-both : (d : Dom) → NamesAreDom U S d → NamesAreDom U T d → NamesAreDom U B d
    dom-both bool_dom h k = tt
    dom-both (int_dom rs es) h k = all-both es h k
    dom-both (name_dom a) h k = tt
    dom-both (tuple_dom ds) h k = doms-both ds h k
    dom-both (record_dom fs ds) h k = doms-both ds h k
    dom-both (matrix_dom is d) h k = (doms-both is h.0 k.0, dom-both d h.1 k.1)
    dom-both (set_dom ms es d) h k = (all-both es h.0 k.0, dom-both d h.1 k.1)
    dom-both (mset_dom ms es d) h k = (all-both es h.0 k.0, dom-both d h.1 k.1)
    dom-both (function_dom ms es d c) h k = (all-both es h.0 k.0, dom-both d h.1 k.1, dom-both c h.2 k.2)
    dom-both (relation_dom ms es ds) h k = (all-both es h.0 k.0, doms-both ds h.1 k.1)
    dom-both (partition_dom ms es d) h k = (all-both es h.0 k.0, dom-both d h.1 k.1)

    doms-both : (ds : Doms) → NamesAreDoms U S ds → NamesAreDoms U T ds → NamesAreDoms U B ds
    doms-both no_doms h k = tt
    doms-both (more_doms d ds) h k = (dom-both d h.0 k.0, doms-both ds h.1 k.1)
