-- Sets of names that agree on the names of a tree find the same fixed in it, and the same given.
use Rattle.std.proofs.Common.{◌≡◌, refl, ap, ◌∙◌, Bool, true, false, ◌&&◌, ◌||◌, not, List, [], ◌∷◌}
use Rattle.std.specs.List.{list_all}
use Rattle.ess_semantics.specs.Values.{Text}
use Rattle.ess_semantics.specs.Trees.{Pat, Pats, name_pat, tuple_pat, no_pats, more_pats, Ex, Exs, number_ex, truth_ex, name_ex, node_ex, matrix_ex, comp_ex, cell_ex, seen_ex, no_exs, more_exs, Gens, no_gens, over, from, cond, Dom, Doms, bool_dom, int_dom, name_dom, tuple_dom, record_dom, matrix_dom, set_dom, mset_dom, function_dom, relation_dom, partition_dom, no_doms, more_doms}
use Rattle.ess_semantics.proofs.Tests.{and-left, and-right, and-both}
use Rattle.ess_given_laws.specs.PartsHave.{AllHave, GensHave, TablesHave}
use Rattle.ess_given_laws.specs.Given.{all_bound, all_bound_by, none_bound, none_bound_by, is_fixed, are_fixed, are_fixed_gens, is_fixed_dom, are_fixed_doms, given, GivenIn}

-- Both, each from two.
two-so : (a b c d r s : Bool) → (a ≡ true → c ≡ true → r ≡ true) → (b ≡ true → d ≡ true → s ≡ true) → a && b ≡ true → c && d ≡ true →
    r && s ≡ true
two-so a b c d r s f g h k =
    and-both r s (f (and-left a b h) (and-left c d k)) (g (and-right a b h) (and-right c d k))

-- w are the names of the tree.
module _ (w u v : Text → Bool) (more : (a : Text) → w a ≡ true → u a ≡ true → v a ≡ true) where
  tables-among : (ns : List Text) → list_all w ns ≡ true → list_all u ns ≡ true → list_all v ns ≡ true
  tables-among [] k h = refl
  tables-among (n ∷ ns) k h = two-so (w n) (list_all w ns) (u n) (list_all u ns) (v n) (list_all v ns) (more n) (tables-among ns) k h

  mutual
    bound-among : (p : Pat) → all_bound w p ≡ true → all_bound u p ≡ true → all_bound v p ≡ true
    bound-among (name_pat a) k h = more a k h
    bound-among (tuple_pat ps) k h = all-bound-among ps k h

    all-bound-among : (ps : Pats) → all_bound_by w ps ≡ true → all_bound_by u ps ≡ true → all_bound_by v ps ≡ true
    all-bound-among no_pats k h = refl
    all-bound-among (more_pats p ps) k h = two-so (all_bound w p) (all_bound_by w ps) (all_bound u p) (all_bound_by u ps)
        (all_bound v p) (all_bound_by v ps) (bound-among p) (all-bound-among ps) k h

  mutual
    pub fixed-among : (e : Ex) → is_fixed w e ≡ true → is_fixed u e ≡ true → is_fixed v e ≡ true
    fixed-among (number_ex n) k h = refl
    fixed-among (truth_ex b) k h = refl
    fixed-among (name_ex a) k h = more a k h
    fixed-among (node_ex b op es) k h = all-among es k h
    fixed-among (matrix_ex es d) k h = two-so (are_fixed w es) (is_fixed_dom w d) (are_fixed u es) (is_fixed_dom u d)
        (are_fixed v es) (is_fixed_dom v d) (all-among es) (dom-among d) k h
    fixed-among (comp_ex e gs) k h = two-so (is_fixed w e) (are_fixed_gens w gs) (is_fixed u e) (are_fixed_gens u gs)
        (is_fixed v e) (are_fixed_gens v gs) (fixed-among e) (gens-among gs) k h
    fixed-among (cell_ex b n es) k h =
        two-so (w n) (are_fixed w es) (u n) (are_fixed u es) (v n) (are_fixed v es) (more n) (all-among es) k h
    fixed-among (seen_ex r d ns es) k h =
        two-so (list_all w ns) (is_fixed_dom w d && are_fixed w es) (list_all u ns) (is_fixed_dom u d && are_fixed u es)
        (list_all v ns) (is_fixed_dom v d && are_fixed v es) (tables-among ns)
        (two-so (is_fixed_dom w d) (are_fixed w es) (is_fixed_dom u d) (are_fixed u es) (is_fixed_dom v d) (are_fixed v es) (dom-among d)
        (all-among es)) k h

    all-among : (es : Exs) → are_fixed w es ≡ true → are_fixed u es ≡ true → are_fixed v es ≡ true
    all-among no_exs k h = refl
    all-among (more_exs e es) k h = two-so (is_fixed w e) (are_fixed w es) (is_fixed u e) (are_fixed u es)
        (is_fixed v e) (are_fixed v es) (fixed-among e) (all-among es) k h

    gens-among : (gs : Gens) → are_fixed_gens w gs ≡ true → are_fixed_gens u gs ≡ true → are_fixed_gens v gs ≡ true
    gens-among no_gens k h = refl
    gens-among (over p d gs) k h =
        two-so (all_bound w p) (is_fixed_dom w d && are_fixed_gens w gs) (all_bound u p) (is_fixed_dom u d && are_fixed_gens u gs)
        (all_bound v p) (is_fixed_dom v d && are_fixed_gens v gs) (bound-among p)
        (two-so (is_fixed_dom w d) (are_fixed_gens w gs) (is_fixed_dom u d) (are_fixed_gens u gs)
        (is_fixed_dom v d) (are_fixed_gens v gs) (dom-among d) (gens-among gs)) k h
    gens-among (from p e gs) k h =
        two-so (all_bound w p) (is_fixed w e && are_fixed_gens w gs) (all_bound u p) (is_fixed u e && are_fixed_gens u gs)
        (all_bound v p) (is_fixed v e && are_fixed_gens v gs) (bound-among p)
        (two-so (is_fixed w e) (are_fixed_gens w gs) (is_fixed u e) (are_fixed_gens u gs)
        (is_fixed v e) (are_fixed_gens v gs) (fixed-among e) (gens-among gs)) k h
    gens-among (cond e gs) k h = two-so (is_fixed w e) (are_fixed_gens w gs) (is_fixed u e) (are_fixed_gens u gs)
        (is_fixed v e) (are_fixed_gens v gs) (fixed-among e) (gens-among gs) k h

    pub dom-among : (d : Dom) → is_fixed_dom w d ≡ true → is_fixed_dom u d ≡ true → is_fixed_dom v d ≡ true
    dom-among bool_dom k h = refl
    dom-among (int_dom rs es) k h = all-among es k h
    dom-among (name_dom a) k h = refl
    dom-among (tuple_dom ds) k h = doms-among ds k h
    dom-among (record_dom fs ds) k h = doms-among ds k h
    dom-among (matrix_dom is d) k h = two-so (are_fixed_doms w is) (is_fixed_dom w d) (are_fixed_doms u is) (is_fixed_dom u d)
        (are_fixed_doms v is) (is_fixed_dom v d) (doms-among is) (dom-among d) k h
    dom-among (set_dom ms es d) k h = two-so (are_fixed w es) (is_fixed_dom w d) (are_fixed u es) (is_fixed_dom u d)
        (are_fixed v es) (is_fixed_dom v d) (all-among es) (dom-among d) k h
    dom-among (mset_dom ms es d) k h = two-so (are_fixed w es) (is_fixed_dom w d) (are_fixed u es) (is_fixed_dom u d)
        (are_fixed v es) (is_fixed_dom v d) (all-among es) (dom-among d) k h
    dom-among (function_dom ms es d c) k h =
        two-so (are_fixed w es) (is_fixed_dom w d && is_fixed_dom w c) (are_fixed u es) (is_fixed_dom u d && is_fixed_dom u c)
        (are_fixed v es) (is_fixed_dom v d && is_fixed_dom v c) (all-among es)
        (two-so (is_fixed_dom w d) (is_fixed_dom w c) (is_fixed_dom u d) (is_fixed_dom u c)
        (is_fixed_dom v d) (is_fixed_dom v c) (dom-among d) (dom-among c)) k h
    dom-among (relation_dom ms es ds) k h = two-so (are_fixed w es) (are_fixed_doms w ds) (are_fixed u es) (are_fixed_doms u ds)
        (are_fixed v es) (are_fixed_doms v ds) (all-among es) (doms-among ds) k h
    dom-among (partition_dom ms es d) k h = two-so (are_fixed w es) (is_fixed_dom w d) (are_fixed u es) (is_fixed_dom u d)
        (are_fixed v es) (is_fixed_dom v d) (all-among es) (dom-among d) k h

    doms-among : (ds : Doms) → are_fixed_doms w ds ≡ true → are_fixed_doms u ds ≡ true → are_fixed_doms v ds ≡ true
    doms-among no_doms k h = refl
    doms-among (more_doms d ds) k h = two-so (is_fixed_dom w d) (are_fixed_doms w ds) (is_fixed_dom u d) (are_fixed_doms u ds)
        (is_fixed_dom v d) (are_fixed_doms v ds) (dom-among d) (doms-among ds) k h

-- ---- what is given

-- u and v agree on the names of the tree.
module _ (w u v : Text → Bool) (same : (a : Text) → w a ≡ true → v a ≡ u a) where
  up : (a : Text) → w a ≡ true → u a ≡ true → v a ≡ true
  up a k h = same a k ∙ h

  mutual
    none-among : (p : Pat) → all_bound w p ≡ true → none_bound u p ≡ true → none_bound v p ≡ true
    none-among (name_pat a) k h = ap not (same a k) ∙ h
    none-among (tuple_pat ps) k h = none-by-among ps k h

    none-by-among : (ps : Pats) → all_bound_by w ps ≡ true → none_bound_by u ps ≡ true → none_bound_by v ps ≡ true
    none-by-among no_pats k h = refl
    none-by-among (more_pats p ps) k h = two-so (all_bound w p) (all_bound_by w ps) (none_bound u p) (none_bound_by u ps)
        (none_bound v p) (none_bound_by v ps) (none-among p) (none-by-among ps) k h

  either-so : (a b c d : Bool) → (a ≡ true → c ≡ true) → (b ≡ true → d ≡ true) → a || b ≡ true → c || d ≡ true
  either-so true b true d f g h = refl
  either-so true b false d f g h = let q = f refl in cc
  either-so false b true d f g h = refl
  either-so false b false d f g h = g h

  tables-any : (ns : List Text) → TablesHave (given v) ns
  tables-any [] = tt
  tables-any (n ∷ ns) = (refl, tables-any ns)

  mutual
    pub given-among : (e : Ex) → is_fixed w e ≡ true → GivenIn u e → GivenIn v e
    given-among (number_ex n) k h = tt
    given-among (truth_ex b) k h = tt
    given-among (name_ex a) k h = refl
    given-among (node_ex b op es) k h = all-given-among es k h
    given-among (matrix_ex es d) k h = (
      all-given-among es (and-left (are_fixed w es) (is_fixed_dom w d) k) h.0,
      dom-among w u v up d (and-right (are_fixed w es) (is_fixed_dom w d) k) h.1,
    )
    given-among (comp_ex e gs) k h = (
      given-among e (and-left (is_fixed w e) (are_fixed_gens w gs) k) h.0,
      gens-given-among gs (and-right (is_fixed w e) (are_fixed_gens w gs) k) h.1,
    )
    given-among (cell_ex b n es) k h = (refl, all-given-among es (and-right (w n) (are_fixed w es) k) h.1)
    given-among (seen_ex r d ns es) k h = let j = and-right (list_all w ns) (is_fixed_dom w d && are_fixed w es) k in (
      tables-any ns,
      dom-among w u v up d (and-left (is_fixed_dom w d) (are_fixed w es) j) h.1,
      all-given-among es (and-right (is_fixed_dom w d) (are_fixed w es) j) h.2,
    )

    all-given-among : (es : Exs) → are_fixed w es ≡ true → AllHave (given u) es → AllHave (given v) es
    all-given-among no_exs k h = tt
    all-given-among (more_exs e es) k h = (
      given-among e (and-left (is_fixed w e) (are_fixed w es) k) h.0,
      all-given-among es (and-right (is_fixed w e) (are_fixed w es) k) h.1,
    )

    gens-given-among : (gs : Gens) → are_fixed_gens w gs ≡ true → GensHave (given u) gs → GensHave (given v) gs
    gens-given-among no_gens k h = tt
    gens-given-among (over p d gs) k h = let j = and-right (all_bound w p) (is_fixed_dom w d && are_fixed_gens w gs) k in (
      refl,
      dom-among w u v up d (and-left (is_fixed_dom w d) (are_fixed_gens w gs) j) h.1,
      gens-given-among gs (and-right (is_fixed_dom w d) (are_fixed_gens w gs) j) h.2,
    )
    gens-given-among (from p e gs) k h = let j = and-right (all_bound w p) (is_fixed w e && are_fixed_gens w gs) k in (
      either-so (none_bound u p) (is_fixed u e) (none_bound v p) (is_fixed v e)
          (none-among p (and-left (all_bound w p) (is_fixed w e && are_fixed_gens w gs) k))
          (fixed-among w u v up e (and-left (is_fixed w e) (are_fixed_gens w gs) j)) h.0,
      given-among e (and-left (is_fixed w e) (are_fixed_gens w gs) j) h.1,
      gens-given-among gs (and-right (is_fixed w e) (are_fixed_gens w gs) j) h.2,
    )
    gens-given-among (cond e gs) k h = (
      given-among e (and-left (is_fixed w e) (are_fixed_gens w gs) k) h.0,
      gens-given-among gs (and-right (is_fixed w e) (are_fixed_gens w gs) k) h.1,
    )
