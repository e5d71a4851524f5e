-- More names may belong to those that are given, as long as the tree has none of them.
use Rattle.std.proofs.Common.{◌≡◌, refl, Bool, true, false, ◌&&◌, ◌||◌, not, List, [], ◌∷◌}
use Rattle.std.specs.List.{list_all}
use Rattle.ess_semantics.specs.Values.{Text}
use Rattle.ess_semantics.specs.Trees.{Pat, Pats, name_pat, tuple_pat, no_pats, more_pats, Ex, Exs, number_ex, truth_ex, name_ex, node_ex, matrix_ex, comp_ex, cell_ex, seen_ex, no_exs, more_exs, Gens, no_gens, over, from, cond, Dom, Doms, bool_dom, int_dom, name_dom, tuple_dom, record_dom, matrix_dom, set_dom, mset_dom, function_dom, relation_dom, partition_dom, no_doms, more_doms}
use Rattle.ess_semantics.specs.Substitution.{Binds, BindsAll}
use Rattle.ess_chain_names_laws.specs.NamesHave.{NamesHave, AllNamesHave, GensNamesHave}
use Rattle.ess_given_laws.specs.PartsHave.{AllHave, GensHave, TablesHave}
use Rattle.ess_given_laws.specs.Given.{all_bound, all_bound_by, none_bound, none_bound_by, is_fixed, are_fixed, are_fixed_gens, is_fixed_dom, are_fixed_doms, given, GivenIn}
use Rattle.ess_given_laws.specs.GivenEnds.{MoreNamesMayJoin}
use Rattle.ess_given_laws.proofs.FixedTrees.{both-so}

module _ (u v w : Text → Bool) (more : (a : Text) → u a ≡ true → v a ≡ true) (old : (a : Text) → w a ≡ true → v a ≡ true → u a ≡ true) where
  -- ---- what is fixed stays so

  tables-more : (ns : List Text) → list_all u ns ≡ true → list_all v ns ≡ true
  tables-more [] h = refl
  tables-more (n ∷ ns) h = both-so (u n) (list_all u ns) _ _ (more n) (tables-more ns) h

  mutual
    bound-more : (p : Pat) → all_bound u p ≡ true → all_bound v p ≡ true
    bound-more (name_pat a) h = more a h
    bound-more (tuple_pat ps) h = all-bound-more ps h

    all-bound-more : (ps : Pats) → all_bound_by u ps ≡ true → all_bound_by v ps ≡ true
    all-bound-more no_pats h = refl
    all-bound-more (more_pats p ps) h = both-so (all_bound u p) (all_bound_by u ps) _ _ (bound-more p) (all-bound-more ps) h

  mutual
    fixed-more : (e : Ex) → is_fixed u e ≡ true → is_fixed v e ≡ true
    fixed-more (number_ex n) h = refl
    fixed-more (truth_ex b) h = refl
    fixed-more (name_ex a) h = more a h
    fixed-more (node_ex b op es) h = all-more es h
    fixed-more (matrix_ex es d) h = both-so (are_fixed u es) (is_fixed_dom u d) _ _ (all-more es) (dom-more d) h
    fixed-more (comp_ex e gs) h = both-so (is_fixed u e) (are_fixed_gens u gs) _ _ (fixed-more e) (gens-more gs) h
    fixed-more (cell_ex b n es) h = both-so (u n) (are_fixed u es) _ _ (more n) (all-more es) h
    fixed-more (seen_ex r d ns es) h = both-so (list_all u ns) (is_fixed_dom u d && are_fixed u es) _ _ (tables-more ns)
        (λ k. both-so (is_fixed_dom u d) (are_fixed u es) _ _ (dom-more d) (all-more es) k) h

    all-more : (es : Exs) → are_fixed u es ≡ true → are_fixed v es ≡ true
    all-more no_exs h = refl
    all-more (more_exs e es) h = both-so (is_fixed u e) (are_fixed u es) _ _ (fixed-more e) (all-more es) h

    gens-more : (gs : Gens) → are_fixed_gens u gs ≡ true → are_fixed_gens v gs ≡ true
    gens-more no_gens h = refl
    gens-more (over p d gs) h = both-so (all_bound u p) (is_fixed_dom u d && are_fixed_gens u gs) _ _ (bound-more p)
        (λ k. both-so (is_fixed_dom u d) (are_fixed_gens u gs) _ _ (dom-more d) (gens-more gs) k) h
    gens-more (from p e gs) h = both-so (all_bound u p) (is_fixed u e && are_fixed_gens u gs) _ _ (bound-more p)
        (λ k. both-so (is_fixed u e) (are_fixed_gens u gs) _ _ (fixed-more e) (gens-more gs) k) h
    gens-more (cond e gs) h = both-so (is_fixed u e) (are_fixed_gens u gs) _ _ (fixed-more e) (gens-more gs) h

    dom-more : (d : Dom) → is_fixed_dom u d ≡ true → is_fixed_dom v d ≡ true
    dom-more bool_dom h = refl
    dom-more (int_dom rs es) h = all-more es h
    dom-more (name_dom a) h = refl
    dom-more (tuple_dom ds) h = doms-more ds h
    dom-more (record_dom fs ds) h = doms-more ds h
    dom-more (matrix_dom is d) h = both-so (are_fixed_doms u is) (is_fixed_dom u d) _ _ (doms-more is) (dom-more d) h
    dom-more (set_dom ms es d) h = both-so (are_fixed u es) (is_fixed_dom u d) _ _ (all-more es) (dom-more d) h
    dom-more (mset_dom ms es d) h = both-so (are_fixed u es) (is_fixed_dom u d) _ _ (all-more es) (dom-more d) h
    dom-more (function_dom ms es d c) h = both-so (are_fixed u es) (is_fixed_dom u d && is_fixed_dom u c) _ _ (all-more es)
        (λ k. both-so (is_fixed_dom u d) (is_fixed_dom u c) _ _ (dom-more d) (dom-more c) k) h
    dom-more (relation_dom ms es ds) h = both-so (are_fixed u es) (are_fixed_doms u ds) _ _ (all-more es) (doms-more ds) h
    dom-more (partition_dom ms es d) h = both-so (are_fixed u es) (is_fixed_dom u d) _ _ (all-more es) (dom-more d) h

    doms-more : (ds : Doms) → are_fixed_doms u ds ≡ true → are_fixed_doms v ds ≡ true
    doms-more no_doms h = refl
    doms-more (more_doms d ds) h = both-so (is_fixed_dom u d) (are_fixed_doms u ds) _ _ (dom-more d) (doms-more ds) h

  -- ---- names of the tree that didn't belong to them don't now

  none-more : (a : Text) → w a ≡ true → not (u a) ≡ true → not (v a) ≡ true
  none-more a h k = go (v a) refl
    where
      no : (b : Bool) → b ≡ true → not b ≡ true → not true ≡ true
      no true q r = r
      no false q r = cc

      go : (b : Bool) → v a ≡ b → not b ≡ true
      go false q = refl
      go true q = no (u a) (old a h q) k

  mutual
    none-bound : (p : Pat) → Binds w p → none_bound u p ≡ true → none_bound v p ≡ true
    none-bound (name_pat a) h k = none-more a h k
    none-bound (tuple_pat ps) h k = none-bound-by ps h k

    none-bound-by : (ps : Pats) → BindsAll w ps → none_bound_by u ps ≡ true → none_bound_by v ps ≡ true
    none-bound-by no_pats h k = refl
    none-bound-by (more_pats p ps) h k =
        both-so (none_bound u p) (none_bound_by u ps) _ _ (none-bound p h.0) (none-bound-by ps h.1) k

  either-so : (a b c d : Bool) → (a ≡ true → c ≡ true) → (b ≡ true → d ≡ true) → a || b ≡ true → c || d ≡ true
  either-so true b true d f g h = refl
  either-so true b false d f g h = let q = f refl in cc
  either-so false b true d f g h = refl
  either-so false b false d f g h = g h

  tables-any : (ns : List Text) → TablesHave (given v) ns
  tables-any [] = tt
  tables-any (n ∷ ns) = (refl, tables-any ns)

  mutual
    given-more : (e : Ex) → NamesHave w e → GivenIn u e → GivenIn v e
    given-more (number_ex n) k h = tt
    given-more (truth_ex b) k h = tt
    given-more (name_ex a) k h = refl
    given-more (node_ex b op es) k h = all-given es k h
    given-more (matrix_ex es d) k h = (all-given es k.0 h.0, dom-more d h.1)
    given-more (comp_ex e gs) k h = (given-more e k.0 h.0, gens-given gs k.1 h.1)
    given-more (cell_ex b n es) k h = (refl, all-given es k.1 h.1)
    given-more (seen_ex r d ns es) k h = (tables-any ns, dom-more d h.1, all-given es k.1 h.2)

    all-given : (es : Exs) → AllNamesHave w es → AllHave (given u) es → AllHave (given v) es
    all-given no_exs k h = tt
    all-given (more_exs e es) k h = (given-more e k.0 h.0, all-given es k.1 h.1)

    gens-given : (gs : Gens) → GensNamesHave w gs → GensHave (given u) gs → GensHave (given v) gs
    gens-given no_gens k h = tt
    gens-given (over p d gs) k h = (refl, dom-more d h.1, gens-given gs k.2 h.2)
    gens-given (from p e gs) k h = (
      either-so (none_bound u p) (is_fixed u e) _ _ (none-bound p k.0) (fixed-more e) h.0,
      given-more e k.1 h.1,
      gens-given gs k.2 h.2,
    )
    gens-given (cond e gs) k h = (given-more e k.0 h.0, gens-given gs k.1 h.1)

-- What is proved of more names.
pub more-names-may-join : MoreNamesMayJoin
more-names-may-join = λ u v w e m o k h. given-more u v w m o e k h
