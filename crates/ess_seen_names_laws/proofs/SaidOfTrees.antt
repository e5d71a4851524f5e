-- What names of a tree are, and which numbers it spells, as one predicate, and back.
use Rattle.std.proofs.Common.{refl, Bool, true, List, [], ◌∷◌, ◌++◌, map, ℤ}
use Rattle.ess_semantics.specs.Lists.{append_all}
use Rattle.ess_semantics.specs.Values.{Text}
use Rattle.ess_semantics.specs.Trees.{Pat, Pats, name_pat, tuple_pat, no_pats, more_pats, Ex, Exs, number_ex, truth_ex, name_ex, node_ex, matrix_ex, comp_ex, cell_ex, seen_ex, no_exs, more_exs, Gens, no_gens, over, from, cond, Dom, Doms, bool_dom, int_dom, name_dom, tuple_dom, record_dom, matrix_dom, set_dom, mset_dom, function_dom, relation_dom, partition_dom, no_doms, more_doms}
use Rattle.ess_semantics.specs.Substitution.{Binds, BindsAll, NamesAre, NamesAreExs, NamesAreGens, NamesAreDom, NamesAreDoms}
use Rattle.ess_semantics.specs.Occurrences.{parts_of, parts_of_all, parts_of_gens, parts_of_dom, parts_of_doms}
use Rattle.ess_semantics.specs.Constants.{numbers_of_part}
use Rattle.ess_semantics.proofs.Tests.{and-left, and-both}
use Rattle.ess_refine_laws.proofs.ConstantsStay.{All, all-left, all-right, all-both}
use Rattle.ess_seen_names_laws.proofs.Has.{Has, AllHave, GensHave, DomHas, DomsHave}

-- ---- names

module _ (u : Text → Bool) where
  mutual
    -- Names that are so, and any numbers.
    pub names-have : (e : Ex) → NamesAre u u e → Has (λ n. true) u e
    names-have (number_ex n) h = refl
    names-have (truth_ex b) h = tt
    names-have (name_ex a) h = h
    names-have (node_ex b op es) h = all-have es h
    names-have (matrix_ex es d) h = (all-have es h.0, dom-has d h.1)
    names-have (comp_ex e gs) h = (names-have e h.0, gens-have gs h.1)
    names-have (cell_ex b n es) h = all-have es h
    names-have (seen_ex r d ns es) h = (dom-has d h.0, all-have es h.1)

    all-have : (es : Exs) → NamesAreExs u u es → AllHave (λ n. true) u es
    all-have no_exs h = tt
    all-have (more_exs e es) h = (names-have e h.0, all-have es h.1)

    gens-have : (gs : Gens) → NamesAreGens u u gs → GensHave (λ n. true) u gs
    gens-have no_gens h = tt
    gens-have (over p d gs) h = (h.0, dom-has d h.1, gens-have gs h.2)
    gens-have (from p e gs) h = (h.0, names-have e h.1, gens-have gs h.2)
    gens-have (cond e gs) h = (names-have e h.0, gens-have gs h.1)

    dom-has : (d : Dom) → NamesAreDom u u d → DomHas (λ n. true) u d
    dom-has bool_dom h = tt
    dom-has (int_dom rs es) h = all-have es h
    dom-has (name_dom a) h = tt
    dom-has (tuple_dom ds) h = doms-have ds h
    dom-has (record_dom fs ds) h = doms-have ds h
    dom-has (matrix_dom is d) h = (doms-have is h.0, dom-has d h.1)
    dom-has (set_dom ms es d) h = (all-have es h.0, dom-has d h.1)
    dom-has (mset_dom ms es d) h = (all-have es h.0, dom-has d h.1)
    dom-has (function_dom ms es d c) h = (all-have es h.0, dom-has d h.1, dom-has c h.2)
    dom-has (relation_dom ms es ds) h = (all-have es h.0, doms-have ds h.1)
    dom-has (partition_dom ms es d) h = (all-have es h.0, dom-has d h.1)

    doms-have : (ds : Doms) → NamesAreDoms u u ds → DomsHave (λ n. true) u ds
    doms-have no_doms h = tt
    doms-have (more_doms d ds) h = (dom-has d h.0, doms-have ds h.1)

module _ (q : ℤ → Bool) (u : Text → Bool) where
  mutual
    -- Back to names.
    pub has-names : (e : Ex) → Has q u e → NamesAre u u e
    has-names (number_ex n) h = tt
    has-names (truth_ex b) h = tt
    has-names (name_ex a) h = h
    has-names (node_ex b op es) h = all-names es h
    has-names (matrix_ex es d) h = (all-names es h.0, dom-names d h.1)
    has-names (comp_ex e gs) h = (has-names e h.0, gens-names gs h.1)
    has-names (cell_ex b n es) h = all-names es h
    has-names (seen_ex r d ns es) h = (dom-names d h.0, all-names es h.1)

    all-names : (es : Exs) → AllHave q u es → NamesAreExs u u es
    all-names no_exs h = tt
    all-names (more_exs e es) h = (has-names e h.0, all-names es h.1)

    gens-names : (gs : Gens) → GensHave q u gs → NamesAreGens u u gs
    gens-names no_gens h = tt
    gens-names (over p d gs) h = (h.0, dom-names d h.1, gens-names gs h.2)
    gens-names (from p e gs) h = (h.0, has-names e h.1, gens-names gs h.2)
    gens-names (cond e gs) h = (has-names e h.0, gens-names gs h.1)

    dom-names : (d : Dom) → DomHas q u d → NamesAreDom u u d
    dom-names bool_dom h = tt
    dom-names (int_dom rs es) h = all-names es h
    dom-names (name_dom a) h = tt
    dom-names (tuple_dom ds) h = doms-names ds h
    dom-names (record_dom fs ds) h = doms-names ds h
    dom-names (matrix_dom is d) h = (doms-names is h.0, dom-names d h.1)
    dom-names (set_dom ms es d) h = (all-names es h.0, dom-names d h.1)
    dom-names (mset_dom ms es d) h = (all-names es h.0, dom-names d h.1)
    dom-names (function_dom ms es d c) h = (all-names es h.0, dom-names d h.1, dom-names c h.2)
    dom-names (relation_dom ms es ds) h = (all-names es h.0, doms-names ds h.1)
    dom-names (partition_dom ms es d) h = (all-names es h.0, dom-names d h.1)

    doms-names : (ds : Doms) → DomsHave q u ds → NamesAreDoms u u ds
    doms-names no_doms h = tt
    doms-names (more_doms d ds) h = (dom-names d h.0, doms-names ds h.1)

-- ---- numbers

mutual
  any-pat : (p : Pat) → Binds (λ a. true) p
  any-pat (name_pat a) = refl
  any-pat (tuple_pat ps) = any-pats ps

  any-pats : (ps : Pats) → BindsAll (λ a. true) ps
  any-pats no_pats = tt
  any-pats (more_pats p ps) = (any-pat p, any-pats ps)

module _ (q : ℤ → Bool) where
  -- q has the numbers of these parts.
  abbrev pub S : List Ex → Type 0
  S ps = All q (append_all (map numbers_of_part ps))

  left : (ps rs : List Ex) → S (ps ++ rs) → S ps
  left [] rs h = refl
  left (p ∷ ps) rs h = all-both q (numbers_of_part p) (append_all (map numbers_of_part ps))
      (all-left q (numbers_of_part p) (append_all (map numbers_of_part (ps ++ rs))) h)
      (left ps rs (all-right q (numbers_of_part p) (append_all (map numbers_of_part (ps ++ rs))) h))

  right : (ps rs : List Ex) → S (ps ++ rs) → S rs
  right [] rs h = h
  right (p ∷ ps) rs h = right ps rs (all-right q (numbers_of_part p) (append_all (map numbers_of_part (ps ++ rs))) h)

  join : (ps rs : List Ex) → S ps → S rs → S (ps ++ rs)
  join [] rs h k = k
  join (p ∷ ps) rs h k = all-both q (numbers_of_part p) (append_all (map numbers_of_part (ps ++ rs)))
      (all-left q (numbers_of_part p) (append_all (map numbers_of_part ps)) h)
      (join ps rs (all-right q (numbers_of_part p) (append_all (map numbers_of_part ps)) h) k)

  abbrev any : Text → Bool
  any a = true

  mutual
    -- Numbers that are spelled, and any names.
    pub numbers-have : (e : Ex) → S (parts_of e) → Has q any e
    numbers-have (number_ex n) h = and-left (q n) true h
    numbers-have (truth_ex b) h = tt
    numbers-have (name_ex a) h = refl
    numbers-have (node_ex b op es) h = each-have es h
    numbers-have (matrix_ex es d) h =
        (each-have es (left (parts_of_all es) (parts_of_dom d) h), inner-has d (right (parts_of_all es) (parts_of_dom d) h))
    numbers-have (comp_ex e gs) h =
        (numbers-have e (left (parts_of e) (parts_of_gens gs) h), behind-have gs (right (parts_of e) (parts_of_gens gs) h))
    numbers-have (cell_ex b n es) h = each-have es h
    numbers-have (seen_ex r d ns es) h =
        (inner-has d (left (parts_of_dom d) (parts_of_all es) h), each-have es (right (parts_of_dom d) (parts_of_all es) h))

    each-have : (es : Exs) → S (parts_of_all es) → AllHave q any es
    each-have no_exs h = tt
    each-have (more_exs e es) h =
        (numbers-have e (left (parts_of e) (parts_of_all es) h), each-have es (right (parts_of e) (parts_of_all es) h))

    behind-have : (gs : Gens) → S (parts_of_gens gs) → GensHave q any gs
    behind-have no_gens h = tt
    behind-have (over p d gs) h = (
      any-pat p,
      inner-has d (left (parts_of_dom d) (parts_of_gens gs) h),
      behind-have gs (right (parts_of_dom d) (parts_of_gens gs) h),
    )
    behind-have (from p e gs) h = (
      any-pat p,
      numbers-have e (left (parts_of e) (parts_of_gens gs) h),
      behind-have gs (right (parts_of e) (parts_of_gens gs) h),
    )
    behind-have (cond e gs) h =
        (numbers-have e (left (parts_of e) (parts_of_gens gs) h), behind-have gs (right (parts_of e) (parts_of_gens gs) h))

    inner-has : (d : Dom) → S (parts_of_dom d) → DomHas q any d
    inner-has bool_dom h = tt
    inner-has (int_dom rs es) h = each-have es h
    inner-has (name_dom a) h = tt
    inner-has (tuple_dom ds) h = inners-have ds h
    inner-has (record_dom fs ds) h = inners-have ds h
    inner-has (matrix_dom is d) h =
        (inners-have is (left (parts_of_doms is) (parts_of_dom d) h), inner-has d (right (parts_of_doms is) (parts_of_dom d) h))
    inner-has (set_dom ms es d) h =
        (each-have es (left (parts_of_all es) (parts_of_dom d) h), inner-has d (right (parts_of_all es) (parts_of_dom d) h))
    inner-has (mset_dom ms es d) h =
        (each-have es (left (parts_of_all es) (parts_of_dom d) h), inner-has d (right (parts_of_all es) (parts_of_dom d) h))
    inner-has (function_dom ms es d c) h =
        let k = left (parts_of_all es ++ parts_of_dom d) (parts_of_dom c) h in (
          each-have es (left (parts_of_all es) (parts_of_dom d) k),
          inner-has d (right (parts_of_all es) (parts_of_dom d) k),
          inner-has c (right (parts_of_all es ++ parts_of_dom d) (parts_of_dom c) h),
        )
    inner-has (relation_dom ms es ds) h =
        (each-have es (left (parts_of_all es) (parts_of_doms ds) h), inners-have ds (right (parts_of_all es) (parts_of_doms ds) h))
    inner-has (partition_dom ms es d) h =
        (each-have es (left (parts_of_all es) (parts_of_dom d) h), inner-has d (right (parts_of_all es) (parts_of_dom d) h))

    inners-have : (ds : Doms) → S (parts_of_doms ds) → DomsHave q any ds
    inners-have no_doms h = tt
    inners-have (more_doms d ds) h =
        (inner-has d (left (parts_of_dom d) (parts_of_doms ds) h), inners-have ds (right (parts_of_dom d) (parts_of_doms ds) h))

module _ (q : ℤ → Bool) (u : Text → Bool) where
  mutual
    -- Back to numbers.
    pub has-numbers : (e : Ex) → Has q u e → S q (parts_of e)
    has-numbers (number_ex n) h = and-both (q n) true h refl
    has-numbers (truth_ex b) h = refl
    has-numbers (name_ex a) h = refl
    has-numbers (node_ex b op es) h = all-numbers es h
    has-numbers (matrix_ex es d) h = join q (parts_of_all es) (parts_of_dom d) (all-numbers es h.0) (dom-numbers d h.1)
    has-numbers (comp_ex e gs) h = join q (parts_of e) (parts_of_gens gs) (has-numbers e h.0) (gens-numbers gs h.1)
    has-numbers (cell_ex b n es) h = all-numbers es h
    has-numbers (seen_ex r d ns es) h = join q (parts_of_dom d) (parts_of_all es) (dom-numbers d h.0) (all-numbers es h.1)

    all-numbers : (es : Exs) → AllHave q u es → S q (parts_of_all es)
    all-numbers no_exs h = refl
    all-numbers (more_exs e es) h = join q (parts_of e) (parts_of_all es) (has-numbers e h.0) (all-numbers es h.1)

    gens-numbers : (gs : Gens) → GensHave q u gs → S q (parts_of_gens gs)
    gens-numbers no_gens h = refl
    gens-numbers (over p d gs) h = join q (parts_of_dom d) (parts_of_gens gs) (dom-numbers d h.1) (gens-numbers gs h.2)
    gens-numbers (from p e gs) h = join q (parts_of e) (parts_of_gens gs) (has-numbers e h.1) (gens-numbers gs h.2)
    gens-numbers (cond e gs) h = join q (parts_of e) (parts_of_gens gs) (has-numbers e h.0) (gens-numbers gs h.1)

    dom-numbers : (d : Dom) → DomHas q u d → S q (parts_of_dom d)
    dom-numbers bool_dom h = refl
    dom-numbers (int_dom rs es) h = all-numbers es h
    dom-numbers (name_dom a) h = refl
    dom-numbers (tuple_dom ds) h = doms-numbers ds h
    dom-numbers (record_dom fs ds) h = doms-numbers ds h
    dom-numbers (matrix_dom is d) h = join q (parts_of_doms is) (parts_of_dom d) (doms-numbers is h.0) (dom-numbers d h.1)
    dom-numbers (set_dom ms es d) h = join q (parts_of_all es) (parts_of_dom d) (all-numbers es h.0) (dom-numbers d h.1)
    dom-numbers (mset_dom ms es d) h = join q (parts_of_all es) (parts_of_dom d) (all-numbers es h.0) (dom-numbers d h.1)
    dom-numbers (function_dom ms es d c) h =
        join q (parts_of_all es ++ parts_of_dom d) (parts_of_dom c)
        (join q (parts_of_all es) (parts_of_dom d) (all-numbers es h.0) (dom-numbers d h.1)) (dom-numbers c h.2)
    dom-numbers (relation_dom ms es ds) h = join q (parts_of_all es) (parts_of_doms ds) (all-numbers es h.0) (doms-numbers ds h.1)
    dom-numbers (partition_dom ms es d) h = join q (parts_of_all es) (parts_of_dom d) (all-numbers es h.0) (dom-numbers d h.1)

    doms-numbers : (ds : Doms) → DomsHave q u ds → S q (parts_of_doms ds)
    doms-numbers no_doms h = refl
    doms-numbers (more_doms d ds) h = join q (parts_of_dom d) (parts_of_doms ds) (dom-numbers d h.0) (doms-numbers ds h.1)
