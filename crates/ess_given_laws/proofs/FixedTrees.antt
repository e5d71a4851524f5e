-- Fixed trees: terms put in for names, parts that are replaced, more names, and that what is fixed is given.
use Rattle.std.proofs.Common.{◌≡◌, refl, Bool, true, false, ◌&&◌, ◌||◌, List, [], ◌∷◌}
use Rattle.std.specs.List.{list_all}
use Rattle.ess_semantics.specs.Values.{Text}
use Rattle.ess_semantics.specs.Trees.{Ex, Exs, number_ex, truth_ex, name_ex, node_ex, matrix_ex, comp_ex, cell_ex, seen_ex, no_exs, more_exs, Gens, no_gens, over, from, cond, Dom, Doms, bool_dom, int_dom, name_dom, tuple_dom, record_dom, matrix_dom, set_dom, mset_dom, function_dom, relation_dom, partition_dom, no_doms, more_doms}
use Rattle.ess_semantics.specs.Substitution.{substitute, substitute_exs, substitute_gens, substitute_dom, substitute_doms}
use Rattle.ess_semantics.specs.Contexts.{In, Ins, InGens, InDom, InDoms, hole, in_operand, in_item, in_index_domain, in_body, in_generators, in_cell_index, in_view_domain, in_view_index, in_first, in_later, in_generator_domain, behind_over, in_source, behind_from, in_condition, behind_condition, in_bound, in_component, in_field, in_index, in_element, in_set_number, in_set_member, in_mset_number, in_mset_member, in_function_number, in_argument, in_result, in_relation_number, in_relation_component, in_partition_number, in_partition_member, in_first_domain, in_later_domain, fill, fill_exs, fill_gens, fill_dom, fill_doms}
use Rattle.ess_semantics.proofs.Tests.{and-left, and-right, and-both}
use Rattle.ess_given_laws.specs.PartsHave.{Wanted, PartsHave, AllHave, GensHave, TablesHave}
use Rattle.ess_given_laws.specs.Given.{all_bound, none_bound, is_fixed, are_fixed, are_fixed_gens, is_fixed_dom, are_fixed_doms, given, GivenIn}

-- Both, from both.
pub both-so : (p q r s : Bool) → (p ≡ true → r ≡ true) → (q ≡ true → s ≡ true) → p && q ≡ true → r && s ≡ true
both-so p q r s f g h = and-both r s (f (and-left p q h)) (g (and-right p q h))

-- The second of both.
pub then-so : (p q s : Bool) → (q ≡ true → s ≡ true) → p && q ≡ true → p && s ≡ true
then-so p q s g h = and-both p s (and-left p q h) (g (and-right p q h))

-- The first of both.
pub first-so : (p q r : Bool) → (p ≡ true → r ≡ true) → p && q ≡ true → r && q ≡ true
first-so p q r f h = and-both r q (f (and-left p q h)) (and-right p q h)

module _ (u : Text → Bool) where
  -- ---- what stands for names

  module _ (f : Text → Ex) (each : (a : Text) → u a ≡ true → is_fixed u (f a) ≡ true) where
    mutual
      pub put-fixed : (e : Ex) → is_fixed u e ≡ true → is_fixed u (substitute f e) ≡ true
      put-fixed (number_ex n) h = h
      put-fixed (truth_ex b) h = h
      put-fixed (name_ex a) h = each a h
      put-fixed (node_ex b op es) h = put-all es h
      put-fixed (matrix_ex es d) h = both-so (are_fixed u es) _ _ _ (put-all es) (put-fixed-dom d) h
      put-fixed (comp_ex e gs) h = both-so (is_fixed u e) _ _ _ (put-fixed e) (put-fixed-gens gs) h
      put-fixed (cell_ex b n es) h = then-so (u n) (are_fixed u es) _ (put-all es) h
      put-fixed (seen_ex r d ns es) h =
          then-so (list_all u ns) (is_fixed_dom u d && are_fixed u es) _ (λ k. both-so (is_fixed_dom u d) _ _ _ (put-fixed-dom d)
          (put-all es) k) h

      put-all : (es : Exs) → are_fixed u es ≡ true → are_fixed u (substitute_exs f es) ≡ true
      put-all no_exs h = h
      put-all (more_exs e es) h = both-so (is_fixed u e) _ _ _ (put-fixed e) (put-all es) h

      pub put-fixed-gens : (gs : Gens) → are_fixed_gens u gs ≡ true → are_fixed_gens u (substitute_gens f gs) ≡ true
      put-fixed-gens no_gens h = h
      put-fixed-gens (over p d gs) h =
          then-so (all_bound u p) (is_fixed_dom u d && are_fixed_gens u gs) _ (λ k. both-so (is_fixed_dom u d) _ _ _ (put-fixed-dom d)
          (put-fixed-gens gs) k) h
      put-fixed-gens (from p e gs) h =
          then-so (all_bound u p) (is_fixed u e && are_fixed_gens u gs) _ (λ k. both-so (is_fixed u e) _ _ _ (put-fixed e)
          (put-fixed-gens gs) k) h
      put-fixed-gens (cond e gs) h = both-so (is_fixed u e) _ _ _ (put-fixed e) (put-fixed-gens gs) h

      pub put-fixed-dom : (d : Dom) → is_fixed_dom u d ≡ true → is_fixed_dom u (substitute_dom f d) ≡ true
      put-fixed-dom bool_dom h = h
      put-fixed-dom (int_dom rs es) h = put-all es h
      put-fixed-dom (name_dom a) h = h
      put-fixed-dom (tuple_dom ds) h = put-fixed-doms ds h
      put-fixed-dom (record_dom fs ds) h = put-fixed-doms ds h
      put-fixed-dom (matrix_dom is d) h = both-so (are_fixed_doms u is) _ _ _ (put-fixed-doms is) (put-fixed-dom d) h
      put-fixed-dom (set_dom ms es d) h = both-so (are_fixed u es) _ _ _ (put-all es) (put-fixed-dom d) h
      put-fixed-dom (mset_dom ms es d) h = both-so (are_fixed u es) _ _ _ (put-all es) (put-fixed-dom d) h
      put-fixed-dom (function_dom ms es d c) h = both-so (are_fixed u es) (is_fixed_dom u d && is_fixed_dom u c) _ _ (put-all es)
          (λ k. both-so (is_fixed_dom u d) _ _ _ (put-fixed-dom d) (put-fixed-dom c) k) h
      put-fixed-dom (relation_dom ms es ds) h = both-so (are_fixed u es) _ _ _ (put-all es) (put-fixed-doms ds) h
      put-fixed-dom (partition_dom ms es d) h = both-so (are_fixed u es) _ _ _ (put-all es) (put-fixed-dom d) h

      put-fixed-doms : (ds : Doms) → are_fixed_doms u ds ≡ true → are_fixed_doms u (substitute_doms f ds) ≡ true
      put-fixed-doms no_doms h = h
      put-fixed-doms (more_doms d ds) h = both-so (is_fixed_dom u d) _ _ _ (put-fixed-dom d) (put-fixed-doms ds) h

  -- ---- a part that is replaced

  module _ (a b : Ex) (k : is_fixed u a ≡ true → is_fixed u b ≡ true) where
    mutual
      pub part-fixed : (c : In) → is_fixed u (fill c a) ≡ true → is_fixed u (fill c b) ≡ true
      part-fixed hole h = k h
      part-fixed (in_operand t op c) h = exs-fixed c h
      part-fixed (in_item c d) h = first-so (are_fixed u (fill_exs c a)) _ _ (exs-fixed c) h
      part-fixed (in_index_domain es c) h = then-so (are_fixed u es) _ _ (dom-fixed c) h
      part-fixed (in_body c gs) h = first-so (is_fixed u (fill c a)) _ _ (part-fixed c) h
      part-fixed (in_generators x c) h = then-so (is_fixed u x) _ _ (gens-fixed c) h
      part-fixed (in_cell_index t n c) h = then-so (u n) _ _ (exs-fixed c) h
      part-fixed (in_view_domain r c ns es) h =
          then-so (list_all u ns) _ _ (λ k. first-so (is_fixed_dom u (fill_dom c a)) (are_fixed u es) _ (dom-fixed c) k) h
      part-fixed (in_view_index r d ns c) h =
          then-so (list_all u ns) _ _ (λ k. then-so (is_fixed_dom u d) (are_fixed u (fill_exs c a)) _ (exs-fixed c) k) h

      exs-fixed : (c : Ins) → are_fixed u (fill_exs c a) ≡ true → are_fixed u (fill_exs c b) ≡ true
      exs-fixed (in_first c es) h = first-so (is_fixed u (fill c a)) _ _ (part-fixed c) h
      exs-fixed (in_later x c) h = then-so (is_fixed u x) _ _ (exs-fixed c) h

      gens-fixed : (c : InGens) → are_fixed_gens u (fill_gens c a) ≡ true → are_fixed_gens u (fill_gens c b) ≡ true
      gens-fixed (in_generator_domain p c gs) h =
          then-so (all_bound u p) _ _ (λ k. first-so (is_fixed_dom u (fill_dom c a)) (are_fixed_gens u gs) _ (dom-fixed c) k) h
      gens-fixed (behind_over p d c) h =
          then-so (all_bound u p) _ _ (λ k. then-so (is_fixed_dom u d) (are_fixed_gens u (fill_gens c a)) _ (gens-fixed c) k) h
      gens-fixed (in_source p c gs) h =
          then-so (all_bound u p) _ _ (λ k. first-so (is_fixed u (fill c a)) (are_fixed_gens u gs) _ (part-fixed c) k) h
      gens-fixed (behind_from p x c) h =
          then-so (all_bound u p) _ _ (λ k. then-so (is_fixed u x) (are_fixed_gens u (fill_gens c a)) _ (gens-fixed c) k) h
      gens-fixed (in_condition c gs) h = first-so (is_fixed u (fill c a)) _ _ (part-fixed c) h
      gens-fixed (behind_condition x c) h = then-so (is_fixed u x) _ _ (gens-fixed c) h

      pub dom-fixed : (c : InDom) → is_fixed_dom u (fill_dom c a) ≡ true → is_fixed_dom u (fill_dom c b) ≡ true
      dom-fixed (in_bound rs c) h = exs-fixed c h
      dom-fixed (in_component c) h = doms-fixed c h
      dom-fixed (in_field fs c) h = doms-fixed c h
      dom-fixed (in_index c d) h = first-so (are_fixed_doms u (fill_doms c a)) _ _ (doms-fixed c) h
      dom-fixed (in_element is c) h = then-so (are_fixed_doms u is) _ _ (dom-fixed c) h
      dom-fixed (in_set_number ms c d) h = first-so (are_fixed u (fill_exs c a)) _ _ (exs-fixed c) h
      dom-fixed (in_set_member ms es c) h = then-so (are_fixed u es) _ _ (dom-fixed c) h
      dom-fixed (in_mset_number ms c d) h = first-so (are_fixed u (fill_exs c a)) _ _ (exs-fixed c) h
      dom-fixed (in_mset_member ms es c) h = then-so (are_fixed u es) _ _ (dom-fixed c) h
      dom-fixed (in_function_number ms c d r) h = first-so (are_fixed u (fill_exs c a)) _ _ (exs-fixed c) h
      dom-fixed (in_argument ms es c r) h =
          then-so (are_fixed u es) _ _ (λ k. first-so (is_fixed_dom u (fill_dom c a)) (is_fixed_dom u r) _ (dom-fixed c) k) h
      dom-fixed (in_result ms es d c) h =
          then-so (are_fixed u es) _ _ (λ k. then-so (is_fixed_dom u d) (is_fixed_dom u (fill_dom c a)) _ (dom-fixed c) k) h
      dom-fixed (in_relation_number ms c ds) h = first-so (are_fixed u (fill_exs c a)) _ _ (exs-fixed c) h
      dom-fixed (in_relation_component ms es c) h = then-so (are_fixed u es) _ _ (doms-fixed c) h
      dom-fixed (in_partition_number ms c d) h = first-so (are_fixed u (fill_exs c a)) _ _ (exs-fixed c) h
      dom-fixed (in_partition_member ms es c) h = then-so (are_fixed u es) _ _ (dom-fixed c) h

      doms-fixed : (c : InDoms) → are_fixed_doms u (fill_doms c a) ≡ true → are_fixed_doms u (fill_doms c b) ≡ true
      doms-fixed (in_first_domain c ds) h = first-so (is_fixed_dom u (fill_dom c a)) _ _ (dom-fixed c) h
      doms-fixed (in_later_domain d c) h = then-so (is_fixed_dom u d) _ _ (doms-fixed c) h

  -- ---- what is fixed is given

  -- What is wanted of the parts of a fixed tree.
  abbrev pub fixed : Wanted
  fixed = record { name = u; table = u; binds = all_bound u; draws = λ p e. all_bound u p; dom = is_fixed_dom u }

  tables-have : (ns : List Text) → list_all u ns ≡ true → TablesHave fixed ns
  tables-have [] h = tt
  tables-have (n ∷ ns) h = (and-left (u n) (list_all u ns) h, tables-have ns (and-right (u n) (list_all u ns) h))

  have-tables : (ns : List Text) → TablesHave fixed ns → list_all u ns ≡ true
  have-tables [] h = refl
  have-tables (n ∷ ns) h = and-both (u n) (list_all u ns) h.0 (have-tables ns h.1)

  all-tables : (ns : List Text) → TablesHave (given u) ns
  all-tables [] = tt
  all-tables (n ∷ ns) = (refl, all-tables ns)

  or-yes : (b c : Bool) → c ≡ true → b || c ≡ true
  or-yes true c h = refl
  or-yes false c h = h

  mutual
    pub fixed-has : (e : Ex) → is_fixed u e ≡ true → PartsHave fixed e
    fixed-has (number_ex n) h = tt
    fixed-has (truth_ex b) h = tt
    fixed-has (name_ex a) h = h
    fixed-has (node_ex b op es) h = fixed-all es h
    fixed-has (matrix_ex es d) h =
        (fixed-all es (and-left (are_fixed u es) (is_fixed_dom u d) h), and-right (are_fixed u es) (is_fixed_dom u d) h)
    fixed-has (comp_ex e gs) h =
        (fixed-has e (and-left (is_fixed u e) (are_fixed_gens u gs) h), fixed-gens gs (and-right (is_fixed u e) (are_fixed_gens u gs) h))
    fixed-has (cell_ex b n es) h = (and-left (u n) (are_fixed u es) h, fixed-all es (and-right (u n) (are_fixed u es) h))
    fixed-has (seen_ex r d ns es) h = let k = and-right (list_all u ns) (is_fixed_dom u d && are_fixed u es) h in (
      tables-have ns (and-left (list_all u ns) (is_fixed_dom u d && are_fixed u es) h),
      and-left (is_fixed_dom u d) (are_fixed u es) k,
      fixed-all es (and-right (is_fixed_dom u d) (are_fixed u es) k),
    )

    pub fixed-all : (es : Exs) → are_fixed u es ≡ true → AllHave fixed es
    fixed-all no_exs h = tt
    fixed-all (more_exs e es) h =
        (fixed-has e (and-left (is_fixed u e) (are_fixed u es) h), fixed-all es (and-right (is_fixed u e) (are_fixed u es) h))

    pub fixed-gens : (gs : Gens) → are_fixed_gens u gs ≡ true → GensHave fixed gs
    fixed-gens no_gens h = tt
    fixed-gens (over p d gs) h = let k = and-right (all_bound u p) (is_fixed_dom u d && are_fixed_gens u gs) h in (
      and-left (all_bound u p) (is_fixed_dom u d && are_fixed_gens u gs) h,
      and-left (is_fixed_dom u d) (are_fixed_gens u gs) k,
      fixed-gens gs (and-right (is_fixed_dom u d) (are_fixed_gens u gs) k),
    )
    fixed-gens (from p e gs) h = let k = and-right (all_bound u p) (is_fixed u e && are_fixed_gens u gs) h in (
      and-left (all_bound u p) (is_fixed u e && are_fixed_gens u gs) h,
      fixed-has e (and-left (is_fixed u e) (are_fixed_gens u gs) k),
      fixed-gens gs (and-right (is_fixed u e) (are_fixed_gens u gs) k),
    )
    fixed-gens (cond e gs) h =
        (fixed-has e (and-left (is_fixed u e) (are_fixed_gens u gs) h), fixed-gens gs (and-right (is_fixed u e) (are_fixed_gens u gs) h))

  mutual
    pub has-fixed : (e : Ex) → PartsHave fixed e → is_fixed u e ≡ true
    has-fixed (number_ex n) h = refl
    has-fixed (truth_ex b) h = refl
    has-fixed (name_ex a) h = h
    has-fixed (node_ex b op es) h = all-fixed es h
    has-fixed (matrix_ex es d) h = and-both (are_fixed u es) (is_fixed_dom u d) (all-fixed es h.0) h.1
    has-fixed (comp_ex e gs) h = and-both (is_fixed u e) (are_fixed_gens u gs) (has-fixed e h.0) (gens-fixed-so gs h.1)
    has-fixed (cell_ex b n es) h = and-both (u n) (are_fixed u es) h.0 (all-fixed es h.1)
    has-fixed (seen_ex r d ns es) h = and-both (list_all u ns) (is_fixed_dom u d && are_fixed u es) (have-tables ns h.0)
        (and-both (is_fixed_dom u d) (are_fixed u es) h.1 (all-fixed es h.2))

    pub all-fixed : (es : Exs) → AllHave fixed es → are_fixed u es ≡ true
    all-fixed no_exs h = refl
    all-fixed (more_exs e es) h = and-both (is_fixed u e) (are_fixed u es) (has-fixed e h.0) (all-fixed es h.1)

    pub gens-fixed-so : (gs : Gens) → GensHave fixed gs → are_fixed_gens u gs ≡ true
    gens-fixed-so no_gens h = refl
    gens-fixed-so (over p d gs) h = and-both (all_bound u p) (is_fixed_dom u d && are_fixed_gens u gs) h.0
        (and-both (is_fixed_dom u d) (are_fixed_gens u gs) h.1 (gens-fixed-so gs h.2))
    gens-fixed-so (from p e gs) h = and-both (all_bound u p) (is_fixed u e && are_fixed_gens u gs) h.0
        (and-both (is_fixed u e) (are_fixed_gens u gs) (has-fixed e h.1) (gens-fixed-so gs h.2))
    gens-fixed-so (cond e gs) h = and-both (is_fixed u e) (are_fixed_gens u gs) (has-fixed e h.0) (gens-fixed-so gs h.1)

  mutual
    -- Each domain of a fixed tree is fixed, and so is each source.
    pub given-has : (e : Ex) → PartsHave fixed e → GivenIn u e
    given-has (number_ex n) h = tt
    given-has (truth_ex b) h = tt
    given-has (name_ex a) h = refl
    given-has (node_ex b op es) h = given-all es h
    given-has (matrix_ex es d) h = (given-all es h.0, h.1)
    given-has (comp_ex e gs) h = (given-has e h.0, given-gens gs h.1)
    given-has (cell_ex b n es) h = (refl, given-all es h.1)
    given-has (seen_ex r d ns es) h = (all-tables ns, h.1, given-all es h.2)

    given-all : (es : Exs) → AllHave fixed es → AllHave (given u) es
    given-all no_exs h = tt
    given-all (more_exs e es) h = (given-has e h.0, given-all es h.1)

    pub given-gens : (gs : Gens) → GensHave fixed gs → GensHave (given u) gs
    given-gens no_gens h = tt
    given-gens (over p d gs) h = (refl, h.1, given-gens gs h.2)
    given-gens (from p e gs) h = (or-yes (none_bound u p) (is_fixed u e) (has-fixed e h.1), given-has e h.1, given-gens gs h.2)
    given-gens (cond e gs) h = (given-has e h.0, given-gens gs h.1)
