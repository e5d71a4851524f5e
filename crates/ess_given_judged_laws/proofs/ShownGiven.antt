-- What is given in a tree is given in the tree over tables.
use Rattle.std.proofs.Common.{◌≡◌, refl, Bool, true, ◌&&◌, ◌||◌, false}
use Rattle.ess_semantics.specs.declared.words.Op2.{Op2}
use Rattle.ess_semantics.specs.Values.{Text}
use Rattle.ess_semantics.specs.Trees.{binary, Ex, Exs, number_ex, truth_ex, name_ex, node_ex, matrix_ex, comp_ex, cell_ex, seen_ex, no_exs, more_exs, Gens, no_gens, over, from, cond, Dom, Doms, bool_dom, int_dom, name_dom, tuple_dom, record_dom, matrix_dom, set_dom, mset_dom, function_dom, relation_dom, partition_dom, no_doms, more_doms}
use Rattle.ess_semantics.proofs.Tests.{and-left, and-both}
use Rattle.conjure_model_laws.specs.Shown.{Shows, in_place, shown, shown_all, shown_gens, shown_dom, shown_doms}
use Rattle.ess_given_laws.specs.PartsHave.{AllHave, GensHave}
use Rattle.ess_given_laws.specs.Given.{all_bound, none_bound, is_fixed, are_fixed, are_fixed_gens, is_fixed_dom, are_fixed_doms, given, GivenIn}
use Rattle.ess_given_laws.proofs.FixedTrees.{both-so, then-so}
use Rattle.ess_given_judged_laws.specs.ShownGiven.{ShowsGiven, ShownTreesAreGiven}

module _ (u : Text → Bool) (sh : Shows) (s : ShowsGiven sh u) where
  mutual
    fixed-shown : (e : Ex) → is_fixed u e ≡ true → is_fixed u (shown sh e) ≡ true
    fixed-shown (number_ex n) h = refl
    fixed-shown (truth_ex b) h = refl
    fixed-shown (name_ex a) h = s.first_fixed a h
    fixed-shown (node_ex b (binary Op2.Member) (more_exs e (more_exs (name_ex a) no_exs))) h =
        both-so (is_fixed u e) (u a && true) (is_fixed u (shown sh e)) (is_fixed u (in_place sh.last a) && true) (fixed-shown e)
        (λ k. and-both (is_fixed u (in_place sh.last a)) true (s.last_fixed a (and-left (u a) true k)) refl) h
    fixed-shown (node_ex b op es) h = all-fixed-shown es h
    fixed-shown (matrix_ex es d) h = both-so (are_fixed u es) (is_fixed_dom u d) (are_fixed u (shown_all sh es))
        (is_fixed_dom u (shown_dom sh d))
        (all-fixed-shown es) (dom-shown d) h
    fixed-shown (comp_ex e gs) h = both-so (is_fixed u e) (are_fixed_gens u gs) (is_fixed u (shown sh e))
        (are_fixed_gens u (shown_gens sh gs))
        (fixed-shown e) (gens-fixed-shown gs) h
    fixed-shown (cell_ex b n es) h = then-so (u n) (are_fixed u es) (are_fixed u (shown_all sh es)) (all-fixed-shown es) h
    fixed-shown (seen_ex r d ns es) h = h

    all-fixed-shown : (es : Exs) → are_fixed u es ≡ true → are_fixed u (shown_all sh es) ≡ true
    all-fixed-shown no_exs h = refl
    all-fixed-shown (more_exs e es) h = both-so (is_fixed u e) (are_fixed u es) (is_fixed u (shown sh e)) (are_fixed u (shown_all sh es))
        (fixed-shown e) (all-fixed-shown es) h

    gens-fixed-shown : (gs : Gens) → are_fixed_gens u gs ≡ true → are_fixed_gens u (shown_gens sh gs) ≡ true
    gens-fixed-shown no_gens h = refl
    gens-fixed-shown (over p d gs) h =
        then-so (all_bound u p) (is_fixed_dom u d && are_fixed_gens u gs) (is_fixed_dom u (shown_dom sh d) && are_fixed_gens u
        (shown_gens sh gs))
        (both-so (is_fixed_dom u d) (are_fixed_gens u gs) (is_fixed_dom u (shown_dom sh d)) (are_fixed_gens u (shown_gens sh gs))
        (dom-shown d) (gens-fixed-shown gs)) h
    gens-fixed-shown (from p e gs) h =
        then-so (all_bound u p) (is_fixed u e && are_fixed_gens u gs) (is_fixed u (shown sh e) && are_fixed_gens u (shown_gens sh gs))
        (both-so (is_fixed u e) (are_fixed_gens u gs) (is_fixed u (shown sh e)) (are_fixed_gens u (shown_gens sh gs))
        (fixed-shown e) (gens-fixed-shown gs)) h
    gens-fixed-shown (cond e gs) h = both-so (is_fixed u e) (are_fixed_gens u gs) (is_fixed u (shown sh e))
        (are_fixed_gens u (shown_gens sh gs))
        (fixed-shown e) (gens-fixed-shown gs) h

    dom-shown : (d : Dom) → is_fixed_dom u d ≡ true → is_fixed_dom u (shown_dom sh d) ≡ true
    dom-shown bool_dom h = refl
    dom-shown (int_dom rs es) h = all-fixed-shown es h
    dom-shown (name_dom a) h = s.sizes a
    dom-shown (tuple_dom ds) h = doms-shown ds h
    dom-shown (record_dom fs ds) h = doms-shown ds h
    dom-shown (matrix_dom is d) h = both-so (are_fixed_doms u is) (is_fixed_dom u d) (are_fixed_doms u (shown_doms sh is))
        (is_fixed_dom u (shown_dom sh d)) (doms-shown is) (dom-shown d) h
    dom-shown (set_dom ms es d) h = both-so (are_fixed u es) (is_fixed_dom u d) (are_fixed u (shown_all sh es))
        (is_fixed_dom u (shown_dom sh d)) (all-fixed-shown es) (dom-shown d) h
    dom-shown (mset_dom ms es d) h = both-so (are_fixed u es) (is_fixed_dom u d) (are_fixed u (shown_all sh es))
        (is_fixed_dom u (shown_dom sh d)) (all-fixed-shown es) (dom-shown d) h
    dom-shown (function_dom ms es d c) h = both-so (are_fixed u es) (is_fixed_dom u d && is_fixed_dom u c) (are_fixed u (shown_all sh es))
        (is_fixed_dom u (shown_dom sh d) && is_fixed_dom u (shown_dom sh c)) (all-fixed-shown es)
        (both-so (is_fixed_dom u d) (is_fixed_dom u c) (is_fixed_dom u (shown_dom sh d)) (is_fixed_dom u (shown_dom sh c))
        (dom-shown d) (dom-shown c)) h
    dom-shown (relation_dom ms es ds) h = both-so (are_fixed u es) (are_fixed_doms u ds) (are_fixed u (shown_all sh es))
        (are_fixed_doms u (shown_doms sh ds)) (all-fixed-shown es) (doms-shown ds) h
    dom-shown (partition_dom ms es d) h = both-so (are_fixed u es) (is_fixed_dom u d) (are_fixed u (shown_all sh es))
        (is_fixed_dom u (shown_dom sh d)) (all-fixed-shown es) (dom-shown d) h

    doms-shown : (ds : Doms) → are_fixed_doms u ds ≡ true → are_fixed_doms u (shown_doms sh ds) ≡ true
    doms-shown no_doms h = refl
    doms-shown (more_doms d ds) h = both-so (is_fixed_dom u d) (are_fixed_doms u ds) (is_fixed_dom u (shown_dom sh d))
        (are_fixed_doms u (shown_doms sh ds)) (dom-shown d) (doms-shown ds) h

  or-so : (b c d : Bool) → (c ≡ true → d ≡ true) → b || c ≡ true → b || d ≡ true
  or-so true c d f h = refl
  or-so false c d f h = f h

  mutual
    given-shown : (e : Ex) → GivenIn u e → GivenIn u (shown sh e)
    given-shown (number_ex n) h = tt
    given-shown (truth_ex b) h = tt
    given-shown (name_ex a) h = s.first a
    given-shown (node_ex b (binary Op2.Member) (more_exs e (more_exs (name_ex a) no_exs))) h = (given-shown e h.0, (s.last a, tt))
    given-shown (node_ex b op es) h = all-given-shown es h
    given-shown (matrix_ex es d) h = (all-given-shown es h.0, dom-shown d h.1)
    given-shown (comp_ex e gs) h = (given-shown e h.0, gens-given-shown gs h.1)
    given-shown (cell_ex b n es) h = (refl, all-given-shown es h.1)
    given-shown (seen_ex r d ns es) h = h

    all-given-shown : (es : Exs) → AllHave (given u) es → AllHave (given u) (shown_all sh es)
    all-given-shown no_exs h = tt
    all-given-shown (more_exs e es) h = (given-shown e h.0, all-given-shown es h.1)

    gens-given-shown : (gs : Gens) → GensHave (given u) gs → GensHave (given u) (shown_gens sh gs)
    gens-given-shown no_gens h = tt
    gens-given-shown (over p d gs) h = (refl, dom-shown d h.1, gens-given-shown gs h.2)
    gens-given-shown (from p e gs) h =
        (or-so (none_bound u p) (is_fixed u e) (is_fixed u (shown sh e)) (fixed-shown e) h.0, given-shown e h.1, gens-given-shown gs h.2)
    gens-given-shown (cond e gs) h = (given-shown e h.0, gens-given-shown gs h.1)

-- What is proved of trees over tables.
pub shown-trees-are-given : ShownTreesAreGiven
shown-trees-are-given = record { given = given-shown; fixed = fixed-shown }
