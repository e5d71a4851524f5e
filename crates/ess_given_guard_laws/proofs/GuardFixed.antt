-- Where terms get conditions, what is fixed stays fixed, at its place.
use Rattle.std.proofs.Common.{◌≡◌, refl, Bool, true, false, ◌&&◌, ◌||◌, not, List}
use Rattle.ess_semantics.specs.Values.{Text}
use Rattle.ess_semantics.specs.Names.{Names}
use Rattle.ess_semantics.specs.Trees.{Ex, Exs, number_ex, truth_ex, name_ex, node_ex, matrix_ex, comp_ex, cell_ex, seen_ex, no_exs, more_exs, Gens, no_gens, over, from, cond, Dom, Doms, bool_dom, int_dom, name_dom, tuple_dom, record_dom, matrix_dom, set_dom, mset_dom, function_dom, relation_dom, partition_dom, no_doms, more_doms}
use Rattle.ess_semantics.proofs.Tests.{and-left, and-right, and-both}
use Rattle.ess_guard_laws.specs.Origins.{Origin, with_any, with_over, known_behind}
use Rattle.ess_guard_laws.specs.Conditions.{matrix_conditions}
use Rattle.ess_guard_laws.specs.Guard.{connects, own_at, opens, passes, guarded, guarded_all, guarded_gens, guarded_dom, guarded_doms, conditions, conditions_all, conditions_gens, conditions_dom, conditions_doms}
use Rattle.ess_given_laws.specs.Given.{all_bound, is_fixed, are_fixed, are_fixed_gens, is_fixed_dom, are_fixed_doms}
use Rattle.ess_given_laws.proofs.FixedTrees.{both-so}
use Rattle.ess_given_conditions_laws.specs.InScope.{bound_as, is_fixed_in, are_fixed_in, are_gens_fixed_in, fixed_behind, is_dom_fixed_in, are_doms_fixed_in}
use Rattle.ess_given_conditions_laws.proofs.ScopedGiven.{Within, within-bound, fixed-scoped}
use Rattle.ess_given_guard_laws.proofs.OwnConditions.{ListHas, has-append, given-has, matrix-has}
use Rattle.ess_given_guard_laws.proofs.BuildsFixed.{F, DF, drawn, builds-fixed, fixed-each, every-over, every-from, own-fixed, node-fixed, cell-fixed, unless-so}

module _ (u : Text → Bool) (natural : Bool) (x y : Text) where
  mutual
    -- A fixed tree.
    pub guard-fixed : (e : Ex) (s : Text → Bool) (k : Names Origin) → Within u s → is_fixed u e ≡ true → F u s (guarded natural x y k e)
    guard-fixed (number_ex n) s k f h = refl
    guard-fixed (truth_ex b) s k f h = refl
    guard-fixed (name_ex a) s k f h = f a h
    guard-fixed (node_ex b op es) s k f h =
        let w = opens natural x y op in let all = guard-all es s k f h in
        node-fixed u natural x y (b && not (connects op)) b op (guarded_all natural x y k es) s _ f
        (has-append (F u s) (conditions_all natural x y k w es)
        (own_at natural x y k false op (guarded_all natural x y k es)) (all-conditions es s k w f h)
        (own-fixed u natural x y k false op (guarded_all natural x y k es) s f
        (fixed-each u (guarded_all natural x y k es) s all))) all
    guard-fixed (matrix_ex es d) s k f h = and-both (are_fixed_in u s (guarded_all natural x y k es))
        (is_dom_fixed_in u s (guarded_dom natural x y k d)) (guard-all es s k f (and-left (are_fixed u es) (is_fixed_dom u d) h))
        (guard-dom d s k f (and-right (are_fixed u es) (is_fixed_dom u d) h))
    guard-fixed (comp_ex e gs) s k f h =
        let i = fixed_behind u s (guarded_gens natural x y k gs) in let r = and-right (is_fixed u e) (are_fixed_gens u gs) h in
        and-both (are_gens_fixed_in u s (guarded_gens natural x y k gs)) (is_fixed_in u i (guarded natural x y (known_behind gs k) e))
        (guard-gens gs s k f r)
        (guard-fixed e i (known_behind gs k) (gens-within gs s k f r) (and-left (is_fixed u e) (are_fixed_gens u gs) h))
    guard-fixed (cell_ex b n es) s k f h = let r = and-right (u n) (are_fixed u es) h in
        cell-fixed u natural x y b n (guarded_all natural x y k es) s (conditions_all natural x y k false es) f
        (and-left (u n) (are_fixed u es) h)
        (all-conditions es s k false f r) (guard-all es s k f r)
    guard-fixed (seen_ex r d ns es) s k f h = fixed-scoped u (seen_ex r d ns es) s f h

    guard-all : (es : Exs) (s : Text → Bool) (k : Names Origin) → Within u s → are_fixed u es ≡ true →
        are_fixed_in u s (guarded_all natural x y k es) ≡ true
    guard-all no_exs s k f h = refl
    guard-all (more_exs e es) s k f h = both-so (is_fixed u e) (are_fixed u es) (is_fixed_in u s (guarded natural x y k e))
        (are_fixed_in u s (guarded_all natural x y k es)) (guard-fixed e s k f) (guard-all es s k f) h

    guard-gens : (gs : Gens) (s : Text → Bool) (k : Names Origin) → Within u s → are_fixed_gens u gs ≡ true →
        are_gens_fixed_in u s (guarded_gens natural x y k gs) ≡ true
    guard-gens no_gens s k f h = refl
    guard-gens (over p d gs) s k f h = let j = with_over p d k in
        both-so (is_fixed_dom u d) (are_fixed_gens u gs) (is_dom_fixed_in u s (guarded_dom natural x y k d))
        (are_gens_fixed_in u (bound_as true p s) (guarded_gens natural x y j gs))
        (guard-dom d s k f) (guard-gens gs (bound_as true p s) j (within-bound u p s f))
        (and-right (all_bound u p) (is_fixed_dom u d && are_fixed_gens u gs) h)
    guard-gens (from p e gs) s k f h =
        let r = and-right (all_bound u p) (is_fixed u e && are_fixed_gens u gs) h in
        let i = guard-fixed e s k f (and-left (is_fixed u e) (are_fixed_gens u gs) r) in
        let b = is_fixed_in u s (guarded natural x y k e) in let j = with_any p k in
        and-both b (are_gens_fixed_in u (bound_as b p s) (guarded_gens natural x y j gs)) i
        (guard-gens gs (bound_as b p s) j (drawn u b p s i f) (and-right (is_fixed u e) (are_fixed_gens u gs) r))
    guard-gens (cond c gs) s k f h = both-so (is_fixed u c) (are_fixed_gens u gs) (is_fixed_in u s (guarded natural x y k c))
        (are_gens_fixed_in u s (guarded_gens natural x y k gs)) (guard-fixed c s k f) (guard-gens gs s k f) h

    -- The names that are fixed behind its generators.
    gens-within : (gs : Gens) (s : Text → Bool) (k : Names Origin) → Within u s → are_fixed_gens u gs ≡ true →
        Within u (fixed_behind u s (guarded_gens natural x y k gs))
    gens-within no_gens s k f h = f
    gens-within (over p d gs) s k f h = gens-within gs (bound_as true p s) (with_over p d k) (within-bound u p s f)
        (and-right (is_fixed_dom u d) (are_fixed_gens u gs) (and-right (all_bound u p) (is_fixed_dom u d && are_fixed_gens u gs) h))
    gens-within (from p e gs) s k f h =
        let r = and-right (all_bound u p) (is_fixed u e && are_fixed_gens u gs) h in
        let i = guard-fixed e s k f (and-left (is_fixed u e) (are_fixed_gens u gs) r) in
        let b = is_fixed_in u s (guarded natural x y k e) in
        gens-within gs (bound_as b p s) (with_any p k) (drawn u b p s i f) (and-right (is_fixed u e) (are_fixed_gens u gs) r)
    gens-within (cond c gs) s k f h = gens-within gs s k f (and-right (is_fixed u c) (are_fixed_gens u gs) h)

    -- A fixed domain.
    pub guard-dom : (d : Dom) (s : Text → Bool) (k : Names Origin) → Within u s → is_fixed_dom u d ≡ true →
        DF u s (guarded_dom natural x y k d)
    guard-dom bool_dom s k f h = refl
    guard-dom (int_dom rs es) s k f h = guard-all es s k f h
    guard-dom (name_dom a) s k f h = refl
    guard-dom (tuple_dom ds) s k f h = guard-doms ds s k f h
    guard-dom (record_dom fs ds) s k f h = guard-doms ds s k f h
    guard-dom (matrix_dom is d) s k f h = both-so (are_fixed_doms u is) (is_fixed_dom u d)
        (are_doms_fixed_in u s (guarded_doms natural x y k is)) (is_dom_fixed_in u s (guarded_dom natural x y k d))
        (guard-doms is s k f) (guard-dom d s k f) h
    guard-dom (set_dom ms es d) s k f h = both-so (are_fixed u es) (is_fixed_dom u d) (are_fixed_in u s (guarded_all natural x y k es))
        (is_dom_fixed_in u s (guarded_dom natural x y k d)) (guard-all es s k f) (guard-dom d s k f) h
    guard-dom (mset_dom ms es d) s k f h = both-so (are_fixed u es) (is_fixed_dom u d) (are_fixed_in u s (guarded_all natural x y k es))
        (is_dom_fixed_in u s (guarded_dom natural x y k d)) (guard-all es s k f) (guard-dom d s k f) h
    guard-dom (function_dom ms es d c) s k f h = both-so (are_fixed u es) (is_fixed_dom u d && is_fixed_dom u c)
        (are_fixed_in u s (guarded_all natural x y k es))
        (is_dom_fixed_in u s (guarded_dom natural x y k d) && is_dom_fixed_in u s (guarded_dom natural x y k c)) (guard-all es s k f)
        (both-so (is_fixed_dom u d) (is_fixed_dom u c) (is_dom_fixed_in u s (guarded_dom natural x y k d))
        (is_dom_fixed_in u s (guarded_dom natural x y k c)) (guard-dom d s k f) (guard-dom c s k f)) h
    guard-dom (relation_dom ms es ds) s k f h = both-so (are_fixed u es) (are_fixed_doms u ds)
        (are_fixed_in u s (guarded_all natural x y k es)) (are_doms_fixed_in u s (guarded_doms natural x y k ds))
        (guard-all es s k f) (guard-doms ds s k f) h
    guard-dom (partition_dom ms es d) s k f h = both-so (are_fixed u es) (is_fixed_dom u d)
        (are_fixed_in u s (guarded_all natural x y k es))
        (is_dom_fixed_in u s (guarded_dom natural x y k d)) (guard-all es s k f) (guard-dom d s k f) h

    guard-doms : (ds : Doms) (s : Text → Bool) (k : Names Origin) → Within u s → are_fixed_doms u ds ≡ true →
        are_doms_fixed_in u s (guarded_doms natural x y k ds) ≡ true
    guard-doms no_doms s k f h = refl
    guard-doms (more_doms d ds) s k f h = both-so (is_fixed_dom u d) (are_fixed_doms u ds)
        (is_dom_fixed_in u s (guarded_dom natural x y k d)) (are_doms_fixed_in u s (guarded_doms natural x y k ds))
        (guard-dom d s k f) (guard-doms ds s k f) h

    -- ---- conditions

    -- The conditions of a term.
    pub fixed-conditions : (e : Ex) (s : Text → Bool) (k : Names Origin) (c : Bool) → Within u s → is_fixed u e ≡ true →
        ListHas (F u s) (conditions natural x y k c e)
    fixed-conditions (number_ex n) s k c f h = tt
    fixed-conditions (truth_ex b) s k c f h = tt
    fixed-conditions (name_ex a) s k c f h = tt
    fixed-conditions (node_ex b op es) s k c f h =
        let w = passes natural x y c op in
        unless-so u natural x y s (b || connects op) _ (has-append (F u s) (conditions_all natural x y k w es)
        (own_at natural x y k c op (guarded_all natural x y k es)) (all-conditions es s k w f h)
        (own-fixed u natural x y k c op (guarded_all natural x y k es) s f
        (fixed-each u (guarded_all natural x y k es) s (guard-all es s k f h))))
    fixed-conditions (matrix_ex es d) s k c f h =
        let r = and-right (are_fixed u es) (is_fixed_dom u d) h in
        has-append (F u s) (conditions_all natural x y k false es) _
        (all-conditions es s k false f (and-left (are_fixed u es) (is_fixed_dom u d) h))
        (has-append (F u s) (conditions_dom natural x y k d) (matrix_conditions x es (guarded_dom natural x y k d))
        (dom-conditions d s k f r) (matrix-has u (F u s) (F u s) (DF u s) (builds-fixed u s f) x es (guarded_dom natural x y k d)
        (guard-dom d s k f r)))
    fixed-conditions (comp_ex e gs) s k c f h = let r = and-right (is_fixed u e) (are_fixed_gens u gs) h in
        gens-conditions gs s k _ f r (fixed-conditions e (fixed_behind u s (guarded_gens natural x y k gs)) (known_behind gs k) false
        (gens-within gs s k f r) (and-left (is_fixed u e) (are_fixed_gens u gs) h))
    fixed-conditions (cell_ex b n es) s k c f h =
        unless-so u natural x y s b (conditions_all natural x y k false es)
        (all-conditions es s k false f (and-right (u n) (are_fixed u es) h))
    fixed-conditions (seen_ex r d ns es) s k c f h = tt

    all-conditions : (es : Exs) (s : Text → Bool) (k : Names Origin) (c : Bool) → Within u s → are_fixed u es ≡ true →
        ListHas (F u s) (conditions_all natural x y k c es)
    all-conditions no_exs s k c f h = tt
    all-conditions (more_exs e es) s k c f h =
        has-append (F u s) (conditions natural x y k c e) (conditions_all natural x y k c es)
        (fixed-conditions e s k c f (and-left (is_fixed u e) (are_fixed u es) h))
        (all-conditions es s k c f (and-right (is_fixed u e) (are_fixed u es) h))

    gens-conditions : (gs : Gens) (s : Text → Bool) (k : Names Origin) (cs : List Ex) → Within u s → are_fixed_gens u gs ≡ true →
        ListHas (F u (fixed_behind u s (guarded_gens natural x y k gs))) cs → ListHas (F u s) (conditions_gens natural x y k gs cs)
    gens-conditions no_gens s k cs f h j = j
    gens-conditions (over p d gs) s k cs f h j =
        let r = and-right (all_bound u p) (is_fixed_dom u d && are_fixed_gens u gs) h in
        let i = and-left (is_fixed_dom u d) (are_fixed_gens u gs) r in
        has-append (F u s) (conditions_dom natural x y k d) _ (dom-conditions d s k f i)
        (every-over u p (guarded_dom natural x y k d) s _ f (guard-dom d s k f i)
        (gens-conditions gs (bound_as true p s) (with_over p d k) cs (within-bound u p s f)
        (and-right (is_fixed_dom u d) (are_fixed_gens u gs) r) j))
    gens-conditions (from p e gs) s k cs f h j =
        let r = and-right (all_bound u p) (is_fixed u e && are_fixed_gens u gs) h in
        let q = and-left (is_fixed u e) (are_fixed_gens u gs) r in
        let i = guard-fixed e s k f q in
        let b = is_fixed_in u s (guarded natural x y k e) in
        has-append (F u s) (conditions natural x y k false e) _ (fixed-conditions e s k false f q)
        (every-from u p (guarded natural x y k e) s _ f i
        (gens-conditions gs (bound_as b p s) (with_any p k) cs (drawn u b p s i f) (and-right (is_fixed u e) (are_fixed_gens u gs) r) j))
    gens-conditions (cond c gs) s k cs f h j =
        given-has u (F u s) (F u s) (DF u s) (builds-fixed u s f) (guarded natural x y k c) (conditions_gens natural x y k gs cs)
        (guard-fixed c s k f (and-left (is_fixed u c) (are_fixed_gens u gs) h))
        (gens-conditions gs s k cs f (and-right (is_fixed u c) (are_fixed_gens u gs) h) j)

    -- The conditions of a domain's numbers.
    pub dom-conditions : (d : Dom) (s : Text → Bool) (k : Names Origin) → Within u s → is_fixed_dom u d ≡ true →
        ListHas (F u s) (conditions_dom natural x y k d)
    dom-conditions bool_dom s k f h = tt
    dom-conditions (int_dom rs es) s k f h = all-conditions es s k false f h
    dom-conditions (name_dom a) s k f h = tt
    dom-conditions (tuple_dom ds) s k f h = doms-conditions ds s k f h
    dom-conditions (record_dom fs ds) s k f h = doms-conditions ds s k f h
    dom-conditions (matrix_dom is d) s k f h = has-append (F u s) (conditions_doms natural x y k is) (conditions_dom natural x y k d)
        (doms-conditions is s k f (and-left (are_fixed_doms u is) (is_fixed_dom u d) h))
        (dom-conditions d s k f (and-right (are_fixed_doms u is) (is_fixed_dom u d) h))
    dom-conditions (set_dom ms es d) s k f h =
        has-append (F u s) (conditions_all natural x y k false es) (conditions_dom natural x y k d)
        (all-conditions es s k false f (and-left (are_fixed u es) (is_fixed_dom u d) h))
        (dom-conditions d s k f (and-right (are_fixed u es) (is_fixed_dom u d) h))
    dom-conditions (mset_dom ms es d) s k f h =
        has-append (F u s) (conditions_all natural x y k false es) (conditions_dom natural x y k d)
        (all-conditions es s k false f (and-left (are_fixed u es) (is_fixed_dom u d) h))
        (dom-conditions d s k f (and-right (are_fixed u es) (is_fixed_dom u d) h))
    dom-conditions (function_dom ms es d c) s k f h =
        let r = and-right (are_fixed u es) (is_fixed_dom u d && is_fixed_dom u c) h in
        has-append (F u s) (conditions_all natural x y k false es) _
        (all-conditions es s k false f (and-left (are_fixed u es) (is_fixed_dom u d && is_fixed_dom u c) h))
        (has-append (F u s) (conditions_dom natural x y k d) (conditions_dom natural x y k c)
        (dom-conditions d s k f (and-left (is_fixed_dom u d) (is_fixed_dom u c) r))
        (dom-conditions c s k f (and-right (is_fixed_dom u d) (is_fixed_dom u c) r)))
    dom-conditions (relation_dom ms es ds) s k f h =
        has-append (F u s) (conditions_all natural x y k false es) (conditions_doms natural x y k ds)
        (all-conditions es s k false f (and-left (are_fixed u es) (are_fixed_doms u ds) h))
        (doms-conditions ds s k f (and-right (are_fixed u es) (are_fixed_doms u ds) h))
    dom-conditions (partition_dom ms es d) s k f h =
        has-append (F u s) (conditions_all natural x y k false es) (conditions_dom natural x y k d)
        (all-conditions es s k false f (and-left (are_fixed u es) (is_fixed_dom u d) h))
        (dom-conditions d s k f (and-right (are_fixed u es) (is_fixed_dom u d) h))

    doms-conditions : (ds : Doms) (s : Text → Bool) (k : Names Origin) → Within u s → are_fixed_doms u ds ≡ true →
        ListHas (F u s) (conditions_doms natural x y k ds)
    doms-conditions no_doms s k f h = tt
    doms-conditions (more_doms d ds) s k f h = has-append (F u s) (conditions_dom natural x y k d) (conditions_doms natural x y k ds)
        (dom-conditions d s k f (and-left (is_fixed_dom u d) (are_fixed_doms u ds) h))
        (doms-conditions ds s k f (and-right (is_fixed_dom u d) (are_fixed_doms u ds) h))
