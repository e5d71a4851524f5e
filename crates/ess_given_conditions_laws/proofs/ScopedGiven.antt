-- What is fixed is fixed at its place, and what is given is given there, where the names that are fixed have those of the set.
use Rattle.std.proofs.Common.{◌≡◌, refl, sym, ap, ◌∙◌, Bool, true, false, ◌&&◌, ◌||◌, not, if◌then◌else◌}
use Rattle.std.specs.List.{list_all}
use Rattle.ess_semantics.specs.Values.{Text}
use Rattle.ess_semantics.specs.Order.{same_text}
use Rattle.ess_semantics.specs.Trees.{Pat, Pats, name_pat, tuple_pat, no_pats, more_pats, Ex, Exs, number_ex, truth_ex, name_ex, node_ex, matrix_ex, comp_ex, cell_ex, seen_ex, no_exs, more_exs, Gens, no_gens, over, from, cond, Dom, Doms, bool_dom, int_dom, name_dom, tuple_dom, record_dom, matrix_dom, set_dom, mset_dom, function_dom, relation_dom, partition_dom, no_doms, more_doms}
use Rattle.ess_semantics.proofs.Texts.{same_text-equal}
use Rattle.ess_semantics.proofs.Tests.{and-left, and-right, and-both}
use Rattle.ess_given_laws.specs.PartsHave.{AllHave, GensHave}
use Rattle.ess_given_laws.specs.Given.{all_bound, none_bound, none_bound_by, is_fixed, are_fixed, are_fixed_gens, is_fixed_dom, are_fixed_doms, given, GivenIn}
use Rattle.ess_given_laws.proofs.FixedTrees.{both-so, then-so}
use Rattle.ess_given_conditions_laws.specs.InScope.{bound_as, all_bound_as, is_fixed_in, are_fixed_in, are_gens_fixed_in, fixed_behind, is_dom_fixed_in, are_doms_fixed_in, is_given_in, are_given_in, are_gens_given_in}

module _ (u : Text → Bool) where
  -- s has what u has.
  abbrev pub Within : (Text → Bool) → Type 0
  Within s = (a : Text) → u a ≡ true → s a ≡ true

  mutual
    pub within-bound : (p : Pat) (s : Text → Bool) → Within s → Within (bound_as true p s)
    within-bound (name_pat a) s f c h = go (same_text a c)
      where
        go : (x : Bool) → (if x then true else s c) ≡ true
        go true = refl
        go false = f c h
    within-bound (tuple_pat ps) s f c h = within-all ps s f c h

    within-all : (ps : Pats) (s : Text → Bool) → Within s → Within (all_bound_as true ps s)
    within-all no_pats s f c h = f c h
    within-all (more_pats p ps) s f c h = within-all ps (bound_as true p s) (within-bound p s f) c h

  mutual
    within-others : (p : Pat) (s : Text → Bool) → none_bound u p ≡ true → Within s → Within (bound_as false p s)
    within-others (name_pat a) s n f c h = go (same_text a c) refl
      where
        no : (b : Bool) → not b ≡ true → b ≡ true → false ≡ true
        no true q r = q
        no false q r = r

        go : (x : Bool) → same_text a c ≡ x → (if x then false else s c) ≡ true
        go true q = no (u a) n (ap u (same_text-equal a c q) ∙ h)
        go false q = f c h
    within-others (tuple_pat ps) s n f c h = within-all-others ps s n f c h

    within-all-others : (ps : Pats) (s : Text → Bool) → none_bound_by u ps ≡ true → Within s → Within (all_bound_as false ps s)
    within-all-others no_pats s n f c h = f c h
    within-all-others (more_pats p ps) s n f c h = within-all-others ps (bound_as false p s)
        (and-right (none_bound u p) (none_bound_by u ps) n) (within-others p s (and-left (none_bound u p) (none_bound_by u ps) n) f) c h

  pub within-drawn : (b : Bool) (p : Pat) (s : Text → Bool) → (b ≡ false → none_bound u p ≡ true) → Within s → Within (bound_as b p s)
  within-drawn true p s g f = within-bound p s f
  within-drawn false p s g f = within-others p s (g refl) f

  none-where-not : (n f b : Bool) → n || f ≡ true → (f ≡ true → b ≡ true) → b ≡ false → n ≡ true
  none-where-not true f b h k q = refl
  none-where-not false true b h k q = let r : true ≡ false = sym (k refl) ∙ q in cc
  none-where-not false false b h k q = cc

  never : (b : Bool) → b ≡ true → {n : Bool} → b ≡ false → n ≡ true
  never true h q = cc
  never false h q = cc

  -- ---- what is fixed

  mutual
    pub fixed-scoped : (e : Ex) (s : Text → Bool) → Within s → is_fixed u e ≡ true → is_fixed_in u s e ≡ true
    fixed-scoped (number_ex n) s f h = refl
    fixed-scoped (truth_ex b) s f h = refl
    fixed-scoped (name_ex a) s f h = f a h
    fixed-scoped (node_ex b op es) s f h = all-scoped es s f h
    fixed-scoped (matrix_ex es d) s f h = both-so (are_fixed u es) (is_fixed_dom u d) (are_fixed_in u s es) (is_dom_fixed_in u s d)
        (all-scoped es s f) (dom-scoped d s f) h
    fixed-scoped (comp_ex e gs) s f h = let k = and-right (is_fixed u e) (are_fixed_gens u gs) h in
        and-both (are_gens_fixed_in u s gs) (is_fixed_in u (fixed_behind u s gs) e) (gens-scoped gs s f k)
        (fixed-scoped e (fixed_behind u s gs) (within-behind gs s f k) (and-left (is_fixed u e) (are_fixed_gens u gs) h))
    fixed-scoped (cell_ex b n es) s f h = then-so (u n) (are_fixed u es) (are_fixed_in u s es) (all-scoped es s f) h
    fixed-scoped (seen_ex r d ns es) s f h =
        then-so (list_all u ns) (is_fixed_dom u d && are_fixed u es) (is_fixed_dom u d && are_fixed_in u s es)
        (then-so (is_fixed_dom u d) (are_fixed u es) (are_fixed_in u s es) (all-scoped es s f)) h

    all-scoped : (es : Exs) (s : Text → Bool) → Within s → are_fixed u es ≡ true → are_fixed_in u s es ≡ true
    all-scoped no_exs s f h = refl
    all-scoped (more_exs e es) s f h = both-so (is_fixed u e) (are_fixed u es) (is_fixed_in u s e) (are_fixed_in u s es)
        (fixed-scoped e s f) (all-scoped es s f) h

    gens-scoped : (gs : Gens) (s : Text → Bool) → Within s → are_fixed_gens u gs ≡ true → are_gens_fixed_in u s gs ≡ true
    gens-scoped no_gens s f h = refl
    gens-scoped (over p d gs) s f h =
        both-so (is_fixed_dom u d) (are_fixed_gens u gs) (is_dom_fixed_in u s d) (are_gens_fixed_in u (bound_as true p s) gs)
        (dom-scoped d s f) (gens-scoped gs (bound_as true p s) (within-bound p s f))
        (and-right (all_bound u p) (is_fixed_dom u d && are_fixed_gens u gs) h)
    gens-scoped (from p e gs) s f h =
        let k = and-right (all_bound u p) (is_fixed u e && are_fixed_gens u gs) h in
        let i = fixed-scoped e s f (and-left (is_fixed u e) (are_fixed_gens u gs) k) in
        and-both (is_fixed_in u s e) (are_gens_fixed_in u (bound_as (is_fixed_in u s e) p s) gs) i
        (gens-scoped gs (bound_as (is_fixed_in u s e) p s) (within-drawn (is_fixed_in u s e) p s (never (is_fixed_in u s e) i) f)
        (and-right (is_fixed u e) (are_fixed_gens u gs) k))
    gens-scoped (cond e gs) s f h = both-so (is_fixed u e) (are_fixed_gens u gs) (is_fixed_in u s e) (are_gens_fixed_in u s gs)
        (fixed-scoped e s f) (gens-scoped gs s f) h

    within-behind : (gs : Gens) (s : Text → Bool) → Within s → are_fixed_gens u gs ≡ true → Within (fixed_behind u s gs)
    within-behind no_gens s f h = f
    within-behind (over p d gs) s f h = within-behind gs (bound_as true p s) (within-bound p s f)
        (and-right (is_fixed_dom u d) (are_fixed_gens u gs) (and-right (all_bound u p) (is_fixed_dom u d && are_fixed_gens u gs) h))
    within-behind (from p e gs) s f h =
        let k = and-right (all_bound u p) (is_fixed u e && are_fixed_gens u gs) h in
        let i = fixed-scoped e s f (and-left (is_fixed u e) (are_fixed_gens u gs) k) in
        within-behind gs (bound_as (is_fixed_in u s e) p s) (within-drawn (is_fixed_in u s e) p s (never (is_fixed_in u s e) i) f)
        (and-right (is_fixed u e) (are_fixed_gens u gs) k)
    within-behind (cond e gs) s f h = within-behind gs s f (and-right (is_fixed u e) (are_fixed_gens u gs) h)

    dom-scoped : (d : Dom) (s : Text → Bool) → Within s → is_fixed_dom u d ≡ true → is_dom_fixed_in u s d ≡ true
    dom-scoped bool_dom s f h = refl
    dom-scoped (int_dom rs es) s f h = all-scoped es s f h
    dom-scoped (name_dom a) s f h = refl
    dom-scoped (tuple_dom ds) s f h = doms-scoped ds s f h
    dom-scoped (record_dom fs ds) s f h = doms-scoped ds s f h
    dom-scoped (matrix_dom is d) s f h = both-so (are_fixed_doms u is) (is_fixed_dom u d) (are_doms_fixed_in u s is) (is_dom_fixed_in u s d)
        (doms-scoped is s f) (dom-scoped d s f) h
    dom-scoped (set_dom ms es d) s f h = both-so (are_fixed u es) (is_fixed_dom u d) (are_fixed_in u s es) (is_dom_fixed_in u s d)
        (all-scoped es s f) (dom-scoped d s f) h
    dom-scoped (mset_dom ms es d) s f h = both-so (are_fixed u es) (is_fixed_dom u d) (are_fixed_in u s es) (is_dom_fixed_in u s d)
        (all-scoped es s f) (dom-scoped d s f) h
    dom-scoped (function_dom ms es d c) s f h =
        both-so (are_fixed u es) (is_fixed_dom u d && is_fixed_dom u c) (are_fixed_in u s es)
        (is_dom_fixed_in u s d && is_dom_fixed_in u s c)
        (all-scoped es s f) (both-so (is_fixed_dom u d) (is_fixed_dom u c) (is_dom_fixed_in u s d) (is_dom_fixed_in u s c)
        (dom-scoped d s f) (dom-scoped c s f)) h
    dom-scoped (relation_dom ms es ds) s f h =
        both-so (are_fixed u es) (are_fixed_doms u ds) (are_fixed_in u s es) (are_doms_fixed_in u s ds)
        (all-scoped es s f) (doms-scoped ds s f) h
    dom-scoped (partition_dom ms es d) s f h = both-so (are_fixed u es) (is_fixed_dom u d) (are_fixed_in u s es) (is_dom_fixed_in u s d)
        (all-scoped es s f) (dom-scoped d s f) h

    doms-scoped : (ds : Doms) (s : Text → Bool) → Within s → are_fixed_doms u ds ≡ true → are_doms_fixed_in u s ds ≡ true
    doms-scoped no_doms s f h = refl
    doms-scoped (more_doms d ds) s f h = both-so (is_fixed_dom u d) (are_fixed_doms u ds) (is_dom_fixed_in u s d) (are_doms_fixed_in u s ds)
        (dom-scoped d s f) (doms-scoped ds s f) h

  -- ---- what is given

  pub drawn-so : (p : Pat) (e : Ex) (s : Text → Bool) → Within s → none_bound u p || is_fixed u e ≡ true →
      is_fixed_in u s e ≡ false → none_bound u p ≡ true
  drawn-so p e s f h = none-where-not (none_bound u p) (is_fixed u e) (is_fixed_in u s e) h (fixed-scoped e s f)

  pub within-given : (gs : Gens) (s : Text → Bool) → Within s → GensHave (given u) gs → Within (fixed_behind u s gs)
  within-given no_gens s f h = f
  within-given (over p d gs) s f h = within-given gs (bound_as true p s) (within-bound p s f) h.2
  within-given (from p e gs) s f h = within-given gs (bound_as (is_fixed_in u s e) p s)
      (within-drawn (is_fixed_in u s e) p s (drawn-so p e s f h.0) f) h.2
  within-given (cond e gs) s f h = within-given gs s f h.1

  mutual
    pub given-scoped : (e : Ex) (s : Text → Bool) → Within s → GivenIn u e → is_given_in u s e ≡ true
    given-scoped (number_ex n) s f h = refl
    given-scoped (truth_ex b) s f h = refl
    given-scoped (name_ex a) s f h = refl
    given-scoped (node_ex b op es) s f h = all-given-scoped es s f h
    given-scoped (matrix_ex es d) s f h =
        and-both (are_given_in u s es) (is_dom_fixed_in u s d) (all-given-scoped es s f h.0) (dom-scoped d s f h.1)
    given-scoped (comp_ex e gs) s f h = and-both (are_gens_given_in u s gs) (is_given_in u (fixed_behind u s gs) e)
        (gens-given-scoped gs s f h.1) (given-scoped e (fixed_behind u s gs) (within-given gs s f h.1) h.0)
    given-scoped (cell_ex b n es) s f h = all-given-scoped es s f h.1
    given-scoped (seen_ex r d ns es) s f h = and-both (is_fixed_dom u d) (are_given_in u s es) h.1 (all-given-scoped es s f h.2)

    all-given-scoped : (es : Exs) (s : Text → Bool) → Within s → AllHave (given u) es → are_given_in u s es ≡ true
    all-given-scoped no_exs s f h = refl
    all-given-scoped (more_exs e es) s f h =
        and-both (is_given_in u s e) (are_given_in u s es) (given-scoped e s f h.0) (all-given-scoped es s f h.1)

    gens-given-scoped : (gs : Gens) (s : Text → Bool) → Within s → GensHave (given u) gs → are_gens_given_in u s gs ≡ true
    gens-given-scoped no_gens s f h = refl
    gens-given-scoped (over p d gs) s f h = and-both (is_dom_fixed_in u s d) (are_gens_given_in u (bound_as true p s) gs)
        (dom-scoped d s f h.1) (gens-given-scoped gs (bound_as true p s) (within-bound p s f) h.2)
    gens-given-scoped (from p e gs) s f h = let b = is_fixed_in u s e in
        and-both (is_given_in u s e) (are_gens_given_in u (bound_as b p s) gs) (given-scoped e s f h.1)
        (gens-given-scoped gs (bound_as b p s) (within-drawn b p s (drawn-so p e s f h.0) f) h.2)
    gens-given-scoped (cond e gs) s f h =
        and-both (is_given_in u s e) (are_gens_given_in u s gs) (given-scoped e s f h.0) (gens-given-scoped gs s f h.1)
