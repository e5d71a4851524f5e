-- Told apart, what is fixed at its place is fixed, and what is given there is given: each new name belongs to what is fixed exactly where
-- the name that it stands for is fixed.
use Rattle.std.proofs.Common.{◌≡◌, refl, ap, ℕ, Bool, true, false, ◌&&◌, ◌||◌, List, [], ◌∷◌, ◌++◌}
use Rattle.std.specs.List.{list_all}
use Rattle.ess_semantics.specs.Values.{Text}
use Rattle.ess_semantics.specs.Names.{Names}
use Rattle.ess_semantics.specs.Trees.{Pat, Ex, Exs, number_ex, truth_ex, name_ex, node_ex, matrix_ex, comp_ex, cell_ex, seen_ex, no_exs, more_exs, Gens, no_gens, over, from, cond, Dom, Doms, bool_dom, int_dom, name_dom, tuple_dom, record_dom, matrix_dom, set_dom, mset_dom, function_dom, relation_dom, partition_dom, no_doms, more_doms}
use Rattle.ess_semantics.proofs.Tests.{and-left, and-right, and-both}
use Rattle.ess_given_laws.specs.conjure_model_laws.ToldApart.{told_pat, told, told_all, told_gens, told_dom, told_doms}
use Rattle.ess_given_laws.specs.PartsHave.{AllHave, GensHave, TablesHave}
use Rattle.ess_given_laws.specs.Given.{all_bound, none_bound, is_fixed, are_fixed, are_fixed_gens, is_fixed_dom, are_fixed_doms, given, GivenIn}
use Rattle.ess_given_laws.proofs.FixedTrees.{both-so}
use Rattle.ess_given_conditions_laws.specs.InScope.{bound_as, is_fixed_in, are_fixed_in, are_gens_fixed_in, fixed_behind, is_dom_fixed_in, are_doms_fixed_in, is_given_in, are_given_in, are_gens_given_in}
use Rattle.ess_given_conditions_laws.proofs.Assigned.{Assigned, at-first, at-later}
use Rattle.ess_given_conditions_laws.proofs.Marks.{mark_pat, marks, marks_all, marks_gens, marks_dom, marks_doms, pat-number, ex-number, all-number, gens-number, dom-number, doms-number}
use Rattle.ess_given_conditions_laws.proofs.MoreFixed.{dom-among}
use Rattle.ess_given_conditions_laws.proofs.ToldPatterns.{Follows, pat-follows, pat-bound, pat-unbound}

-- ---- the parts of what is assigned

module _ (t v : Text → Bool) (more : (a : Text) → t a ≡ true → v a ≡ true) where
  -- The list of marks at a number says what v has, and v follows s.
  abbrev A : ℕ → List Bool → Type 0
  A = Assigned v

  -- Behind generators.
  pub gens-follow : (gs : Gens) (s : Text → Bool) (r : Names Text) (k : ℕ) → Follows v s r → A k (marks_gens t s gs) →
      Follows v (fixed_behind t s gs) (told_gens gs r k).1
  gens-follow no_gens s r k f h = f
  gens-follow (over p d gs) s r k f h =
      let c = (told_dom d r k).1 in let q = told_pat p r c in
      let x = marks_dom t s d in let y = mark_pat true p in let z = marks_gens t (bound_as true p s) gs in
      let j = at-later v k c x (y ++ z) (dom-number t d s r k) h in
      gens-follow gs (bound_as true p s) q.1 q.2 (pat-follows v true p s r c f (at-first v c y z j))
      (at-later v c q.2 y z (pat-number true p r c) j)
  gens-follow (from p e gs) s r k f h =
      let b = is_fixed_in t s e in
      let c = (told e r k).1 in let q = told_pat p r c in
      let x = marks t s e in let y = mark_pat b p in let z = marks_gens t (bound_as b p s) gs in
      let j = at-later v k c x (y ++ z) (ex-number t e s r k) h in
      gens-follow gs (bound_as b p s) q.1 q.2 (pat-follows v b p s r c f (at-first v c y z j))
      (at-later v c q.2 y z (pat-number b p r c) j)
  gens-follow (cond e gs) s r k f h = let c = (told e r k).1 in
      gens-follow gs s r c f (at-later v k c (marks t s e) (marks_gens t s gs) (ex-number t e s r k) h)

  tables-more : (ns : List Text) → list_all t ns ≡ true → list_all v ns ≡ true
  tables-more [] h = refl
  tables-more (n ∷ ns) h = both-so (t n) (list_all t ns) (v n) (list_all v ns) (more n) (tables-more ns) h

  dom-more : (d : Dom) → is_fixed_dom t d ≡ true → is_fixed_dom v d ≡ true
  dom-more d h = dom-among t t v (λ a k q. more a k) d h h

  -- The pattern over what is fixed.
  bound-so : (b : Bool) (p : Pat) (r : Names Text) (k : ℕ) → b ≡ true → A k (mark_pat b p) → all_bound v (told_pat p r k).0 ≡ true
  bound-so true p r k q h = pat-bound v p r k h
  bound-so false p r k q h = cc

  -- ---- what is fixed

  mutual
    pub fixed-told : (e : Ex) (s : Text → Bool) (r : Names Text) (k : ℕ) → Follows v s r → A k (marks t s e) → is_fixed_in t s e ≡ true →
        is_fixed v (told e r k).0 ≡ true
    fixed-told (number_ex n) s r k f a h = refl
    fixed-told (truth_ex b) s r k f a h = refl
    fixed-told (name_ex x) s r k f a h = f x h
    fixed-told (node_ex b op es) s r k f a h = all-told es s r k f a h
    fixed-told (matrix_ex es d) s r k f a h =
        let q = (told_all es r k).1 in let x = marks_all t s es in let y = marks_dom t s d in
        both-so (are_fixed_in t s es) (is_dom_fixed_in t s d) (are_fixed v (told_all es r k).0) (is_fixed_dom v (told_dom d r q).0)
        (all-told es s r k f (at-first v k x y a)) (dom-told d s r q f (at-later v k q x y (all-number t es s r k) a)) h
    fixed-told (comp_ex e gs) s r k f a h =
        let q = told_gens gs r k in let l = fixed_behind t s gs in let x = marks_gens t s gs in let y = marks t l e in
        let i = at-first v k x y a in
        and-both (is_fixed v (told e q.1 q.2).0) (are_fixed_gens v q.0)
        (fixed-told e l q.1 q.2 (gens-follow gs s r k f i) (at-later v k q.2 x y (gens-number t gs s r k) a)
        (and-right (are_gens_fixed_in t s gs) (is_fixed_in t l e) h))
        (gens-told gs s r k f i (and-left (are_gens_fixed_in t s gs) (is_fixed_in t l e) h))
    fixed-told (cell_ex b n es) s r k f a h =
        both-so (t n) (are_fixed_in t s es) (v n) (are_fixed v (told_all es r k).0) (more n) (all-told es s r k f a) h
    fixed-told (seen_ex x d ns es) s r k f a h =
        both-so (list_all t ns) (is_fixed_dom t d && are_fixed_in t s es) (list_all v ns)
        (is_fixed_dom v d && are_fixed v (told_all es r k).0) (tables-more ns)
        (both-so (is_fixed_dom t d) (are_fixed_in t s es) (is_fixed_dom v d) (are_fixed v (told_all es r k).0) (dom-more d)
        (all-told es s r k f a)) h

    all-told : (es : Exs) (s : Text → Bool) (r : Names Text) (k : ℕ) → Follows v s r → A k (marks_all t s es) →
        are_fixed_in t s es ≡ true → are_fixed v (told_all es r k).0 ≡ true
    all-told no_exs s r k f a h = refl
    all-told (more_exs e es) s r k f a h =
        let q = (told e r k).1 in let x = marks t s e in let y = marks_all t s es in
        both-so (is_fixed_in t s e) (are_fixed_in t s es) (is_fixed v (told e r k).0) (are_fixed v (told_all es r q).0)
        (fixed-told e s r k f (at-first v k x y a)) (all-told es s r q f (at-later v k q x y (ex-number t e s r k) a)) h

    gens-told : (gs : Gens) (s : Text → Bool) (r : Names Text) (k : ℕ) → Follows v s r → A k (marks_gens t s gs) →
        are_gens_fixed_in t s gs ≡ true → are_fixed_gens v (told_gens gs r k).0 ≡ true
    gens-told no_gens s r k f a h = refl
    gens-told (over p d gs) s r k f a h =
        let c = (told_dom d r k).1 in let q = told_pat p r c in let i = bound_as true p s in
        let x = marks_dom t s d in let y = mark_pat true p in let z = marks_gens t i gs in
        let j = at-later v k c x (y ++ z) (dom-number t d s r k) a in
        let m = at-first v c y z j in
        and-both (all_bound v q.0) (is_fixed_dom v (told_dom d r k).0 && are_fixed_gens v (told_gens gs q.1 q.2).0) (pat-bound v p r c m)
        (both-so (is_dom_fixed_in t s d) (are_gens_fixed_in t i gs) (is_fixed_dom v (told_dom d r k).0)
        (are_fixed_gens v (told_gens gs q.1 q.2).0) (dom-told d s r k f (at-first v k x (y ++ z) a))
        (gens-told gs i q.1 q.2 (pat-follows v true p s r c f m) (at-later v c q.2 y z (pat-number true p r c) j)) h)
    gens-told (from p e gs) s r k f a h =
        let b = is_fixed_in t s e in let i = bound_as b p s in
        let c = (told e r k).1 in let q = told_pat p r c in
        let x = marks t s e in let y = mark_pat b p in let z = marks_gens t i gs in
        let j = at-later v k c x (y ++ z) (ex-number t e s r k) a in
        let m = at-first v c y z j in
        and-both (all_bound v q.0) (is_fixed v (told e r k).0 && are_fixed_gens v (told_gens gs q.1 q.2).0)
        (bound-so b p r c (and-left b (are_gens_fixed_in t i gs) h) m)
        (both-so b (are_gens_fixed_in t i gs) (is_fixed v (told e r k).0)
        (are_fixed_gens v (told_gens gs q.1 q.2).0) (fixed-told e s r k f (at-first v k x (y ++ z) a))
        (gens-told gs i q.1 q.2 (pat-follows v b p s r c f m) (at-later v c q.2 y z (pat-number b p r c) j)) h)
    gens-told (cond e gs) s r k f a h =
        let c = (told e r k).1 in let x = marks t s e in let y = marks_gens t s gs in
        both-so (is_fixed_in t s e) (are_gens_fixed_in t s gs) (is_fixed v (told e r k).0) (are_fixed_gens v (told_gens gs r c).0)
        (fixed-told e s r k f (at-first v k x y a)) (gens-told gs s r c f (at-later v k c x y (ex-number t e s r k) a)) h

    dom-told : (d : Dom) (s : Text → Bool) (r : Names Text) (k : ℕ) → Follows v s r → A k (marks_dom t s d) →
        is_dom_fixed_in t s d ≡ true → is_fixed_dom v (told_dom d r k).0 ≡ true
    dom-told bool_dom s r k f a h = refl
    dom-told (int_dom rs es) s r k f a h = all-told es s r k f a h
    dom-told (name_dom n) s r k f a h = refl
    dom-told (tuple_dom ds) s r k f a h = doms-told ds s r k f a h
    dom-told (record_dom fs ds) s r k f a h = doms-told ds s r k f a h
    dom-told (matrix_dom is d) s r k f a h =
        let q = (told_doms is r k).1 in let x = marks_doms t s is in let y = marks_dom t s d in
        both-so (are_doms_fixed_in t s is) (is_dom_fixed_in t s d) (are_fixed_doms v (told_doms is r k).0)
        (is_fixed_dom v (told_dom d r q).0)
        (doms-told is s r k f (at-first v k x y a)) (dom-told d s r q f (at-later v k q x y (doms-number t is s r k) a)) h
    dom-told (set_dom ms es d) s r k f a h =
        let q = (told_all es r k).1 in let x = marks_all t s es in let y = marks_dom t s d in
        both-so (are_fixed_in t s es) (is_dom_fixed_in t s d) (are_fixed v (told_all es r k).0) (is_fixed_dom v (told_dom d r q).0)
        (all-told es s r k f (at-first v k x y a)) (dom-told d s r q f (at-later v k q x y (all-number t es s r k) a)) h
    dom-told (mset_dom ms es d) s r k f a h =
        let q = (told_all es r k).1 in let x = marks_all t s es in let y = marks_dom t s d in
        both-so (are_fixed_in t s es) (is_dom_fixed_in t s d) (are_fixed v (told_all es r k).0) (is_fixed_dom v (told_dom d r q).0)
        (all-told es s r k f (at-first v k x y a)) (dom-told d s r q f (at-later v k q x y (all-number t es s r k) a)) h
    dom-told (function_dom ms es d c) s r k f a h =
        let q = (told_all es r k).1 in let o = (told_dom d r q).1 in
        let x = marks_all t s es in let y = marks_dom t s d in let z = marks_dom t s c in
        let j = at-later v k q x (y ++ z) (all-number t es s r k) a in
        both-so (are_fixed_in t s es) (is_dom_fixed_in t s d && is_dom_fixed_in t s c) (are_fixed v (told_all es r k).0)
        (is_fixed_dom v (told_dom d r q).0 && is_fixed_dom v (told_dom c r o).0) (all-told es s r k f (at-first v k x (y ++ z) a))
        (both-so (is_dom_fixed_in t s d) (is_dom_fixed_in t s c) (is_fixed_dom v (told_dom d r q).0) (is_fixed_dom v (told_dom c r o).0)
        (dom-told d s r q f (at-first v q y z j)) (dom-told c s r o f (at-later v q o y z (dom-number t d s r q) j))) h
    dom-told (relation_dom ms es ds) s r k f a h =
        let q = (told_all es r k).1 in let x = marks_all t s es in let y = marks_doms t s ds in
        both-so (are_fixed_in t s es) (are_doms_fixed_in t s ds) (are_fixed v (told_all es r k).0) (are_fixed_doms v (told_doms ds r q).0)
        (all-told es s r k f (at-first v k x y a)) (doms-told ds s r q f (at-later v k q x y (all-number t es s r k) a)) h
    dom-told (partition_dom ms es d) s r k f a h =
        let q = (told_all es r k).1 in let x = marks_all t s es in let y = marks_dom t s d in
        both-so (are_fixed_in t s es) (is_dom_fixed_in t s d) (are_fixed v (told_all es r k).0) (is_fixed_dom v (told_dom d r q).0)
        (all-told es s r k f (at-first v k x y a)) (dom-told d s r q f (at-later v k q x y (all-number t es s r k) a)) h

    doms-told : (ds : Doms) (s : Text → Bool) (r : Names Text) (k : ℕ) → Follows v s r → A k (marks_doms t s ds) →
        are_doms_fixed_in t s ds ≡ true → are_fixed_doms v (told_doms ds r k).0 ≡ true
    doms-told no_doms s r k f a h = refl
    doms-told (more_doms d ds) s r k f a h =
        let q = (told_dom d r k).1 in let x = marks_dom t s d in let y = marks_doms t s ds in
        both-so (is_dom_fixed_in t s d) (are_doms_fixed_in t s ds) (is_fixed_dom v (told_dom d r k).0)
        (are_fixed_doms v (told_doms ds r q).0)
        (dom-told d s r k f (at-first v k x y a)) (doms-told ds s r q f (at-later v k q x y (dom-number t d s r k) a)) h

  -- ---- what is given

  or-second : (a b : Bool) → b ≡ true → a || b ≡ true
  or-second true b h = refl
  or-second false b h = h

  or-first : (a b : Bool) → a ≡ true → a || b ≡ true
  or-first true b h = refl
  or-first false b h = cc

  tables-any : (ns : List Text) → TablesHave (given v) ns
  tables-any [] = tt
  tables-any (n ∷ ns) = (refl, tables-any ns)

  -- A pattern over a source.
  draws : (b : Bool) (p : Pat) (r : Names Text) (c : ℕ) (e : Ex) → (b ≡ true → is_fixed v e ≡ true) → A c (mark_pat b p) →
      none_bound v (told_pat p r c).0 || is_fixed v e ≡ true
  draws true p r c e g a = or-second (none_bound v (told_pat p r c).0) (is_fixed v e) (g refl)
  draws false p r c e g a = or-first (none_bound v (told_pat p r c).0) (is_fixed v e) (pat-unbound v p r c a)

  mutual
    pub given-told : (e : Ex) (s : Text → Bool) (r : Names Text) (k : ℕ) → Follows v s r → A k (marks t s e) → is_given_in t s e ≡ true →
        GivenIn v (told e r k).0
    given-told (number_ex n) s r k f a h = tt
    given-told (truth_ex b) s r k f a h = tt
    given-told (name_ex x) s r k f a h = refl
    given-told (node_ex b op es) s r k f a h = all-given-told es s r k f a h
    given-told (matrix_ex es d) s r k f a h =
        let q = (told_all es r k).1 in let x = marks_all t s es in let y = marks_dom t s d in (
          all-given-told es s r k f (at-first v k x y a) (and-left (are_given_in t s es) (is_dom_fixed_in t s d) h),
          dom-told d s r q f (at-later v k q x y (all-number t es s r k) a) (and-right (are_given_in t s es) (is_dom_fixed_in t s d) h),
        )
    given-told (comp_ex e gs) s r k f a h =
        let q = told_gens gs r k in let l = fixed_behind t s gs in let x = marks_gens t s gs in let y = marks t l e in
        let i = at-first v k x y a in (
          given-told e l q.1 q.2 (gens-follow gs s r k f i) (at-later v k q.2 x y (gens-number t gs s r k) a)
              (and-right (are_gens_given_in t s gs) (is_given_in t l e) h),
          gens-given-told gs s r k f i (and-left (are_gens_given_in t s gs) (is_given_in t l e) h),
        )
    given-told (cell_ex b n es) s r k f a h = (refl, all-given-told es s r k f a h)
    given-told (seen_ex x d ns es) s r k f a h = (
      tables-any ns,
      dom-more d (and-left (is_fixed_dom t d) (are_given_in t s es) h),
      all-given-told es s r k f a (and-right (is_fixed_dom t d) (are_given_in t s es) h),
    )

    all-given-told : (es : Exs) (s : Text → Bool) (r : Names Text) (k : ℕ) → Follows v s r → A k (marks_all t s es) →
        are_given_in t s es ≡ true → AllHave (given v) (told_all es r k).0
    all-given-told no_exs s r k f a h = tt
    all-given-told (more_exs e es) s r k f a h =
        let q = (told e r k).1 in let x = marks t s e in let y = marks_all t s es in (
          given-told e s r k f (at-first v k x y a) (and-left (is_given_in t s e) (are_given_in t s es) h),
          all-given-told es s r q f (at-later v k q x y (ex-number t e s r k) a) (and-right (is_given_in t s e) (are_given_in t s es) h),
        )

    gens-given-told : (gs : Gens) (s : Text → Bool) (r : Names Text) (k : ℕ) → Follows v s r → A k (marks_gens t s gs) →
        are_gens_given_in t s gs ≡ true → GensHave (given v) (told_gens gs r k).0
    gens-given-told no_gens s r k f a h = tt
    gens-given-told (over p d gs) s r k f a h =
        let c = (told_dom d r k).1 in let q = told_pat p r c in let i = bound_as true p s in
        let x = marks_dom t s d in let y = mark_pat true p in let z = marks_gens t i gs in
        let j = at-later v k c x (y ++ z) (dom-number t d s r k) a in (
          refl,
          dom-told d s r k f (at-first v k x (y ++ z) a) (and-left (is_dom_fixed_in t s d) (are_gens_given_in t i gs) h),
          gens-given-told gs i q.1 q.2 (pat-follows v true p s r c f (at-first v c y z j))
              (at-later v c q.2 y z (pat-number true p r c) j) (and-right (is_dom_fixed_in t s d) (are_gens_given_in t i gs) h),
        )
    gens-given-told (from p e gs) s r k f a h =
        let b = is_fixed_in t s e in let i = bound_as b p s in
        let c = (told e r k).1 in let q = told_pat p r c in
        let x = marks t s e in let y = mark_pat b p in let z = marks_gens t i gs in
        let o = at-first v k x (y ++ z) a in
        let j = at-later v k c x (y ++ z) (ex-number t e s r k) a in
        let m = at-first v c y z j in (
          draws b p r c (told e r k).0 (fixed-told e s r k f o) m,
          given-told e s r k f o (and-left (is_given_in t s e) (are_gens_given_in t i gs) h),
          gens-given-told gs i q.1 q.2 (pat-follows v b p s r c f m) (at-later v c q.2 y z (pat-number b p r c) j)
              (and-right (is_given_in t s e) (are_gens_given_in t i gs) h),
        )
    gens-given-told (cond e gs) s r k f a h =
        let c = (told e r k).1 in let x = marks t s e in let y = marks_gens t s gs in (
          given-told e s r k f (at-first v k x y a) (and-left (is_given_in t s e) (are_gens_given_in t s gs) h),
          gens-given-told gs s r c f (at-later v k c x y (ex-number t e s r k) a)
              (and-right (is_given_in t s e) (are_gens_given_in t s gs) h),
        )
