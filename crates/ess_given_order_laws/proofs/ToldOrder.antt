-- Told apart, comprehensions where order counts stay in order, and so they do where more names belong to what is fixed.
use Rattle.std.proofs.Common.{◌≡◌, refl, ℕ, Bool, true, false, ◌&&◌, ◌++◌}
use Rattle.std.specs.List.{list_all}
use Rattle.ess_semantics.specs.Values.{Text}
use Rattle.ess_semantics.specs.Names.{Names}
use Rattle.ess_semantics.specs.Trees.{Ex, Exs, number_ex, truth_ex, name_ex, node_ex, matrix_ex, comp_ex, cell_ex, seen_ex, no_exs, more_exs, Gens, no_gens, over, from, cond}
use Rattle.ess_semantics.specs.ExpressionJudgements.{forgets_order}
use Rattle.ess_semantics.proofs.Tests.{and-left, and-right, and-both}
use Rattle.ess_given_laws.specs.conjure_model_laws.ToldApart.{told_pat, told, told_all, told_gens, told_dom}
use Rattle.ess_given_laws.specs.PartsHave.{AllHave, GensHave}
use Rattle.ess_given_laws.specs.Given.{all_bound, is_fixed, are_fixed, are_fixed_gens, is_fixed_dom, given, GivenIn}
use Rattle.ess_given_laws.proofs.FixedTrees.{both-so}
use Rattle.ess_given_conditions_laws.specs.InScope.{bound_as, is_fixed_in, fixed_behind}
use Rattle.ess_given_conditions_laws.proofs.Assigned.{Assigned, at-first, at-later}
use Rattle.ess_given_conditions_laws.proofs.Marks.{mark_pat, marks, marks_all, marks_gens, marks_dom, pat-number, ex-number, gens-number, dom-number}
use Rattle.ess_given_conditions_laws.proofs.MoreFixed.{fixed-among}
use Rattle.ess_given_conditions_laws.proofs.ToldPatterns.{Follows, pat-follows}
use Rattle.ess_given_conditions_laws.proofs.ToldGiven.{gens-follow, fixed-told}
use Rattle.ess_given_conditions_laws.proofs.ScopedGiven.{Within, within-bound, within-drawn, drawn-so, within-given, fixed-scoped}
use Rattle.ess_given_order_laws.specs.InOrder.{in_order, gens_in_order, Ordered, AllOrdered, GensOrdered}

-- u are the names that are fixed in the tree, v those of the tree that is told apart.
module _ (u v : Text → Bool) (more : (a : Text) → u a ≡ true → v a ≡ true) where
  mutual
    pub in-told : (e : Ex) (s : Text → Bool) (r : Names Text) (k : ℕ) → Follows v s r → Within u s → Assigned v k (marks u s e) →
        GivenIn u e → in_order u e ≡ true → in_order v (told e r k).0 ≡ true
    in-told (number_ex n) s r k f w a g h = refl
    in-told (truth_ex b) s r k f w a g h = refl
    in-told (name_ex x) s r k f w a g h = refl
    in-told (node_ex b op es) s r k f w a g h = refl
    in-told (matrix_ex es d) s r k f w a g h = refl
    in-told (comp_ex e gs) s r k f w a g h =
        gens-in-told gs s r k f w (at-first v k (marks_gens u s gs) (marks u (fixed_behind u s gs) e) a) g.1 h
    in-told (cell_ex b n es) s r k f w a g h = refl
    in-told (seen_ex x d ns es) s r k f w a g h = refl

    gens-in-told : (gs : Gens) (s : Text → Bool) (r : Names Text) (k : ℕ) → Follows v s r → Within u s → Assigned v k (marks_gens u s gs) →
        GensHave (given u) gs → gens_in_order u gs ≡ true → gens_in_order v (told_gens gs r k).0 ≡ true
    gens-in-told no_gens s r k f w a g h = refl
    gens-in-told (over p d gs) s r k f w a g h =
        let c = (told_dom d r k).1 in let q = told_pat p r c in let i = bound_as true p s in
        let x = marks_dom u s d in let y = mark_pat true p in let z = marks_gens u i gs in
        let j = at-later v k c x (y ++ z) (dom-number u d s r k) a in
        gens-in-told gs i q.1 q.2 (pat-follows v true p s r c f (at-first v c y z j)) (within-bound u p s w)
        (at-later v c q.2 y z (pat-number true p r c) j) g.2 h
    gens-in-told (from p e gs) s r k f w a g h =
        let b = is_fixed_in u s e in let i = bound_as b p s in
        let c = (told e r k).1 in let q = told_pat p r c in
        let x = marks u s e in let y = mark_pat b p in let z = marks_gens u i gs in
        let o = at-first v k x (y ++ z) a in
        let j = at-later v k c x (y ++ z) (ex-number u e s r k) a in
        and-both (in_order v (told e r k).0) (gens_in_order v (told_gens gs q.1 q.2).0)
        (in-told e s r k f w o g.1 (and-left (in_order u e) (gens_in_order u gs) h))
        (gens-in-told gs i q.1 q.2 (pat-follows v b p s r c f (at-first v c y z j)) (within-drawn u b p s (drawn-so u p e s w g.0) w)
        (at-later v c q.2 y z (pat-number b p r c) j) g.2 (and-right (in_order u e) (gens_in_order u gs) h))
    gens-in-told (cond c gs) s r k f w a g h =
        let m = (told c r k).1 in let x = marks u s c in let y = marks_gens u s gs in
        and-both (is_fixed v (told c r k).0) (gens_in_order v (told_gens gs r m).0)
        (fixed-told u v more c s r k f (at-first v k x y a) (fixed-scoped u c s w (and-left (is_fixed u c) (gens_in_order u gs) h)))
        (gens-in-told gs s r m f w (at-later v k m x y (ex-number u c s r k) a) g.1 (and-right (is_fixed u c) (gens_in_order u gs) h))

  mutual
    pub order-told : (e : Ex) (s : Text → Bool) (r : Names Text) (k : ℕ) → Follows v s r → Within u s → Assigned v k (marks u s e) →
        GivenIn u e → Ordered u e → Ordered v (told e r k).0
    order-told (number_ex n) s r k f w a g h = tt
    order-told (truth_ex b) s r k f w a g h = tt
    order-told (name_ex x) s r k f w a g h = tt
    order-told (node_ex b op es) s r k f w a g h = all-told es (forgets_order op) s r k f w a g h
    order-told (matrix_ex es d) s r k f w a g h =
        all-told es false s r k f w (at-first v k (marks_all u s es) (marks_dom u s d) a) g.0 h
    order-told (comp_ex e gs) s r k f w a g h =
        let q = told_gens gs r k in let l = fixed_behind u s gs in let x = marks_gens u s gs in let y = marks u l e in
        let i = at-first v k x y a in let j = at-later v k q.2 x y (gens-number u gs s r k) a in
        let m = gens-follow u v more gs s r k f i in let o = within-given u gs s w g.1 in (
          (in-told e l q.1 q.2 m o j g.0 h.0.0, order-told e l q.1 q.2 m o j g.0 h.0.1),
          gens-order-told gs s r k f w i g.1 h.1,
        )
    order-told (cell_ex b n es) s r k f w a g h = all-told es false s r k f w a g.1 h
    order-told (seen_ex x d ns es) s r k f w a g h = all-told es false s r k f w a g.2 h

    all-told : (es : Exs) (c : Bool) (s : Text → Bool) (r : Names Text) (k : ℕ) → Follows v s r → Within u s → Assigned v k
        (marks_all u s es) →
        AllHave (given u) es → AllOrdered u es c → AllOrdered v (told_all es r k).0 c
    all-told no_exs c s r k f w a g h = tt
    all-told (more_exs e es) true s r k f w a g h =
        let q = (told e r k).1 in let x = marks u s e in let y = marks_all u s es in (
          order-told e s r k f w (at-first v k x y a) g.0 h.0,
          all-told es true s r q f w (at-later v k q x y (ex-number u e s r k) a) g.1 h.1,
        )
    all-told (more_exs e es) false s r k f w a g h =
        let q = (told e r k).1 in let x = marks u s e in let y = marks_all u s es in (
          (in-told e s r k f w (at-first v k x y a) g.0 h.0.0, order-told e s r k f w (at-first v k x y a) g.0 h.0.1),
          all-told es false s r q f w (at-later v k q x y (ex-number u e s r k) a) g.1 h.1,
        )

    gens-order-told : (gs : Gens) (s : Text → Bool) (r : Names Text) (k : ℕ) → Follows v s r → Within u s → Assigned v k
        (marks_gens u s gs) →
        GensHave (given u) gs → GensOrdered u gs → GensOrdered v (told_gens gs r k).0
    gens-order-told no_gens s r k f w a g h = tt
    gens-order-told (over p d gs) s r k f w a g h =
        let c = (told_dom d r k).1 in let q = told_pat p r c in let i = bound_as true p s in
        let x = marks_dom u s d in let y = mark_pat true p in let z = marks_gens u i gs in
        let j = at-later v k c x (y ++ z) (dom-number u d s r k) a in
        gens-order-told gs i q.1 q.2 (pat-follows v true p s r c f (at-first v c y z j)) (within-bound u p s w)
        (at-later v c q.2 y z (pat-number true p r c) j) g.2 h
    gens-order-told (from p e gs) s r k f w a g h =
        let b = is_fixed_in u s e in let i = bound_as b p s in
        let c = (told e r k).1 in let q = told_pat p r c in
        let x = marks u s e in let y = mark_pat b p in let z = marks_gens u i gs in
        let j = at-later v k c x (y ++ z) (ex-number u e s r k) a in (
          order-told e s r k f w (at-first v k x (y ++ z) a) g.1 h.0,
          gens-order-told gs i q.1 q.2 (pat-follows v b p s r c f (at-first v c y z j)) (within-drawn u b p s (drawn-so u p e s w g.0) w)
              (at-later v c q.2 y z (pat-number b p r c) j) g.2 h.1,
        )
    gens-order-told (cond c gs) s r k f w a g h =
        let m = (told c r k).1 in let x = marks u s c in let y = marks_gens u s gs in (
          (in-told c s r k f w (at-first v k x y a) g.0 h.0.0, order-told c s r k f w (at-first v k x y a) g.0 h.0.1),
          gens-order-told gs s r m f w (at-later v k m x y (ex-number u c s r k) a) g.1 h.1,
        )

-- ---- more names

-- w are the names of the tree; v has of them what u has.
module _ (w u v : Text → Bool) (more : (a : Text) → w a ≡ true → u a ≡ true → v a ≡ true) where
  mutual
    pub in-among : (e : Ex) → is_fixed w e ≡ true → in_order u e ≡ true → in_order v e ≡ true
    in-among (number_ex n) k h = refl
    in-among (truth_ex b) k h = refl
    in-among (name_ex x) k h = refl
    in-among (node_ex b op es) k h = refl
    in-among (matrix_ex es d) k h = refl
    in-among (comp_ex e gs) k h = gens-in-among gs (and-right (is_fixed w e) (are_fixed_gens w gs) k) h
    in-among (cell_ex b n es) k h = refl
    in-among (seen_ex x d ns es) k h = refl

    gens-in-among : (gs : Gens) → are_fixed_gens w gs ≡ true → gens_in_order u gs ≡ true → gens_in_order v gs ≡ true
    gens-in-among no_gens k h = refl
    gens-in-among (over p d gs) k h = gens-in-among gs (and-right (is_fixed_dom w d) (are_fixed_gens w gs)
        (and-right (all_bound w p) (is_fixed_dom w d && are_fixed_gens w gs) k)) h
    gens-in-among (from p e gs) k h =
        let j = and-right (all_bound w p) (is_fixed w e && are_fixed_gens w gs) k in
        both-so (in_order u e) (gens_in_order u gs) (in_order v e) (gens_in_order v gs)
        (in-among e (and-left (is_fixed w e) (are_fixed_gens w gs) j)) (gens-in-among gs
        (and-right (is_fixed w e) (are_fixed_gens w gs) j)) h
    gens-in-among (cond c gs) k h = both-so (is_fixed u c) (gens_in_order u gs) (is_fixed v c) (gens_in_order v gs)
        (fixed-among w u v more c (and-left (is_fixed w c) (are_fixed_gens w gs) k))
        (gens-in-among gs (and-right (is_fixed w c) (are_fixed_gens w gs) k)) h

  mutual
    pub order-among : (e : Ex) → is_fixed w e ≡ true → Ordered u e → Ordered v e
    order-among (number_ex n) k h = tt
    order-among (truth_ex b) k h = tt
    order-among (name_ex x) k h = tt
    order-among (node_ex b op es) k h = all-among es (forgets_order op) k h
    order-among (matrix_ex es d) k h = all-among es false (and-left (are_fixed w es) (is_fixed_dom w d) k) h
    order-among (comp_ex e gs) k h = let j = and-left (is_fixed w e) (are_fixed_gens w gs) k in
        ((in-among e j h.0.0, order-among e j h.0.1), gens-order-among gs (and-right (is_fixed w e) (are_fixed_gens w gs) k) h.1)
    order-among (cell_ex b n es) k h = all-among es false (and-right (w n) (are_fixed w es) k) h
    order-among (seen_ex x d ns es) k h = all-among es false (and-right (is_fixed_dom w d) (are_fixed w es)
        (and-right (list_all w ns) (is_fixed_dom w d && are_fixed w es) k)) h

    all-among : (es : Exs) (c : Bool) → are_fixed w es ≡ true → AllOrdered u es c → AllOrdered v es c
    all-among no_exs c k h = tt
    all-among (more_exs e es) true k h = (
      order-among e (and-left (is_fixed w e) (are_fixed w es) k) h.0,
      all-among es true (and-right (is_fixed w e) (are_fixed w es) k) h.1,
    )
    all-among (more_exs e es) false k h = let j = and-left (is_fixed w e) (are_fixed w es) k in (
      (in-among e j h.0.0, order-among e j h.0.1),
      all-among es false (and-right (is_fixed w e) (are_fixed w es) k) h.1,
    )

    gens-order-among : (gs : Gens) → are_fixed_gens w gs ≡ true → GensOrdered u gs → GensOrdered v gs
    gens-order-among no_gens k h = tt
    gens-order-among (over p d gs) k h = gens-order-among gs (and-right (is_fixed_dom w d) (are_fixed_gens w gs)
        (and-right (all_bound w p) (is_fixed_dom w d && are_fixed_gens w gs) k)) h
    gens-order-among (from p e gs) k h = let j = and-right (all_bound w p) (is_fixed w e && are_fixed_gens w gs) k in (
      order-among e (and-left (is_fixed w e) (are_fixed_gens w gs) j) h.0,
      gens-order-among gs (and-right (is_fixed w e) (are_fixed_gens w gs) j) h.1,
    )
    gens-order-among (cond c gs) k h = let j = and-left (is_fixed w c) (are_fixed_gens w gs) k in (
      (in-among c j h.0.0, order-among c j h.0.1),
      gens-order-among gs (and-right (is_fixed w c) (are_fixed_gens w gs) k) h.1,
    )
