-- From trees in order at their places to refined trees whose conditions read given tables.
use Rattle.std.proofs.Common.{◌≡◌, refl, ℕ, ◌+◌, ◌≤◌, ◌^◌, Bool, true, false, ◌&&◌, [], ◌++◌, length, arith}
use Rattle.ess_semantics.specs.Values.{Text}
use Rattle.ess_semantics.specs.Names.{Names}
use Rattle.ess_semantics.specs.Trees.{Ex, Exs, number_ex, truth_ex, name_ex, node_ex, matrix_ex, comp_ex, cell_ex, seen_ex, no_exs, more_exs, Gens, no_gens, over, from, cond}
use Rattle.ess_semantics.specs.Types.{Ty}
use Rattle.ess_semantics.specs.ExpressionJudgements.{forgets_order}
use Rattle.ess_semantics.specs.Refined.{is_refined}
use Rattle.ess_semantics.proofs.Tests.{and-left, and-right, and-both}
use Rattle.ess_given_laws.specs.conjure_model_laws.ToldApart.{told_pat, told, told_all, told_gens, told_dom, told_apart}
use Rattle.ess_given_laws.specs.ess_chain_names_laws.Steps.{Chain}
use Rattle.ess_given_laws.proofs.ess_chain_names_laws.ToldNames.{ex-up}
use Rattle.ess_given_laws.specs.Given.{is_fixed}
use Rattle.ess_given_conditions_laws.specs.InScope.{bound_as, is_fixed_in, fixed_behind, is_given_in}
use Rattle.ess_given_conditions_laws.specs.GrowingNames.{HasNoneFrom, Grows}
use Rattle.ess_given_conditions_laws.specs.GivenChains.{IsGivenStep, SparesAll}
use Rattle.ess_given_conditions_laws.specs.ConditionsEnd.{SettledIn}
use Rattle.ess_given_conditions_laws.proofs.Assigned.{assigned, Assigned, at-first, at-later, as-assigned, assigned-grows}
use Rattle.ess_given_conditions_laws.proofs.Marks.{mark_pat, marks, marks_all, marks_gens, marks_dom, pat-number, ex-number, gens-number, dom-number}
use Rattle.ess_given_conditions_laws.proofs.ToldPatterns.{Follows, pat-follows}
use Rattle.ess_given_conditions_laws.proofs.ToldGiven.{gens-follow, fixed-told, given-told}
use Rattle.ess_given_conditions_laws.proofs.GivenSteps.{spares-told}
use Rattle.ess_given_conditions_laws.proofs.GivenChains.{chain-up, grows-on}
use Rattle.ess_given_order_laws.specs.InOrder.{in_order, gens_in_order, Ordered, AllOrdered, GensOrdered}
use Rattle.ess_given_order_laws.specs.OrderEnds.{AllGiven}
use Rattle.ess_given_order_laws.specs.OrderInScope.{is_in_order_in, are_gens_in_order_in, is_ordered_in, are_ordered_in, are_gens_ordered_in, OrderedApart, GivenStaysInConditions}
use Rattle.ess_given_order_laws.proofs.OrderEnds.{order-ends}

module _ (t v : Text → Bool) (more : (a : Text) → t a ≡ true → v a ≡ true) where
  mutual
    in-apart : (e : Ex) (s : Text → Bool) (r : Names Text) (k : ℕ) → Follows v s r → Assigned v k (marks t s e) →
        is_in_order_in t s e ≡ true → in_order v (told e r k).0 ≡ true
    in-apart (number_ex n) s r k f a h = refl
    in-apart (truth_ex b) s r k f a h = refl
    in-apart (name_ex x) s r k f a h = refl
    in-apart (node_ex b op es) s r k f a h = refl
    in-apart (matrix_ex es d) s r k f a h = refl
    in-apart (comp_ex e gs) s r k f a h = gens-in-apart gs s r k f (at-first v k (marks_gens t s gs) (marks t (fixed_behind t s gs) e) a) h
    in-apart (cell_ex b n es) s r k f a h = refl
    in-apart (seen_ex x d ns es) s r k f a h = refl

    gens-in-apart : (gs : Gens) (s : Text → Bool) (r : Names Text) (k : ℕ) → Follows v s r → Assigned v k (marks_gens t s gs) →
        are_gens_in_order_in t s gs ≡ true → gens_in_order v (told_gens gs r k).0 ≡ true
    gens-in-apart no_gens s r k f a h = refl
    gens-in-apart (over p d gs) s r k f a h =
        let c = (told_dom d r k).1 in let q = told_pat p r c in let i = bound_as true p s in
        let x = marks_dom t s d in let y = mark_pat true p in let z = marks_gens t i gs in
        let j = at-later v k c x (y ++ z) (dom-number t d s r k) a in
        gens-in-apart gs i q.1 q.2 (pat-follows v true p s r c f (at-first v c y z j)) (at-later v c q.2 y z (pat-number true p r c) j) h
    gens-in-apart (from p e gs) s r k f a h =
        let b = is_fixed_in t s e in let i = bound_as b p s in
        let c = (told e r k).1 in let q = told_pat p r c in
        let x = marks t s e in let y = mark_pat b p in let z = marks_gens t i gs in
        let j = at-later v k c x (y ++ z) (ex-number t e s r k) a in
        and-both (in_order v (told e r k).0) (gens_in_order v (told_gens gs q.1 q.2).0)
        (in-apart e s r k f (at-first v k x (y ++ z) a) (and-left (is_in_order_in t s e) (are_gens_in_order_in t i gs) h))
        (gens-in-apart gs i q.1 q.2 (pat-follows v b p s r c f (at-first v c y z j)) (at-later v c q.2 y z (pat-number b p r c) j)
        (and-right (is_in_order_in t s e) (are_gens_in_order_in t i gs) h))
    gens-in-apart (cond c gs) s r k f a h =
        let m = (told c r k).1 in let x = marks t s c in let y = marks_gens t s gs in
        and-both (is_fixed v (told c r k).0) (gens_in_order v (told_gens gs r m).0)
        (fixed-told t v more c s r k f (at-first v k x y a) (and-left (is_fixed_in t s c) (are_gens_in_order_in t s gs) h))
        (gens-in-apart gs s r m f (at-later v k m x y (ex-number t c s r k) a) (and-right (is_fixed_in t s c)
        (are_gens_in_order_in t s gs) h))

  mutual
    order-apart : (e : Ex) (s : Text → Bool) (r : Names Text) (k : ℕ) → Follows v s r → Assigned v k (marks t s e) →
        is_ordered_in t s e ≡ true → Ordered v (told e r k).0
    order-apart (number_ex n) s r k f a h = tt
    order-apart (truth_ex b) s r k f a h = tt
    order-apart (name_ex x) s r k f a h = tt
    order-apart (node_ex b op es) s r k f a h = all-apart es (forgets_order op) s r k f a h
    order-apart (matrix_ex es d) s r k f a h = all-apart es false s r k f (at-first v k (marks_all t s es) (marks_dom t s d) a) h
    order-apart (comp_ex e gs) s r k f a h =
        let q = told_gens gs r k in let l = fixed_behind t s gs in let x = marks_gens t s gs in let y = marks t l e in
        let i = at-first v k x y a in let j = at-later v k q.2 x y (gens-number t gs s r k) a in
        let m = gens-follow t v more gs s r k f i in
        let z = and-right (are_gens_ordered_in t s gs) (is_in_order_in t l e && is_ordered_in t l e) h in (
          (
            in-apart e l q.1 q.2 m j (and-left (is_in_order_in t l e) (is_ordered_in t l e) z),
            order-apart e l q.1 q.2 m j (and-right (is_in_order_in t l e) (is_ordered_in t l e) z),
          ),
          gens-order-apart gs s r k f i (and-left (are_gens_ordered_in t s gs) (is_in_order_in t l e && is_ordered_in t l e) h),
        )
    order-apart (cell_ex b n es) s r k f a h = all-apart es false s r k f a h
    order-apart (seen_ex x d ns es) s r k f a h = all-apart es false s r k f a h

    all-apart : (es : Exs) (c : Bool) (s : Text → Bool) (r : Names Text) (k : ℕ) → Follows v s r → Assigned v k (marks_all t s es) →
        are_ordered_in t s es c ≡ true → AllOrdered v (told_all es r k).0 c
    all-apart no_exs c s r k f a h = tt
    all-apart (more_exs e es) true s r k f a h =
        let q = (told e r k).1 in let x = marks t s e in let y = marks_all t s es in (
          order-apart e s r k f (at-first v k x y a) (and-left (is_ordered_in t s e) (are_ordered_in t s es true) h),
          all-apart es true s r q f (at-later v k q x y (ex-number t e s r k) a)
              (and-right (is_ordered_in t s e) (are_ordered_in t s es true) h),
        )
    all-apart (more_exs e es) false s r k f a h =
        let q = (told e r k).1 in let x = marks t s e in let y = marks_all t s es in
        let b = is_in_order_in t s e && is_ordered_in t s e in
        let z = and-left b (are_ordered_in t s es false) h in (
          (
            in-apart e s r k f (at-first v k x y a) (and-left (is_in_order_in t s e) (is_ordered_in t s e) z),
            order-apart e s r k f (at-first v k x y a) (and-right (is_in_order_in t s e) (is_ordered_in t s e) z),
          ),
          all-apart es false s r q f (at-later v k q x y (ex-number t e s r k) a) (and-right b (are_ordered_in t s es false) h),
        )

    gens-order-apart : (gs : Gens) (s : Text → Bool) (r : Names Text) (k : ℕ) → Follows v s r → Assigned v k (marks_gens t s gs) →
        are_gens_ordered_in t s gs ≡ true → GensOrdered v (told_gens gs r k).0
    gens-order-apart no_gens s r k f a h = tt
    gens-order-apart (over p d gs) s r k f a h =
        let c = (told_dom d r k).1 in let q = told_pat p r c in let i = bound_as true p s in
        let x = marks_dom t s d in let y = mark_pat true p in let z = marks_gens t i gs in
        let j = at-later v k c x (y ++ z) (dom-number t d s r k) a in
        gens-order-apart gs i q.1 q.2 (pat-follows v true p s r c f (at-first v c y z j)) (at-later v c q.2 y z (pat-number true p r c) j) h
    gens-order-apart (from p e gs) s r k f a h =
        let b = is_fixed_in t s e in let i = bound_as b p s in
        let c = (told e r k).1 in let q = told_pat p r c in
        let x = marks t s e in let y = mark_pat b p in let z = marks_gens t i gs in
        let j = at-later v k c x (y ++ z) (ex-number t e s r k) a in (
          order-apart e s r k f (at-first v k x (y ++ z) a) (and-left (is_ordered_in t s e) (are_gens_ordered_in t i gs) h),
          gens-order-apart gs i q.1 q.2 (pat-follows v b p s r c f (at-first v c y z j)) (at-later v c q.2 y z (pat-number b p r c) j)
              (and-right (is_ordered_in t s e) (are_gens_ordered_in t i gs) h),
        )
    gens-order-apart (cond c gs) s r k f a h =
        let m = (told c r k).1 in let x = marks t s c in let y = marks_gens t s gs in
        let b = is_in_order_in t s c && is_ordered_in t s c in
        let z = and-left b (are_gens_ordered_in t s gs) h in (
          (
            in-apart c s r k f (at-first v k x y a) (and-left (is_in_order_in t s c) (is_ordered_in t s c) z),
            order-apart c s r k f (at-first v k x y a) (and-right (is_in_order_in t s c) (is_ordered_in t s c) z),
          ),
          gens-order-apart gs s r m f (at-later v k m x y (ex-number t c s r k) a) (and-right b (are_gens_ordered_in t s gs) h),
        )

up-to : (k a l c : ℕ) → k ≡ a + l → k ≤ c → a + l ≤ c
up-to k a l c q h = omega (arith, q, h)

below : (k a l : ℕ) → k ≡ a + l → a + l ≤ k
below k a l q = omega (arith, q)

apart : (t : Text → Bool) (n : ℕ) (e : Ex) → HasNoneFrom n t → (told e [] n).1 ≤ 2 ^ 64 → is_given_in t t e ≡ true →
    is_ordered_in t t e ≡ true → OrderedApart n t e
apart t n e f l h o = record {
  names = v;
  grow = g;
  given = given-told t v g.more e t [] n g.more a h;
  ordered = order-apart t v g.more e t [] n g.more a o;
}
  where
    q : (told e [] n).1 ≡ n + length (marks t t e)
    q = ex-number t e t [] n

    v : Text → Bool
    v = assigned t n (marks t t e)

    a : Assigned v n (marks t t e)
    a = as-assigned t n (marks t t e) (up-to (told e [] n).1 n (length (marks t t e)) (2 ^ 64) q l)

    g : Grows n (told e [] n).1 t v
    g = assigned-grows t n (told e [] n).1 (marks t t e) f (below (told e [] n).1 n (length (marks t t e)) q) l

judged-trees : (t : Text → Bool) (n m : ℕ) (g : Names Ty) (e new : Ex) → HasNoneFrom n t → SparesAll n e →
    is_given_in t t e ≡ true → is_ordered_in t t e ≡ true → Chain IsGivenStep (told e [] n).1 g (told_apart n e) new m → m ≤ 2 ^ 64 →
    is_refined new ≡ true → SettledIn new → AllGiven n m t new
judged-trees t n m g e new f s h o c l r d =
    let k = (told e [] n).1 in
    let b = on k m (2 ^ 64) (chain-up k m g (told_apart n e) new c) l in
    let x = apart t n e f b h o in
    let y = order-ends.along x.names k m g (told_apart n e) new x.grow.none_from (spares-told n e s b) x.given x.ordered c l r d in
    record {
      names = y.names;
      grow = grows-on n n k m t x.names y.names (same n) (ex-up e [] n) x.grow y.grow;
      domains = y.domains;
      conditions = y.conditions;
    }
  where
    on : (a b c : ℕ) → a ≤ b → b ≤ c → a ≤ c
    on a b c p q = omega (arith, p, q)

    same : (a : ℕ) → a ≤ a
    same a = omega arith

-- What is proved of all of it.
pub given-stays-in-conditions : GivenStaysInConditions
given-stays-in-conditions = record { apart = apart; of_judged_trees = judged-trees }
