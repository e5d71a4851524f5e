-- A constraint of the class, and a number of it, needs no conditions over tables to be total. So it is left as it is, whether natural
-- places count or not.
use Rattle.std.proofs.Common.{◌≡◌, refl, ap, ◌∙◌, ℕ, Bool, true, false, List, [], ◌∷◌, Option}
use Rattle.ess_semantics.specs.declared.words.Op1.{Op1}
use Rattle.ess_semantics.specs.declared.words.Op2.{Op2}
use Rattle.ess_semantics.specs.declared.words.Fun.{Fun}
use Rattle.ess_semantics.specs.Values.{Text}
use Rattle.ess_semantics.specs.Names.{Names}
use Rattle.ess_semantics.specs.Trees.{both_ends, name_pat, Ex, no_exs, more_exs, comp_ex, Gens, no_gens, over, cond, bool_dom, int_dom, ex1, ex2, fun1}
use Rattle.ess_guard_laws.specs.Origins.{Origin, with_any, with_over, known_behind}
use Rattle.ess_guard_laws.specs.Conditions.{every, given_that}
use Rattle.ess_guard_laws.specs.Guard.{guarded, guarded_gens, conditions, conditions_gens}
use Rattle.ess_flat_laws.specs.Flat.{OneOp, TwoOp, denied, negative, absolute, both, either, implied, agreeing, equal, unequal, below, at_most, above, at_least, sum, difference, product}
use Rattle.ess_seen_laws.specs.ess_bare_laws.Lean.{FoldWord, of_all, of_some, of_sum}
use Rattle.ess_seen_laws.specs.Seen.{Kind, Bound, Combines, united, shared, lessened}
use Rattle.ess_setwise_laws.proofs.SetwiseTrees.{Stands, named, as_shown, SetTree, stands, combined, Setwise, number, truth, scalar, one, two, chosen, folded, size, within, set_within, compared, Binding, at_end, over_truths, over_numbers, among, where_holds, Form, a_cell, a_view}
use Rattle.ess_setwise_laws.proofs.GuardLists.{none-both, none-one, none-range, none-source, both-kept, range-kept, source-kept}
use Rattle.ess_setwise_laws.proofs.GuardedNodes.{two-guarded, one-guarded, compared-guarded, in-guarded, fold-guarded}

module _ (names : Text → Option Kind) (Shown : Ex → Kind → Type 0) (cells : Text → Option (Bool × List ℕ))
    (form : (e : Ex) (k : Kind) → Shown e k → Form cells e k) (natural : Bool) (p q : Text) where
  abbrev C : Names Bound → Ex → Bool → Type 0
  C = Setwise names Shown

  abbrev conds : Names Origin → Bool → Ex → List Ex
  conds = conditions natural p q

  abbrev kept : Names Origin → Ex → Ex
  kept = guarded natural p q

  -- A cell or a view has a value under no condition, and stays.
  form-none : {e : Ex} {i : Kind} → Form cells e i → (k : Names Origin) (w : Bool) → conds k w e ≡ []
  form-none (a_cell {m = true} h) k w = refl
  form-none (a_cell {m = false} h) k w = refl
  form-none (a_view n f h) k w = refl

  form-kept : {e : Ex} {i : Kind} → Form cells e i → (k : Names Origin) → kept k e ≡ e
  form-kept (a_cell {m = true} h) k = refl
  form-kept (a_cell {m = false} h) k = refl
  form-kept (a_view n f h) k = refl

  at-none : {r : Names Bound} {e : Ex} {i : Kind} → Stands names Shown r e i → (k : Names Origin) (w : Bool) → conds k w e ≡ []
  at-none (named h) k w = refl
  at-none (as_shown {e = e} {k = i} h) k w = form-none (form e i h) k w

  at-kept : {r : Names Bound} {e : Ex} {i : Kind} → Stands names Shown r e i → (k : Names Origin) → kept k e ≡ e
  at-kept (named h) k = refl
  at-kept (as_shown {e = e} {k = i} h) k = form-kept (form e i h) k

  -- A set made of two has a value under no condition.
  combined-none : {o : Op2} (x y : Ex) → Combines o → ((k : Names Origin) (w : Bool) → conds k w x ≡ []) →
      ((k : Names Origin) (w : Bool) → conds k w y ≡ []) → (k : Names Origin) (w : Bool) → conds k w (ex2 false o x y) ≡ []
  combined-none x y united f h k true = none-both (conds k false x) (conds k false y) (f k false) (h k false)
  combined-none x y united f h k false = none-both (conds k false x) (conds k false y) (f k false) (h k false)
  combined-none x y shared f h k true = none-both (conds k false x) (conds k false y) (f k false) (h k false)
  combined-none x y shared f h k false = none-both (conds k false x) (conds k false y) (f k false) (h k false)
  combined-none x y lessened f h k true = none-both (conds k true x) (conds k true y) (f k true) (h k true)
  combined-none x y lessened f h k false = none-both (conds k false x) (conds k false y) (f k false) (h k false)

  set-none : {r : Names Bound} {e : Ex} {i : Kind} → SetTree names Shown r e i → (k : Names Origin) (w : Bool) → conds k w e ≡ []
  set-none (stands h) k w = at-none h k w
  set-none (combined {s = x} {t = y} c f h) k w = combined-none x y c (set-none f) (set-none h) k w

  -- So it stays as it is.
  set-kept : {r : Names Bound} {e : Ex} {i : Kind} → SetTree names Shown r e i → (k : Names Origin) → kept k e ≡ e
  set-kept (stands h) k = at-kept h k
  set-kept (combined {o = o} {s = x} {t = y} c f h) k = both-kept false o x y (kept k x) (kept k y) (set-kept f k) (set-kept h k)

  -- An operator on terms without conditions.
  one-none : {b m : Bool} {o : Op1} (x : Ex) → OneOp b o m → ((k : Names Origin) (w : Bool) → conds k w x ≡ []) → (k : Names Origin)
      (w : Bool) → conds k w (ex1 b o x) ≡ []
  one-none x denied f k w = refl
  one-none x negative f k true = none-one (conds k true x) (f k true)
  one-none x negative f k false = none-one (conds k false x) (f k false)
  one-none x absolute f k true = none-one (conds k true x) (f k true)
  one-none x absolute f k false = none-one (conds k false x) (f k false)

  two-none : {b m i : Bool} {o : Op2} (x y : Ex) → TwoOp b o m i → ((k : Names Origin) (w : Bool) → conds k w x ≡ []) →
      ((k : Names Origin) (w : Bool) → conds k w y ≡ []) → (k : Names Origin) (w : Bool) → conds k w (ex2 b o x y) ≡ []
  two-none x y both f h k w = refl
  two-none x y either f h k w = refl
  two-none x y implied f h k w = refl
  two-none x y agreeing f h k w = refl
  two-none x y equal f h k w = refl
  two-none x y unequal f h k w = refl
  two-none x y below f h k w = refl
  two-none x y at_most f h k w = refl
  two-none x y above f h k w = refl
  two-none x y at_least f h k w = refl
  two-none x y sum f h k true = none-both (conds k true x) (conds k true y) (f k true) (h k true)
  two-none x y sum f h k false = none-both (conds k false x) (conds k false y) (f k false) (h k false)
  two-none x y difference f h k true = none-both (conds k true x) (conds k true y) (f k true) (h k true)
  two-none x y difference f h k false = none-both (conds k false x) (conds k false y) (f k false) (h k false)
  two-none x y product f h k true = none-both (conds k true x) (conds k true y) (f k true) (h k true)
  two-none x y product f h k false = none-both (conds k false x) (conds k false y) (f k false) (h k false)

  -- A word on a list without conditions.
  fold-none : {m : Bool} {f : Fun} (e : Ex) (gs : Gens) → FoldWord m f → (k : Names Origin) (w : Bool) → conds k false (comp_ex e gs) ≡ [] →
      conds k w (fun1 m f (comp_ex e gs)) ≡ []
  fold-none e gs of_all k w n = refl
  fold-none e gs of_some k w n = refl
  fold-none e gs of_sum k true n = none-one (conds k false (comp_ex e gs)) n
  fold-none e gs of_sum k false n = none-one (conds k false (comp_ex e gs)) n

  mutual
    -- A constraint has a value under no condition.
    pub no-conditions : {r : Names Bound} {e : Ex} {m : Bool} → C r e m → (k : Names Origin) (w : Bool) → conds k w e ≡ []
    no-conditions number k w = refl
    no-conditions truth k w = refl
    no-conditions (scalar h) k w = at-none h k w
    no-conditions (one {x = x} s f) k w = one-none x s (no-conditions f) k w
    no-conditions (two {x = x} {y = y} s f h) k w = two-none x y s (no-conditions f) (no-conditions h) k w
    no-conditions (chosen {x = x} f) k true = none-one (conds k false x) (no-conditions f k false)
    no-conditions (chosen {x = x} f) k false = none-one (conds k false x) (no-conditions f k false)
    no-conditions (folded {e = e} {gs = gs} v g f) k w =
        fold-none e gs v k w (none-gens g (conds (known_behind gs k) false e) (no-conditions f (known_behind gs k) false) k)
    no-conditions (size {s = s} h) k true = none-one (conds k true s) (set-none h k true)
    no-conditions (size {s = s} h) k false = none-one (conds k false s) (set-none h k false)
    no-conditions (within f h) k w = refl
    no-conditions (set_within f h) k w = refl
    no-conditions (compared c f h) k w = refl

    -- Generators neither, where what stands behind them needs none.
    none-gens : {r t : Names Bound} {gs : Gens} → Binding names Shown r gs t → (cs : List Ex) → cs ≡ [] → (k : Names Origin) →
        conditions_gens natural p q k gs cs ≡ []
    none-gens at_end cs h k = h
    none-gens (over_truths {a = a} {gs = gs} w g) cs h k =
        ap (every (over (name_pat a) bool_dom no_gens)) (none-gens g cs h (with_over (name_pat a) bool_dom k))
    none-gens (over_numbers {a = a} {x = x} {y = y} {gs = gs} w f v g) cs h k =
        none-range (conds k false x) (conds k false y)
        (conditions_gens natural p q (with_over (name_pat a) (int_dom (both_ends ∷ []) (more_exs x (more_exs y no_exs))) k) gs cs)
        _ (no-conditions f k false) (no-conditions v k false)
        (none-gens g cs h (with_over (name_pat a) (int_dom (both_ends ∷ []) (more_exs x (more_exs y no_exs))) k))
    none-gens (among {a = a} {s = s} {gs = gs} w f g) cs h k =
        none-source (conds k false s) (conditions_gens natural p q (with_any (name_pat a) k) gs cs) _ (set-none f k false)
        (none-gens g cs h (with_any (name_pat a) k))
    none-gens (where_holds {e = e} f g) cs h k = ap (given_that (guarded natural p q k e)) (none-gens g cs h k)

  mutual
    -- So it stays as it is.
    pub guarded-setwise : {r : Names Bound} {e : Ex} {m : Bool} → C r e m → (k : Names Origin) → guarded natural p q k e ≡ e
    guarded-setwise number k = refl
    guarded-setwise truth k = refl
    guarded-setwise (scalar h) k = at-kept h k
    guarded-setwise (one {x = x} s f) k = one-guarded p q natural x s k (guarded-setwise f k)
    guarded-setwise (two {x = x} {y = y} s f h) k =
        two-guarded p q natural x y s (no-conditions f) (no-conditions h) k (guarded-setwise f k) (guarded-setwise h k)
    guarded-setwise (chosen f) k = ap (fun1 false Fun.ToInt) (guarded-setwise f k)
    guarded-setwise (folded {e = e} {gs = gs} w g f) k =
        fold-guarded p q natural e gs w k (none-gens g (conds (known_behind gs k) false e) (no-conditions f (known_behind gs k) false) k)
        (guarded-setwise f (known_behind gs k)) (guarded-binding g k)
    guarded-setwise (size h) k = ap (ex1 false Op1.Bar) (set-kept h k)
    guarded-setwise (within {x = x} {s = s} f h) k =
        in-guarded p q natural x s (no-conditions f) (set-none h) k (guarded-setwise f k) (set-kept h k)
    guarded-setwise (set_within {a = x} {s = s} f h) k =
        in-guarded p q natural x s (set-none f) (set-none h) k (set-kept f k) (set-kept h k)
    guarded-setwise (compared {s = x} {t = y} c f h) k =
        compared-guarded p q natural x y c (set-none f) (set-none h) k (set-kept f k) (set-kept h k)

    guarded-binding : {r t : Names Bound} {gs : Gens} → Binding names Shown r gs t → (k : Names Origin) →
        guarded_gens natural p q k gs ≡ gs
    guarded-binding at_end k = refl
    guarded-binding (over_truths {a = a} w g) k = ap (over (name_pat a) bool_dom) (guarded-binding g (with_over (name_pat a) bool_dom k))
    guarded-binding (over_numbers {a = a} {x = x} {y = y} {gs = gs} w f h g) k =
        range-kept a x y (kept k x) (kept k y) gs _ (guarded-setwise f k) (guarded-setwise h k)
        (guarded-binding g (with_over (name_pat a) (int_dom (both_ends ∷ []) (more_exs x (more_exs y no_exs))) k))
    guarded-binding (among {a = a} {s = s} {gs = gs} w h g) k =
        source-kept a s (kept k s) gs _ (set-kept h k) (guarded-binding g (with_any (name_pat a) k))
    guarded-binding (where_holds {e = e} {gs = gs} f g) k =
        ap (λ z. cond z (guarded_gens natural p q k gs)) (guarded-setwise f k) ∙ ap (cond e) (guarded-binding g k)
