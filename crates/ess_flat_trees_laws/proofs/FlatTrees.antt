-- Flat trees on their way to a rule: told apart, made natural, with plain keys and with printed names they are as they were; shown they have
-- cells in the place of names.
use Rattle.std.proofs.Common.{◌≡◌, refl, ap, ◌∙◌, ℕ, Bool, true, false, ◌&&◌, not, List, [], ◌++◌, Option, Some, None}
use Rattle.ess_semantics.specs.declared.words.Op1.{Op1}
use Rattle.ess_semantics.specs.declared.words.Op2.{Op2}
use Rattle.ess_semantics.specs.declared.words.Fun.{Fun}
use Rattle.ess_semantics.specs.Lists.{or_default, when}
use Rattle.ess_semantics.specs.Values.{Text}
use Rattle.ess_semantics.specs.Names.{Names}
use Rattle.ess_semantics.specs.Trees.{unary, binary, Ex, truth_ex, node_ex, no_exs, more_exs, ex1, ex2, fun1}
use Rattle.ess_semantics.specs.Plans.{Plan}
use Rattle.ess_semantics.specs.Models.{is_flat_op, scalar_cell, cell_for, with_cells}
use Rattle.ess_semantics.proofs.Tests.{and-both}
use Rattle.ess_guard_laws.specs.Origins.{Origin}
use Rattle.ess_guard_laws.specs.Conditions.{chained, all_of}
use Rattle.ess_guard_laws.specs.Guard.{guarded, conditions, has_value}
use Rattle.ess_keys_laws.specs.Chains.{is_of_flat_form, all_under_and, has_many, conjuncts_of, conjunction_fold}
use Rattle.ess_keys_laws.specs.Keyed.{nothing_around, fold_of, folded, keyed}
use Rattle.conjure_model_laws.specs.ToldApart.{told}
use Rattle.conjure_model_laws.specs.Shown.{Shows, in_place, shown}
use Rattle.conjure_model_laws.specs.Printed.{printed}
use Rattle.ess_flat_laws.specs.Flat.{TwoOp, denied, negative, absolute, both, either, implied, agreeing, equal, unequal, below, at_most, above, at_least, sum, difference, product, Flat, number as number_is, truth as truth_is, named, cell, one, two, chosen, none_marked}
use Rattle.ess_flat_models_laws.specs.FlatSpecifications.{scalar_mark}

none : {m : Bool} → None ≡ Some m → ⊥
none h = cc

-- ---- over names

module _ (names : Text → Option Bool) where
  -- Nothing is bound in a flat tree.
  pub told-flat : {e : Ex} {m : Bool} → Flat names none_marked e m → (k : ℕ) → told e [] k ≡ (e, k)
  told-flat number_is k = refl
  told-flat truth_is k = refl
  told-flat (named h) k = refl
  told-flat (cell h) k = absurd (none h)
  told-flat (one {b = b} {o = o} w f) k = ap (λ q. (node_ex b (unary o) (more_exs q.0 no_exs), q.1)) (told-flat f k)
  told-flat (two {b = b} {o = o} {x = x} {y = y} w f h c) k =
      ap (λ q. let u : Ex × ℕ = told y [] q.1 in (ex2 b o q.0 u.0, u.1)) (told-flat f k)
      ∙ ap (λ u. (ex2 b o x u.0, u.1)) (told-flat h k)
  told-flat (chosen f) k = ap (λ q. (fun1 false Fun.ToInt q.0, q.1)) (told-flat f k)

-- Where cells are shown for names, a flat tree gets them.
pub shown-flat : (Ps : List Plan) (sh : Shows) →
    ((a : Text) (m : Bool) → scalar_mark Ps a ≡ Some m → in_place sh.first a ≡ cell_for a (scalar_cell Ps a)) →
    {e : Ex} {m : Bool} → Flat (scalar_mark Ps) none_marked e m → shown sh e ≡ with_cells Ps e
shown-flat Ps sh g number_is = refl
shown-flat Ps sh g truth_is = refl
shown-flat Ps sh g (named {a = a} {m = m} h) = g a m h
shown-flat Ps sh g (cell h) = absurd (none h)
shown-flat Ps sh g (one {b = b} {o = o} w f) = ap (ex1 b o) (shown-flat Ps sh g f)
shown-flat Ps sh g (two {x = x} {y = y} both f h c) =
    ap (λ z. ex2 true Op2.And z (shown sh y)) (shown-flat Ps sh g f) ∙ ap (ex2 true Op2.And (with_cells Ps x)) (shown-flat Ps sh g h)
shown-flat Ps sh g (two {x = x} {y = y} either f h c) =
    ap (λ z. ex2 true Op2.Or z (shown sh y)) (shown-flat Ps sh g f) ∙ ap (ex2 true Op2.Or (with_cells Ps x)) (shown-flat Ps sh g h)
shown-flat Ps sh g (two {x = x} {y = y} implied f h c) =
    ap (λ z. ex2 true Op2.Implies z (shown sh y)) (shown-flat Ps sh g f) ∙ ap (ex2 true Op2.Implies (with_cells Ps x))
    (shown-flat Ps sh g h)
shown-flat Ps sh g (two {x = x} {y = y} agreeing f h c) =
    ap (λ z. ex2 true Op2.Iff z (shown sh y)) (shown-flat Ps sh g f) ∙ ap (ex2 true Op2.Iff (with_cells Ps x)) (shown-flat Ps sh g h)
shown-flat Ps sh g (two {x = x} {y = y} equal f h c) =
    ap (λ z. ex2 true Op2.Eq z (shown sh y)) (shown-flat Ps sh g f) ∙ ap (ex2 true Op2.Eq (with_cells Ps x)) (shown-flat Ps sh g h)
shown-flat Ps sh g (two {x = x} {y = y} unequal f h c) =
    ap (λ z. ex2 true Op2.Ne z (shown sh y)) (shown-flat Ps sh g f) ∙ ap (ex2 true Op2.Ne (with_cells Ps x)) (shown-flat Ps sh g h)
shown-flat Ps sh g (two {x = x} {y = y} below f h c) =
    ap (λ z. ex2 true Op2.Lt z (shown sh y)) (shown-flat Ps sh g f) ∙ ap (ex2 true Op2.Lt (with_cells Ps x)) (shown-flat Ps sh g h)
shown-flat Ps sh g (two {x = x} {y = y} at_most f h c) =
    ap (λ z. ex2 true Op2.Le z (shown sh y)) (shown-flat Ps sh g f) ∙ ap (ex2 true Op2.Le (with_cells Ps x)) (shown-flat Ps sh g h)
shown-flat Ps sh g (two {x = x} {y = y} above f h c) =
    ap (λ z. ex2 true Op2.Gt z (shown sh y)) (shown-flat Ps sh g f) ∙ ap (ex2 true Op2.Gt (with_cells Ps x)) (shown-flat Ps sh g h)
shown-flat Ps sh g (two {x = x} {y = y} at_least f h c) =
    ap (λ z. ex2 true Op2.Ge z (shown sh y)) (shown-flat Ps sh g f) ∙ ap (ex2 true Op2.Ge (with_cells Ps x)) (shown-flat Ps sh g h)
shown-flat Ps sh g (two {x = x} {y = y} sum f h c) =
    ap (λ z. ex2 false Op2.Plus z (shown sh y)) (shown-flat Ps sh g f) ∙ ap (ex2 false Op2.Plus (with_cells Ps x)) (shown-flat Ps sh g h)
shown-flat Ps sh g (two {x = x} {y = y} difference f h c) =
    ap (λ z. ex2 false Op2.Minus z (shown sh y)) (shown-flat Ps sh g f) ∙ ap (ex2 false Op2.Minus (with_cells Ps x)) (shown-flat Ps sh g h)
shown-flat Ps sh g (two {x = x} {y = y} product f h c) =
    ap (λ z. ex2 false Op2.Times z (shown sh y)) (shown-flat Ps sh g f) ∙ ap (ex2 false Op2.Times (with_cells Ps x)) (shown-flat Ps sh g h)
shown-flat Ps sh g (chosen f) = ap (fun1 false Fun.ToInt) (shown-flat Ps sh g f)

-- ---- over cells

-- A comparison without conditions.
compare-kept : (o : Op2) (x y z u : Ex) (as' bs : List Ex) → as' ≡ [] → bs ≡ [] → z ≡ x → u ≡ y →
    chained ((as' ++ (bs ++ [])) ++ []) (ex2 true o z u) ≡ ex2 true o x y
compare-kept o x y z u as' bs a b q r =
    ap (λ l. chained ((l ++ (bs ++ [])) ++ []) (ex2 true o z u)) a ∙ ap (λ l. chained (([] ++ (l ++ [])) ++ []) (ex2 true o z u)) b
    ∙ ap (λ v. ex2 true o v u) q ∙ ap (ex2 true o x) r

-- An operator of flat trees is one of flat constraints.
flat-op : {b m k : Bool} {o : Op2} → TwoOp b o m k → is_flat_op (binary o) ≡ true
flat-op both = refl
flat-op either = refl
flat-op implied = refl
flat-op agreeing = refl
flat-op equal = refl
flat-op unequal = refl
flat-op below = refl
flat-op at_most = refl
flat-op above = refl
flat-op at_least = refl
flat-op sum = refl
flat-op difference = refl
flat-op product = refl

no-list : (a b c : Bool) (l n : Ex) → a ≡ true → b ≡ true → or_default (when (c && not (a && b)) l) n ≡ n
no-list true true true l n p q = refl
no-list true true false l n p q = refl
no-list true false c l n p q = cc
no-list false b c l n p q = cc

-- An operator on two operands of flat form stays.
binary-kept : (k : Names Origin) (b : Bool) (o : Op2) (x y z u : Ex) → z ≡ x → u ≡ y → is_of_flat_form x ≡ true → is_of_flat_form y ≡ true
    → folded k b (binary o) (more_exs z (more_exs u no_exs)) ≡ ex2 b o x y
binary-kept k true Op2.And x y z u q r s t =
    ap (λ v. or_default (conjunction_fold v u) (ex2 true Op2.And v u)) q ∙ ap (λ v. or_default (conjunction_fold x v) (ex2 true Op2.And x v)) r
    ∙ no-list (is_of_flat_form x) (is_of_flat_form y) (has_many y) (all_under_and (more_exs x (conjuncts_of y))) (ex2 true Op2.And x y) s t
binary-kept k b o x y z u q r s t = ap (λ v. ex2 b o v u) q ∙ ap (ex2 b o x) r

module _ (cells : Text → Option Bool) where
  abbrev F : Ex → Bool → Type 0
  F = Flat none_marked cells

  module _ (p q : Text) where
    -- A flat tree has a value under no condition.
    no-conditions : (n : Bool) {e : Ex} {m : Bool} → F e m → (k : Names Origin) (w : Bool) → conditions n p q k w e ≡ []
    no-conditions n number_is k w = refl
    no-conditions n truth_is k w = refl
    no-conditions n (named h) k w = refl
    no-conditions n (cell {b = true} h) k w = refl
    no-conditions n (cell {b = false} h) k w = refl
    no-conditions n (one denied f) k w = refl
    no-conditions n (one {x = x} negative f) k true = ap (λ l. (l ++ []) ++ []) (no-conditions n f k true)
    no-conditions n (one {x = x} negative f) k false = ap (λ l. (l ++ []) ++ []) (no-conditions n f k false)
    no-conditions n (one {x = x} absolute f) k true = ap (λ l. (l ++ []) ++ []) (no-conditions n f k true)
    no-conditions n (one {x = x} absolute f) k false = ap (λ l. (l ++ []) ++ []) (no-conditions n f k false)
    no-conditions n (two both f h c) k w = refl
    no-conditions n (two either f h c) k w = refl
    no-conditions n (two implied f h c) k w = refl
    no-conditions n (two agreeing f h c) k w = refl
    no-conditions n (two equal f h c) k w = refl
    no-conditions n (two unequal f h c) k w = refl
    no-conditions n (two below f h c) k w = refl
    no-conditions n (two at_most f h c) k w = refl
    no-conditions n (two above f h c) k w = refl
    no-conditions n (two at_least f h c) k w = refl
    no-conditions n (two {x = x} {y = y} sum f h c) k true =
        ap (λ l. (l ++ (conditions n p q k true y ++ [])) ++ []) (no-conditions n f k true)
        ∙ ap (λ l. (l ++ []) ++ []) (no-conditions n h k true)
    no-conditions n (two {x = x} {y = y} sum f h c) k false =
        ap (λ l. (l ++ (conditions n p q k false y ++ [])) ++ []) (no-conditions n f k false)
        ∙ ap (λ l. (l ++ []) ++ []) (no-conditions n h k false)
    no-conditions n (two {x = x} {y = y} difference f h c) k true =
        ap (λ l. (l ++ (conditions n p q k true y ++ [])) ++ []) (no-conditions n f k true)
        ∙ ap (λ l. (l ++ []) ++ []) (no-conditions n h k true)
    no-conditions n (two {x = x} {y = y} difference f h c) k false =
        ap (λ l. (l ++ (conditions n p q k false y ++ [])) ++ []) (no-conditions n f k false)
        ∙ ap (λ l. (l ++ []) ++ []) (no-conditions n h k false)
    no-conditions n (two {x = x} {y = y} product f h c) k true =
        ap (λ l. (l ++ (conditions n p q k true y ++ [])) ++ []) (no-conditions n f k true)
        ∙ ap (λ l. (l ++ []) ++ []) (no-conditions n h k true)
    no-conditions n (two {x = x} {y = y} product f h c) k false =
        ap (λ l. (l ++ (conditions n p q k false y ++ [])) ++ []) (no-conditions n f k false)
        ∙ ap (λ l. (l ++ []) ++ []) (no-conditions n h k false)
    no-conditions n (chosen {x = x} f) k true = ap (λ l. (l ++ []) ++ []) (no-conditions n f k false)
    no-conditions n (chosen {x = x} f) k false = ap (λ l. (l ++ []) ++ []) (no-conditions n f k false)

    -- So it stays as it is.
    pub guarded-flat : (n : Bool) {e : Ex} {m : Bool} → F e m → (k : Names Origin) → guarded n p q k e ≡ e
    guarded-flat n number_is k = refl
    guarded-flat n truth_is k = refl
    guarded-flat n (named h) k = refl
    guarded-flat n (cell {b = true} h) k = refl
    guarded-flat n (cell {b = false} h) k = refl
    guarded-flat n (one denied f) k = ap (ex1 true Op1.Not) (guarded-flat n f k)
    guarded-flat n (one negative f) k = ap (ex1 false Op1.Minus) (guarded-flat n f k)
    guarded-flat n (one absolute f) k = ap (ex1 false Op1.Bar) (guarded-flat n f k)
    guarded-flat n (two {x = x} {y = y} both f h c) k =
        ap (λ z. ex2 true Op2.And z (guarded n p q k y)) (guarded-flat n f k) ∙ ap (ex2 true Op2.And x) (guarded-flat n h k)
    guarded-flat n (two {x = x} {y = y} either f h c) k =
        ap (λ z. ex2 true Op2.Or z (guarded n p q k y)) (guarded-flat n f k) ∙ ap (ex2 true Op2.Or x) (guarded-flat n h k)
    guarded-flat n (two {x = x} {y = y} implied f h c) k =
        ap (λ z. ex2 true Op2.Implies z (guarded n p q k y)) (guarded-flat n f k) ∙ ap (ex2 true Op2.Implies x) (guarded-flat n h k)
    guarded-flat n (two {x = x} {y = y} agreeing f h c) k =
        ap (λ z. ex2 true Op2.Iff z (guarded n p q k y)) (guarded-flat n f k) ∙ ap (ex2 true Op2.Iff x) (guarded-flat n h k)
    guarded-flat true (two {x = x} {y = y} equal f h c) k =
        compare-kept Op2.Eq x y (guarded true p q k x) (guarded true p q k y) (conditions true p q k true x) (conditions true p q k true y)
        (no-conditions true f k true) (no-conditions true h k true) (guarded-flat true f k) (guarded-flat true h k)
    guarded-flat false (two {x = x} {y = y} equal f h c) k =
        compare-kept Op2.Eq x y (guarded false p q k x) (guarded false p q k y) (conditions false p q k false x) (conditions false p q k false y)
        (no-conditions false f k false) (no-conditions false h k false) (guarded-flat false f k) (guarded-flat false h k)
    guarded-flat true (two {x = x} {y = y} unequal f h c) k =
        compare-kept Op2.Ne x y (guarded true p q k x) (guarded true p q k y) (conditions true p q k true x) (conditions true p q k true y)
        (no-conditions true f k true) (no-conditions true h k true) (guarded-flat true f k) (guarded-flat true h k)
    guarded-flat false (two {x = x} {y = y} unequal f h c) k =
        compare-kept Op2.Ne x y (guarded false p q k x) (guarded false p q k y) (conditions false p q k false x) (conditions false p q k false y)
        (no-conditions false f k false) (no-conditions false h k false) (guarded-flat false f k) (guarded-flat false h k)
    guarded-flat true (two {x = x} {y = y} below f h c) k =
        compare-kept Op2.Lt x y (guarded true p q k x) (guarded true p q k y) (conditions true p q k true x) (conditions true p q k true y)
        (no-conditions true f k true) (no-conditions true h k true) (guarded-flat true f k) (guarded-flat true h k)
    guarded-flat false (two {x = x} {y = y} below f h c) k =
        compare-kept Op2.Lt x y (guarded false p q k x) (guarded false p q k y) (conditions false p q k false x) (conditions false p q k false y)
        (no-conditions false f k false) (no-conditions false h k false) (guarded-flat false f k) (guarded-flat false h k)
    guarded-flat true (two {x = x} {y = y} at_most f h c) k =
        compare-kept Op2.Le x y (guarded true p q k x) (guarded true p q k y) (conditions true p q k true x) (conditions true p q k true y)
        (no-conditions true f k true) (no-conditions true h k true) (guarded-flat true f k) (guarded-flat true h k)
    guarded-flat false (two {x = x} {y = y} at_most f h c) k =
        compare-kept Op2.Le x y (guarded false p q k x) (guarded false p q k y) (conditions false p q k false x) (conditions false p q k false y)
        (no-conditions false f k false) (no-conditions false h k false) (guarded-flat false f k) (guarded-flat false h k)
    guarded-flat true (two {x = x} {y = y} above f h c) k =
        compare-kept Op2.Gt x y (guarded true p q k x) (guarded true p q k y) (conditions true p q k true x) (conditions true p q k true y)
        (no-conditions true f k true) (no-conditions true h k true) (guarded-flat true f k) (guarded-flat true h k)
    guarded-flat false (two {x = x} {y = y} above f h c) k =
        compare-kept Op2.Gt x y (guarded false p q k x) (guarded false p q k y) (conditions false p q k false x) (conditions false p q k false y)
        (no-conditions false f k false) (no-conditions false h k false) (guarded-flat false f k) (guarded-flat false h k)
    guarded-flat true (two {x = x} {y = y} at_least f h c) k =
        compare-kept Op2.Ge x y (guarded true p q k x) (guarded true p q k y) (conditions true p q k true x) (conditions true p q k true y)
        (no-conditions true f k true) (no-conditions true h k true) (guarded-flat true f k) (guarded-flat true h k)
    guarded-flat false (two {x = x} {y = y} at_least f h c) k =
        compare-kept Op2.Ge x y (guarded false p q k x) (guarded false p q k y) (conditions false p q k false x) (conditions false p q k false y)
        (no-conditions false f k false) (no-conditions false h k false) (guarded-flat false f k) (guarded-flat false h k)
    guarded-flat n (two {x = x} {y = y} sum f h c) k =
        ap (λ z. ex2 false Op2.Plus z (guarded n p q k y)) (guarded-flat n f k) ∙ ap (ex2 false Op2.Plus x) (guarded-flat n h k)
    guarded-flat n (two {x = x} {y = y} difference f h c) k =
        ap (λ z. ex2 false Op2.Minus z (guarded n p q k y)) (guarded-flat n f k) ∙ ap (ex2 false Op2.Minus x) (guarded-flat n h k)
    guarded-flat n (two {x = x} {y = y} product f h c) k =
        ap (λ z. ex2 false Op2.Times z (guarded n p q k y)) (guarded-flat n f k) ∙ ap (ex2 false Op2.Times x) (guarded-flat n h k)
    guarded-flat n (chosen f) k = ap (fun1 false Fun.ToInt) (guarded-flat n f k)

    -- That it has a value is `true`.
    pub has-value-flat : {e : Ex} {m : Bool} → F e m → has_value p q e ≡ truth_ex true
    has-value-flat f = ap all_of (no-conditions false f [] false)

  -- ---- keys and printed names

  -- `toInt` of a flat tree folds nothing.
  no-fold : {x : Ex} {m : Bool} → F x m → m ≡ true → (k : Names Origin) → fold_of k false Fun.ToInt x ≡ None
  no-fold number_is q k = cc
  no-fold truth_is q k = refl
  no-fold (named h) q k = absurd (none h)
  no-fold (cell h) q k = refl
  no-fold (one denied f) q k = refl
  no-fold (one negative f) q k = cc
  no-fold (one absolute f) q k = cc
  no-fold (two both f h c) q k = refl
  no-fold (two {b = true} w f h c) q k = refl
  no-fold (two {b = false} w f h c) q k = cc
  no-fold (chosen f) q k = cc

  -- Its form is flat.
  flat-form : {e : Ex} {m : Bool} → F e m → is_of_flat_form e ≡ true
  flat-form number_is = refl
  flat-form truth_is = refl
  flat-form (named h) = absurd (none h)
  flat-form (cell h) = refl
  flat-form (one w f) = ap (λ c. c && true) (flat-form f)
  flat-form (two {o = o} {x = x} {y = y} w f h c) =
      and-both (is_flat_op (binary o)) (is_of_flat_form x && (is_of_flat_form y && true)) (flat-op w)
      (and-both (is_of_flat_form x) (is_of_flat_form y && true) (flat-form f) (ap (λ c. c && true) (flat-form h)))
  flat-form (chosen f) = ap (λ c. c && true) (flat-form f)

  -- Its keys are plain.
  pub keyed-flat : {e : Ex} {m : Bool} → F e m → keyed nothing_around e ≡ e
  keyed-flat number_is = refl
  keyed-flat truth_is = refl
  keyed-flat (named h) = refl
  keyed-flat (cell h) = refl
  keyed-flat (one {b = b} {o = o} w f) = ap (ex1 b o) (keyed-flat f)
  keyed-flat (two {b = b} {o = o} {x = x} {y = y} w f h c) =
      binary-kept [] b o x y (keyed nothing_around x) (keyed nothing_around y) (keyed-flat f) (keyed-flat h) (flat-form f) (flat-form h)
  keyed-flat (chosen {x = x} f) =
      ap (λ z. or_default (fold_of [] false Fun.ToInt z) (fun1 false Fun.ToInt z)) (keyed-flat f)
      ∙ ap (λ o. or_default o (fun1 false Fun.ToInt x)) (no-fold f refl [])

  -- It binds no name that is printed.
  pub printed-flat : (taken : List Text) {e : Ex} {m : Bool} → F e m → printed taken e [] ≡ e
  printed-flat taken number_is = refl
  printed-flat taken truth_is = refl
  printed-flat taken (named h) = refl
  printed-flat taken (cell h) = refl
  printed-flat taken (one {b = b} {o = o} w f) = ap (ex1 b o) (printed-flat taken f)
  printed-flat taken (two {b = b} {o = o} {x = x} {y = y} w f h c) =
      ap (λ z. ex2 b o z (printed taken y [])) (printed-flat taken f) ∙ ap (ex2 b o x) (printed-flat taken h)
  printed-flat taken (chosen f) = ap (fun1 false Fun.ToInt) (printed-flat taken f)
