-- What becomes of folds, lists and conditions with plain keys is lean.
use Rattle.std.proofs.Common.{◌≡◌, refl, sym, subst, ℕ, nat_le, Bool, true, false, ◌&&◌, not, if◌then◌else◌, [], ℤ, Option, None}
use Rattle.ess_semantics.specs.declared.words.Op2.{Op2}
use Rattle.ess_semantics.specs.declared.words.Fun.{Fun}
use Rattle.ess_semantics.specs.Lists.{or_default, when}
use Rattle.ess_semantics.specs.Values.{Text}
use Rattle.ess_semantics.specs.Names.{Names}
use Rattle.ess_semantics.specs.Trees.{matrix_literal, Ex, Exs, node_ex, no_exs, more_exs, Gens, cond, ex2, fun1}
use Rattle.ess_guard_laws.specs.Origins.{Origin, is_number}
use Rattle.ess_guard_laws.specs.Conditions.{unless}
use Rattle.ess_keys_laws.specs.KeyForms.{is_truth, is_settled}
use Rattle.ess_keys_laws.specs.Chains.{is_of_flat_form, chain, all_under_and, has_many, conjuncts_of, conjunction_fold}
use Rattle.ess_keys_laws.specs.Keyed.{laid, are_conditions, connected, all_of, conditions_of, how_many, joined, fold_of, conjuncts}
use Rattle.ess_keys_laws.specs.Keyed.{all_conjuncts, conditions_before}
use Rattle.ess_keys_laws.proofs.Forms.{before-append}
use Rattle.ess_flat_laws.specs.Flat.{denied, TwoOp, both, either, implied, agreeing, equal, unequal, below, at_most, above, at_least}
use Rattle.ess_bare_laws.specs.Bare.{before, not_behind}
use Rattle.ess_bare_laws.specs.Lean.{FoldWord, of_all, of_some, of_sum, Lean, a_number, a_truth, a_name, a_cell, by_one, by_two, by_power, by_truth, by_fold, by_items, by_greatest, by_order, Leans, last_lean, more_leans, Row, listed, alone, Ranging, behind_all, over_truths, over_numbers, under}
use Rattle.ess_bare_written_laws.proofs.Origins.{Origins, truth-told}

module _ (cells : Text → Option (Bool × ℕ)) (ok : ℤ → Bool) (fine : Text → Bool) where
  abbrev T : Names Bool → Ex → Bool → Type 0
  T = Lean cells ok fine true

  abbrev G : Names Bool → Gens → Names Bool → Type 0
  G = Ranging cells ok fine true

  -- ---- folds

  -- A lean tree is no list.
  pub no-fold : (k : Names Origin) {u : Names Bool} {e : Ex} {m : Bool} → T u e m → (b : Bool) (f : Fun) → fold_of k b f e ≡ None
  no-fold k (a_number q) b f = refl
  no-fold k a_truth b f = refl
  no-fold k (a_name q) b f = refl
  no-fold k (a_cell q l) b f = refl
  no-fold k (by_one {b = true} w x) b f = refl
  no-fold k (by_one {b = false} w x) b f = refl
  no-fold k (by_two {b = true} w x y) b f = refl
  no-fold k (by_two {b = false} w x y) b f = refl
  no-fold k (by_power x y) b f = refl
  no-fold k (by_truth x) b f = refl
  no-fold k (by_fold {b = true} w s x) b f = refl
  no-fold k (by_fold {b = false} w s x) b f = refl
  no-fold k (by_items {b = true} w x) b f = refl
  no-fold k (by_items {b = false} w x) b f = refl
  no-fold k (by_greatest x y) b f = refl
  no-fold k (by_order w x y) b f = refl

  kept-item : {u : Names Bool} {e : Ex} {m : Bool} → T u e m → (n : Ex) (b : Bool) → b ≡ true → T u (or_default (when b e) n) m
  kept-item f n true q = f
  kept-item f n false q = cc

  -- A number that is added alone is left, where its form tells that it is a number.
  added-item : {u : Names Bool} {e : Ex} → T u e false → (b : Bool) →
      T u (or_default (when b e) (fun1 false Fun.Sum (node_ex false matrix_literal (more_exs e no_exs)))) false
  added-item f true = f
  added-item f false = by_items of_sum (last_lean f)

  -- A truth value under conditions.
  connected-lean : {u t : Names Bool} {o : Op2} {e : Ex} {gs : Gens} → TwoOp true o true true → G u gs t → T t e true →
      are_conditions gs ≡ true → T u (connected o gs e) true
  connected-lean w behind_all f q = f
  connected-lean w (over_truths c s) f q = cc
  connected-lean w (over_numbers c b l s) f q = cc
  connected-lean w (under k s) f q = by_two w k (connected-lean w s f q)

  -- The same as a list.
  all-lean : {u t : Names Bool} {e : Ex} {gs : Gens} → G u gs t → T t e true → are_conditions gs ≡ true →
      Leans cells ok fine true u (all_of gs e) true
  all-lean behind_all f q = last_lean f
  all-lean (over_truths c s) f q = cc
  all-lean (over_numbers c b l s) f q = cc
  all-lean (under k s) f q = more_leans k (all-lean s f q)

  -- As a list where there are many.
  joined-lean : {u t : Names Bool} {e : Ex} {gs : Gens} (b : Bool) → G u gs t → T t e true → are_conditions gs ≡ true →
      T u (if b then all_under_and (all_of gs e) else connected Op2.And gs e) true
  joined-lean true s f q = by_items of_all (all-lean s f q)
  joined-lean false s f q = connected-lean both s f q

  -- Conditions alone as a list.
  conditions-listed : {u t : Names Bool} {c : Ex} {gs : Gens} → T u c true → G u gs t → are_conditions gs ≡ true →
      Leans cells ok fine true u (conditions_of (cond c gs)) true
  conditions-listed k behind_all q = last_lean k
  conditions-listed k (over_truths c s) q = cc
  conditions-listed k (over_numbers c b l s) q = cc
  conditions-listed k (under h s) q = more_leans k (conditions-listed h s q)

  -- Conditions bind nothing.
  body-lean : {u t : Names Bool} {e : Ex} {gs : Gens} → G u gs t → are_conditions gs ≡ true → T t e true → T u e true
  body-lean behind_all q f = f
  body-lean (over_truths c s) q f = cc
  body-lean (over_numbers c b l s) q f = cc
  body-lean (under k s) q f = body-lean s q f

  -- A truth value under conditions that are a list where there are many.
  led-lean : {u t : Names Bool} {c e : Ex} {gs : Gens} (b : Bool) → T u c true → G u gs t → T t e true → are_conditions gs ≡ true →
      T u (if b then ex2 true Op2.Implies (all_under_and (conditions_of (cond c gs))) e else connected Op2.Implies (cond c gs) e) true
  led-lean true k s f q = by_two implied (by_items of_all (conditions-listed k s q)) (body-lean s q f)
  led-lean false k s f q = connected-lean implied (under k s) f q

  implied-fold : {u t : Names Bool} {c e : Ex} {gs : Gens} → T u c true → G u gs t → T t e true → (b : Bool) → are_conditions gs ≡ b →
      T u (or_default (when b (joined Op2.Implies (cond c gs) e)) (fun1 true Fun.And (laid e (cond c gs)))) true
  implied-fold {c = c} {gs = gs} k s f true q = led-lean (nat_le 16 (how_many (cond c gs))) k s f q
  implied-fold k s f false q = by_fold of_all (under k s) f

  joined-fold : {u t : Names Bool} {c e : Ex} {gs : Gens} → T u c true → G u gs t → T t e true → (b : Bool) → are_conditions gs ≡ b →
      T u (or_default (when b (joined Op2.And (cond c gs) e)) (fun1 true Fun.Or (laid e (cond c gs)))) true
  joined-fold {c = c} {gs = gs} k s f true q = joined-lean (nat_le 16 (how_many (cond c gs))) (under k s) f q
  joined-fold k s f false q = by_fold of_some (under k s) f

  -- What is left of a fold.
  pub fold-lean : {u t : Names Bool} {k : Names Origin} {b : Bool} {p : Fun} {e : Ex} {gs : Gens} → Origins u k → FoldWord b p → G u gs t →
      T t e b → T u (or_default (fold_of k b p (laid e gs)) (fun1 b p (laid e gs))) b
  fold-lean {k = k} {e = e} o of_all behind_all f = kept-item f _ (is_truth k e) (truth-told cells ok fine o f)
  fold-lean {k = k} {e = e} o of_some behind_all f = kept-item f _ (is_truth k e) (truth-told cells ok fine o f)
  fold-lean {k = k} {e = e} o of_sum behind_all f = added-item f (is_number k e)
  fold-lean o of_all (over_truths c s) f = by_fold of_all (over_truths c s) f
  fold-lean o of_some (over_truths c s) f = by_fold of_some (over_truths c s) f
  fold-lean o of_sum (over_truths c s) f = by_fold of_sum (over_truths c s) f
  fold-lean o of_all (over_numbers c b l s) f = by_fold of_all (over_numbers c b l s) f
  fold-lean o of_some (over_numbers c b l s) f = by_fold of_some (over_numbers c b l s) f
  fold-lean o of_sum (over_numbers c b l s) f = by_fold of_sum (over_numbers c b l s) f
  fold-lean o of_all (under {gs = gs} c s) f = implied-fold c s f (are_conditions gs) refl
  fold-lean o of_some (under {gs = gs} c s) f = joined-fold c s f (are_conditions gs) refl
  fold-lean o of_sum (under c s) f = by_fold of_sum (under c s) f

  -- What is left of a fold of items.
  pub items-lean : {u : Names Bool} {k : Names Origin} {b : Bool} {p : Fun} {es : Exs} → Origins u k → FoldWord b p →
      Leans cells ok fine true u es b →
      T u (or_default (fold_of k b p (node_ex false matrix_literal es)) (fun1 b p (node_ex false matrix_literal es))) b
  items-lean o w (last_lean f) = fold-lean o w behind_all f
  items-lean o w (more_leans f (last_lean g)) = by_items w (more_leans f (last_lean g))
  items-lean o w (more_leans f (more_leans g l)) = by_items w (more_leans f (more_leans g l))

  -- ---- conjunctions

  chain-lean : {u : Names Bool} {e : Ex} → T u e true → Leans cells ok fine true u (chain e) true
  chain-lean (by_two both f h) = more_leans f (chain-lean h)
  chain-lean a_truth = last_lean a_truth
  chain-lean (a_name q) = last_lean (a_name q)
  chain-lean (a_cell q l) = last_lean (a_cell q l)
  chain-lean (by_one denied f) = last_lean (by_one denied f)
  chain-lean (by_two either f h) = last_lean (by_two either f h)
  chain-lean (by_two implied f h) = last_lean (by_two implied f h)
  chain-lean (by_two agreeing f h) = last_lean (by_two agreeing f h)
  chain-lean (by_two equal f h) = last_lean (by_two equal f h)
  chain-lean (by_two unequal f h) = last_lean (by_two unequal f h)
  chain-lean (by_two below f h) = last_lean (by_two below f h)
  chain-lean (by_two at_most f h) = last_lean (by_two at_most f h)
  chain-lean (by_two above f h) = last_lean (by_two above f h)
  chain-lean (by_two at_least f h) = last_lean (by_two at_least f h)
  chain-lean (by_fold of_all x f) = last_lean (by_fold of_all x f)
  chain-lean (by_fold of_some x f) = last_lean (by_fold of_some x f)
  chain-lean (by_items of_all l) = last_lean (by_items of_all l)
  chain-lean (by_items of_some l) = last_lean (by_items of_some l)
  chain-lean (by_order before f h) = last_lean (by_order before f h)
  chain-lean (by_order not_behind f h) = last_lean (by_order not_behind f h)

  conjuncts-lean : {u : Names Bool} {e : Ex} → T u e true → Leans cells ok fine true u (conjuncts_of e) true
  conjuncts-lean (by_items of_all l) = l
  conjuncts-lean (by_items of_some l) = chain-lean (by_items of_some l)
  conjuncts-lean a_truth = chain-lean a_truth
  conjuncts-lean (a_name h) = chain-lean (a_name h)
  conjuncts-lean (a_cell h l) = chain-lean (a_cell h l)
  conjuncts-lean (by_one w f) = chain-lean (by_one w f)
  conjuncts-lean (by_two w f h) = chain-lean (by_two w f h)
  conjuncts-lean (by_fold of_all x f) = chain-lean (by_fold of_all x f)
  conjuncts-lean (by_fold of_some x f) = chain-lean (by_fold of_some x f)
  conjuncts-lean (by_order w f h) = chain-lean (by_order w f h)

  listed-lean : {u : Names Bool} {x y : Ex} (b : Bool) → T u x true → T u y true →
      T u (or_default (when b (all_under_and (more_exs x (conjuncts_of y)))) (ex2 true Op2.And x y)) true
  listed-lean true f h = by_items of_all (more_leans f (conjuncts-lean h))
  listed-lean false f h = by_two both f h

  -- What is left of a conjunction.
  pub conjunction-lean : {u : Names Bool} {x y : Ex} → T u x true → T u y true →
      T u (or_default (conjunction_fold x y) (ex2 true Op2.And x y)) true
  conjunction-lean {x = x} {y = y} f h = listed-lean (has_many y && not (is_of_flat_form x && is_of_flat_form y)) f h

  -- A list beside a lex sign.
  pub row-lean : {u t : Names Bool} {m : Bool} {e : Ex} {gs : Gens} → G u gs t → T t e m → Row cells ok fine true u (laid e gs) m
  row-lean behind_all f = alone f
  row-lean (over_truths c s) f = listed (over_truths c s) f
  row-lean (over_numbers c b l s) f = listed (over_numbers c b l s) f
  row-lean (under c s) f = listed (under c s) f

  -- ---- conditions

  unless-lean : {u t : Names Bool} {c : Ex} {gs : Gens} → (k : Names Origin) → T u c true → G u gs t →
      G u (conditions_before (unless (is_settled k c) c) gs) t
  unless-lean {u = u} {t = t} {c = c} {gs = gs} k f s = go (is_settled k c)
    where
      go : (b : Bool) → G u (conditions_before (unless b c) gs) t
      go true = s
      go false = under f s

  mutual
    -- A condition as its conjuncts.
    pub conditions-lean : {u t : Names Bool} {c : Ex} {gs : Gens} → (k : Names Origin) → T u c true → G u gs t →
        G u (conditions_before (conjuncts k c) gs) t
    conditions-lean {u = u} {t = t} {gs = gs} k (by_two {x = x} {y = y} both f h) s =
        subst (λ hs. G u hs t) (sym (before-append (conjuncts k x) (conjuncts k y) gs))
        (conditions-lean k f (conditions-lean k h s))
    conditions-lean k a_truth s = unless-lean k a_truth s
    conditions-lean k (a_name q) s = unless-lean k (a_name q) s
    conditions-lean k (a_cell q l) s = unless-lean k (a_cell q l) s
    conditions-lean k (by_one denied f) s = unless-lean k (by_one denied f) s
    conditions-lean k (by_two either f h) s = unless-lean k (by_two either f h) s
    conditions-lean k (by_two implied f h) s = unless-lean k (by_two implied f h) s
    conditions-lean k (by_two agreeing f h) s = unless-lean k (by_two agreeing f h) s
    conditions-lean k (by_two equal f h) s = unless-lean k (by_two equal f h) s
    conditions-lean k (by_two unequal f h) s = unless-lean k (by_two unequal f h) s
    conditions-lean k (by_two below f h) s = unless-lean k (by_two below f h) s
    conditions-lean k (by_two at_most f h) s = unless-lean k (by_two at_most f h) s
    conditions-lean k (by_two above f h) s = unless-lean k (by_two above f h) s
    conditions-lean k (by_two at_least f h) s = unless-lean k (by_two at_least f h) s
    conditions-lean k (by_fold of_all x f) s = unless-lean k (by_fold of_all x f) s
    conditions-lean k (by_fold of_some x f) s = unless-lean k (by_fold of_some x f) s
    conditions-lean k (by_items of_all l) s = all-conditions k l s
    conditions-lean k (by_items of_some l) s = unless-lean k (by_items of_some l) s
    conditions-lean k (by_order before f h) s = unless-lean k (by_order before f h) s
    conditions-lean k (by_order not_behind f h) s = unless-lean k (by_order not_behind f h) s

    -- So are the conjuncts of several.
    all-conditions : {u t : Names Bool} {es : Exs} {gs : Gens} → (k : Names Origin) → Leans cells ok fine true u es true → G u gs t →
        G u (conditions_before (all_conjuncts k es) gs) t
    all-conditions {u = u} {t = t} {gs = gs} k (last_lean {e = e} f) s =
        subst (λ hs. G u hs t) (sym (before-append (conjuncts k e) [] gs)) (conditions-lean k f s)
    all-conditions {u = u} {t = t} {gs = gs} k (more_leans {e = e} {es = es} f l) s =
        subst (λ hs. G u hs t) (sym (before-append (conjuncts k e) (all_conjuncts k es) gs))
        (conditions-lean k f (all-conditions k l s))
