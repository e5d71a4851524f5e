-- The least or the greatest of several alternatives, each by itself where it has items: each part has a value where the alternatives have.
use Rattle.std.proofs.Common.{◌≡◌, refl, sym, ap, ◌∙◌, subst, true, false, if◌then◌else◌, List, [], ◌∷◌, ◌++◌, Option, Some, None, option_map}
use Rattle.std.specs.Prelude.{IsTrue, is_some}
use Rattle.ess_semantics.specs.declared.words.Op1.{Op1}
use Rattle.ess_semantics.specs.declared.words.Op2.{Op2}
use Rattle.ess_semantics.specs.declared.words.Fun.{Fun}
use Rattle.ess_semantics.specs.Lists.{and_then}
use Rattle.ess_semantics.specs.Values.{Value, number, truth, item, node, items_of}
use Rattle.ess_semantics.specs.Order.{below}
use Rattle.ess_semantics.specs.Trees.{unary, binary, word, Pat, Ex, truth_ex, comp_ex, ex1, ex2, fun1, no_exs, more_exs, Gens, no_gens, over, from, cond}
use Rattle.ess_semantics.specs.Operators.{as_truth, value_of_node, least, greatest, list_value}
use Rattle.ess_semantics.specs.Meaning.{Env, with_pat, meaning, items_under, collect, where_true, domain_of, members_in}
use Rattle.ess_semantics.specs.Contexts.{Each, EachOf, EachIn}
use Rattle.ess_semantics.proofs.Orders.{to_list-of_list}
use Rattle.ess_rules_laws.specs.Listings.{Alternative}
use Rattle.ess_rules_laws.specs.SourceRules.{list_of}
use Rattle.ess_rules_laws.specs.ListedSources.{laid_out}
use Rattle.ess_rules_laws.proofs.Bindings.{each-join}
use Rattle.ess_refine_laws.specs.Everywhere.{chosen, extreme}
use Rattle.ess_refine_laws.specs.ExtremeRules.{is_extreme}
use Rattle.ess_refine_laws.specs.ExtremeAlternatives.{has_items, each_extreme, each_size, past_all}
use Rattle.ess_values_along_laws.specs.Valued.{Valued, AllValued, UnderValued}
use Rattle.ess_values_terms_laws.proofs.ValuedForms.{there, node-valued, word-valued, size-valued}
use Rattle.ess_values_terms_laws.proofs.ValuedLists.{list-valued, item-there}
use Rattle.ess_values_sources_laws.proofs.CollectedLists.{each-some, some-each, some-list, list-some, left-of-both, right-of-both}

-- The items of a comprehension.
abbrev k : Ex → Env → Option (List Value)
k x here = option_map (λ u. u ∷ []) (meaning x here)

-- ---- another item at the same bindings

module _ (e f : Ex) (at : (h : Env) → Valued false e h → Valued false f h) where
  -- It is there, and has values.
  abbrev Kept : Gens → Env → Type 0
  Kept gs env = IsTrue (is_some (items_under gs env (k f))) × UnderValued gs env (λ here. Valued false f here)

  each-kept : (p : Pat) (gs : Gens) (env : Env) → ((v : Value) → IsTrue (is_some (items_under gs (with_pat p v env) (k e))) →
      UnderValued gs (with_pat p v env) (λ here. Valued false e here) → Kept gs (with_pat p v env)) → (vs : List Value) →
      IsTrue (is_some (collect vs (λ v. items_under gs (with_pat p v env) (k e)))) →
      Each vs (λ v. UnderValued gs (with_pat p v env) (λ here. Valued false e here)) →
      IsTrue (is_some (collect vs (λ v. items_under gs (with_pat p v env) (k f))))
      × Each vs (λ v. UnderValued gs (with_pat p v env) (λ here. Valued false f here))
  each-kept p gs env ih vs t v =
      let b = each-join vs _ _ (λ x. Kept gs (with_pat p x env)) ih
      (each-some vs (λ x. items_under gs (with_pat p x env) (k e)) t) v in (
        some-each vs (λ x. items_under gs (with_pat p x env) (k f)) (left-of-both vs _ _ b),
        right-of-both vs _ _ b,
      )

  of-kept : (p : Pat) (gs : Gens) (env : Env) → ((v : Value) → IsTrue (is_some (items_under gs (with_pat p v env) (k e))) →
      UnderValued gs (with_pat p v env) (λ here. Valued false e here) → Kept gs (with_pat p v env)) → (o : Option (List Value)) →
      IsTrue (is_some (and_then o (λ vs. collect vs (λ x. items_under gs (with_pat p x env) (k e))))) →
      EachOf o (λ x. UnderValued gs (with_pat p x env) (λ here. Valued false e here)) →
      IsTrue (is_some (and_then o (λ vs. collect vs (λ x. items_under gs (with_pat p x env) (k f)))))
      × EachOf o (λ x. UnderValued gs (with_pat p x env) (λ here. Valued false f here))
  of-kept p gs env ih None t v = cc
  of-kept p gs env ih (Some vs) t v = each-kept p gs env ih vs t v

  in-kept : (p : Pat) (gs : Gens) (env : Env) → ((v : Value) → IsTrue (is_some (items_under gs (with_pat p v env) (k e))) →
      UnderValued gs (with_pat p v env) (λ here. Valued false e here) → Kept gs (with_pat p v env)) → (o : Option Value) →
      IsTrue (is_some (and_then o (λ u. collect (items_of u) (λ x. items_under gs (with_pat p x env) (k e))))) →
      EachIn o (λ x. UnderValued gs (with_pat p x env) (λ here. Valued false e here)) →
      IsTrue (is_some (and_then o (λ u. collect (items_of u) (λ x. items_under gs (with_pat p x env) (k f)))))
      × EachIn o (λ x. UnderValued gs (with_pat p x env) (λ here. Valued false f here))
  in-kept p gs env ih None t v = cc
  in-kept p gs env ih (Some u) t v = each-kept p gs env ih (items_of u) t v

  where-kept : (o : Option Value) (p q : Option (List Value)) (P Q : Type 0) → IsTrue (is_some (where_true o (λ u. p))) →
      (as_truth o ≡ true → P) → (IsTrue (is_some p) → P → IsTrue (is_some q) × Q) →
      IsTrue (is_some (where_true o (λ u. q))) × (as_truth o ≡ true → Q)
  where-kept (Some (truth true)) p q P Q t v ih = let r = ih t (v refl) in (r.0, λ z. r.1)
  where-kept (Some (truth false)) p q P Q t v ih = (refl, λ z. cc)
  where-kept (Some (number n)) p q P Q t v ih = (refl, λ z. cc)
  where-kept (Some (item a n)) p q P Q t v ih = (refl, λ z. cc)
  where-kept (Some (node a vs)) p q P Q t v ih = (refl, λ z. cc)
  where-kept None p q P Q t v ih = (refl, λ z. cc)

  items-kept : (gs : Gens) (env : Env) → IsTrue (is_some (items_under gs env (k e))) → UnderValued gs env (λ here. Valued false e here) →
      Kept gs env
  items-kept no_gens env t v = let w = at env v in (item-there (meaning f env) (there f env w), w)
  items-kept (over p d gs) env t v =
      let r = of-kept p gs env (λ x. items-kept gs (with_pat p x env)) (members_in (domain_of d env)) t v.1 in (r.0, (v.0, r.1))
  items-kept (from p s gs) env t v =
      let r = in-kept p gs env (λ x. items-kept gs (with_pat p x env)) (meaning s env) t v.1 in (r.0, (v.0, r.1))
  items-kept (cond c gs) env t v =
      let r = where-kept (meaning c env) (items_under gs env (k e)) (items_under gs env (k f)) _ _ t v.1 (items-kept gs env) in
      (r.0, (v.0, r.1))

  -- A comprehension with another item.
  comp-kept : (gs : Gens) (env : Env) → Valued false (comp_ex e gs) env → Valued false (comp_ex f gs) env
  comp-kept gs env h =
      let r = items-kept gs env (list-some (items_under gs env (k e)) h.0) h.1 in (some-list (items_under gs env (k f)) r.0, r.1)

-- ---- where there are no items, there are none

module _ (e f : Ex) where
  collect-empty : (vs : List Value) (F G : Value → Option (List Value)) → ((v : Value) → F v ≡ Some [] → G v ≡ Some []) →
      collect vs F ≡ Some [] → collect vs G ≡ Some []
  collect-empty [] F G h q = refl
  collect-empty (v ∷ vs) F G h q = go (F v) (collect vs F) refl refl q (collect-empty vs F G h)
    where
      go : (o p : Option (List Value)) → F v ≡ o → collect vs F ≡ p → and_then o (λ xs. option_map (λ ys. xs ++ ys) p) ≡ Some [] →
          (collect vs F ≡ Some [] → collect vs G ≡ Some []) → collect (v ∷ vs) G ≡ Some []
      go None p i j q r = cc
      go (Some xs) None i j q r = cc
      go (Some (x ∷ xs)) (Some ys) i j q r = cc
      go (Some []) (Some (y ∷ ys)) i j q r = cc
      go (Some []) (Some []) i j q r = ap (λ o. and_then o (λ xs. option_map (λ ys. xs ++ ys) (collect vs G))) (h v i)
          ∙ ap (option_map (λ ys. ys)) (r j)

  of-empty : (o : Option (List Value)) (F G : Value → Option (List Value)) → ((v : Value) → F v ≡ Some [] → G v ≡ Some []) →
      and_then o (λ vs. collect vs F) ≡ Some [] → and_then o (λ vs. collect vs G) ≡ Some []
  of-empty None F G h q = cc
  of-empty (Some vs) F G h q = collect-empty vs F G h q

  in-empty : (o : Option Value) (F G : Value → Option (List Value)) → ((v : Value) → F v ≡ Some [] → G v ≡ Some []) →
      and_then o (λ u. collect (items_of u) F) ≡ Some [] → and_then o (λ u. collect (items_of u) G) ≡ Some []
  in-empty None F G h q = cc
  in-empty (Some u) F G h q = collect-empty (items_of u) F G h q

  where-empty : (o : Option Value) (p q : Option (List Value)) → (p ≡ Some [] → q ≡ Some []) → where_true o (λ u. p) ≡ Some [] →
      where_true o (λ u. q) ≡ Some []
  where-empty (Some (truth true)) p q h i = h i
  where-empty (Some (truth false)) p q h i = refl
  where-empty (Some (number n)) p q h i = refl
  where-empty (Some (item a n)) p q h i = refl
  where-empty (Some (node a vs)) p q h i = refl
  where-empty None p q h i = refl

  one-item : (o : Option Value) (p : Option (List Value)) → option_map (λ u. u ∷ []) o ≡ Some [] → p ≡ Some []
  one-item None p q = cc
  one-item (Some v) p q = cc

  items-empty : (gs : Gens) (env : Env) → items_under gs env (k e) ≡ Some [] → items_under gs env (k f) ≡ Some []
  items-empty no_gens env q = one-item (meaning e env) (k f env) q
  items-empty (over p d gs) env q = of-empty (members_in (domain_of d env)) (λ v. items_under gs (with_pat p v env) (k e))
      (λ v. items_under gs (with_pat p v env) (k f)) (λ v. items-empty gs (with_pat p v env)) q
  items-empty (from p s gs) env q = in-empty (meaning s env) (λ v. items_under gs (with_pat p v env) (k e))
      (λ v. items_under gs (with_pat p v env) (k f)) (λ v. items-empty gs (with_pat p v env)) q
  items-empty (cond c gs) env q =
      where-empty (meaning c env) (items_under gs env (k e)) (items_under gs env (k f)) (items-empty gs env) q

-- ---- the least of what has items

least-there : (x : Value) (xs : List Value) → IsTrue (is_some (least (x ∷ xs)))
least-there x [] = refl
least-there x (y ∷ ys) = go (least (y ∷ ys)) (least-there y ys)
  where
    go : (o : Option Value) → IsTrue (is_some o) → IsTrue (is_some (option_map (λ m. if below m x then m else x) o))
    go None h = h
    go (Some m) h = refl

greatest-there : (x : Value) (xs : List Value) → IsTrue (is_some (greatest (x ∷ xs)))
greatest-there x [] = refl
greatest-there x (y ∷ ys) = go (greatest (y ∷ ys)) (greatest-there y ys)
  where
    go : (o : Option Value) → IsTrue (is_some o) → IsTrue (is_some (option_map (λ m. if below x m then m else x) o))
    go None h = h
    go (Some m) h = refl

extreme-there : (f : Fun) (x : Value) (xs : List Value) → is_extreme f ≡ true →
    IsTrue (is_some (value_of_node (word f) (Some (list_value (x ∷ xs)) ∷ [])))
extreme-there Fun.Min x xs q = subst (λ l. IsTrue (is_some (least l))) (sym (to_list-of_list (x ∷ xs))) (least-there x xs)
extreme-there Fun.Max x xs q = subst (λ l. IsTrue (is_some (greatest l))) (sym (to_list-of_list (x ∷ xs))) (greatest-there x xs)
extreme-there _ x xs q = cc

module _ (env : Env) where
  -- Where some item is there, so is the least.
  least-where : (f : Fun) (a : Alternative) → is_extreme f ≡ true → Valued false (laid_out a) env →
      as_truth (meaning (has_items a) env) ≡ true → IsTrue (is_some (meaning (fun1 false f (laid_out a)) env))
  least-where f a q h t = go (items_under a.gens env (k a.item)) (list-some (items_under a.gens env (k a.item)) h.0)
      (items-empty a.item (truth_ex true) a.gens env)
    where
      go : (o : Option (List Value)) → IsTrue (is_some o) → (o ≡ Some [] → items_under a.gens env (k (truth_ex true)) ≡ Some []) →
          IsTrue (is_some (value_of_node (word f) (option_map list_value o ∷ [])))
      go None h e = cc
      go (Some (x ∷ xs)) h e = extreme-there f x xs q
      go (Some []) h e = absurd (no (sym t ∙ ap (λ o. as_truth (value_of_node (word Fun.Or) (option_map list_value o ∷ []))) (e refl)))
        where
          no : true ≡ false → ⊥
          no q = cc

  -- Whether there is an item has values.
  has-items-valued : (a : Alternative) → Valued false (laid_out a) env → Valued false (has_items a) env
  has-items-valued a h = (tt, (comp-kept a.item (truth_ex true) (λ here v. tt) a.gens env h, tt))

  -- The least, where there is an item.
  extreme-valued : (f : Fun) (a : Alternative) → is_extreme f ≡ true → Valued false (laid_out a) env →
      Valued false (extreme f (laid_out a)) env
  extreme-valued f a q h = word-valued false Fun.Sum
      (comp_ex (fun1 false f (laid_out a)) (cond (has_items a) no_gens)) env (λ v. refl) (
        some-list (items_under (cond (has_items a) no_gens) env (k (fun1 false f (laid_out a))))
            (one-where (meaning (has_items a) env) (k (fun1 false f (laid_out a)) env)
            (λ t. item-there (meaning (fun1 false f (laid_out a)) env) (least-where f a q h t))),
        (
          has-items-valued a h,
          λ t. node-valued false false (word f) (more_exs (laid_out a) no_exs) env refl (least-where f a q h t) (h, tt),
        ),
      )
    where
      one-where : (o : Option Value) (p : Option (List Value)) → (as_truth o ≡ true → IsTrue (is_some p)) →
          IsTrue (is_some (where_true o (λ u. p)))
      one-where (Some (truth true)) p h = h refl
      one-where (Some (truth false)) p h = refl
      one-where (Some (number n)) p h = refl
      one-where (Some (item a n)) p h = refl
      one-where (Some (node a vs)) p h = refl
      one-where None p h = refl

  -- Numbers that an operator makes of two that are there.
  plus-valued : (a b : Ex) → Valued false a env → Valued false b env → Valued false (ex2 false Op2.Plus a b) env
  plus-valued a b h l = node-valued false false (binary Op2.Plus) (more_exs a (more_exs b no_exs)) env refl
      (go (meaning a env) (meaning b env) (there a env h) (there b env l)) (h, (l, tt))
    where
      go : (o p : Option Value) → IsTrue (is_some o) → IsTrue (is_some p) → IsTrue (is_some (value_of_node (binary Op2.Plus) (o ∷ p ∷ [])))
      go None p h l = cc
      go (Some v) None h l = cc
      go (Some v) (Some u) h l = refl

  times-valued : (a b : Ex) → Valued false a env → Valued false b env → Valued false (ex2 false Op2.Times a b) env
  times-valued a b h l = node-valued false false (binary Op2.Times) (more_exs a (more_exs b no_exs)) env refl
      (go (meaning a env) (meaning b env) (there a env h) (there b env l)) (h, (l, tt))
    where
      go : (o p : Option Value) → IsTrue (is_some o) → IsTrue (is_some p) → IsTrue (is_some (value_of_node (binary Op2.Times) (o ∷ p ∷ [])))
      go None p h l = cc
      go (Some v) None h l = cc
      go (Some v) (Some u) h l = refl

  minus-valued : (a : Ex) → Valued false a env → Valued false (ex1 false Op1.Minus a) env
  minus-valued a h = node-valued false false (unary Op1.Minus) (more_exs a no_exs) env refl (go (meaning a env) (there a env h)) (h, tt)
    where
      go : (o : Option Value) → IsTrue (is_some o) → IsTrue (is_some (value_of_node (unary Op1.Minus) (o ∷ [])))
      go None h = cc
      go (Some v) h = refl

  -- ---- several alternatives

  -- Each of them has values.
  abbrev pub AllLaid : List Alternative → Type 0
  AllLaid [] = Unit {0}
  AllLaid (a ∷ l) = Valued false (laid_out a) env × AllLaid l

  sizes-valued : (l : List Alternative) → AllLaid l → AllValued false false (each_size l) env
  sizes-valued [] h = tt
  sizes-valued (a ∷ l) h = (
    word-valued false Fun.Sum (comp_ex (ex1 false Op1.Bar a.item) a.gens) env (λ v. refl)
        (comp-kept a.item (ex1 false Op1.Bar a.item) (λ here v. size-valued false a.item here v) a.gens env h.0),
    sizes-valued l h.1,
  )

  past-valued : (f : Fun) (l : List Alternative) → AllLaid l → Valued false (past_all f l) env
  past-valued f l h = go f
    where
      sum : Valued false (fun1 false Fun.Sum (list_of (each_size l))) env
      sum = word-valued false Fun.Sum (list_of (each_size l)) env (λ v. refl) (list-valued false (each_size l) env (sizes-valued l h))

      go : (f : Fun) → Valued false (past_all f l) env
      go Fun.Max = minus-valued (fun1 false Fun.Sum (list_of (each_size l))) sum
      go _ = sum

  extremes-valued : (f : Fun) (m : Ex) (l : List Alternative) → is_extreme f ≡ true → Valued false m env → AllLaid l →
      AllValued false false (each_extreme f m l) env
  extremes-valued f m [] q v h = tt
  extremes-valued f m (a ∷ l) q v h = (
    plus-valued (extreme f (laid_out a)) (ex2 false Op2.Times (chosen (ex1 true Op1.Not (has_items a))) m) (extreme-valued f a q h.0)
        (times-valued (chosen (ex1 true Op1.Not (has_items a))) m (
          refl,
          ((tt, (has-items-valued a h.0, tt)), tt),
        ) v),
    extremes-valued f m l q v h.1,
  )

  -- The list of the least of each, with the number past all where one has none.
  pub parted-valued : (f : Fun) (l : List Alternative) → is_extreme f ≡ true → AllLaid l →
      Valued false (list_of (each_extreme f (past_all f l) l)) env
  parted-valued f l q h = list-valued false (each_extreme f (past_all f l) l) env
      (extremes-valued f (past_all f l) l q (past-valued f l h) h)
