-- Expressions that are apart by their form have different values: so an equality of them is false, and its negation true.
use Rattle.std.proofs.Common.{◌≡◌, refl, sym, ap, ◌∙◌, Bool, true, false, ◌||◌, not, List, [], ◌∷◌, Option, Some, None, option_map}
use Rattle.std.specs.Ordering.{ordering_then, is_eq}
use Rattle.std.specs.declared.cmp.Ordering.{Ordering}
use Rattle.std.specs.declared.cmp.Ordering.TheVariants.{Less, Equal, Greater}
use Rattle.ess_semantics.specs.declared.words.Op1.{Op1}
use Rattle.ess_semantics.specs.declared.words.Op2.{Op2}
use Rattle.ess_semantics.specs.Lists.{and_then, all_some}
use Rattle.ess_semantics.specs.Values.{Value, number, truth, tuple, of_list}
use Rattle.ess_semantics.specs.Order.{order, orders, same, same_int}
use Rattle.ess_semantics.specs.Trees.{binary, tuple_literal, Ex, Exs, number_ex, truth_ex, node_ex, ex1, ex2, more_exs}
use Rattle.ess_semantics.specs.Operators.{iff, value_of_node, false_where_undefined}
use Rattle.ess_semantics.specs.Meaning.{Env, meaning, meanings}
use Rattle.ess_semantics.proofs.Tests.{not-true}
use Rattle.ess_rules_laws.specs.Apart.{are_apart, any_apart}
use Rattle.ess_rules_laws.proofs.Connectives.{binary-means, not-means}

-- Different truth values.
truths-differ : (b c : Bool) → not (iff b c) ≡ true → same (truth b) (truth c) ≡ false
truths-differ true true h = cc
truths-differ true false h = refl
truths-differ false true h = refl
truths-differ false false h = cc

-- Lists of values that differ in the first one, or behind it.
first-differs : (o p : Ordering) → is_eq o ≡ false → is_eq (ordering_then o p) ≡ false
first-differs Less p h = refl
first-differs Equal p h = cc
first-differs Greater p h = refl

rest-differs : (o p : Ordering) → is_eq p ≡ false → is_eq (ordering_then o p) ≡ false
rest-differs Less p h = refl
rest-differs Equal p h = h
rest-differs Greater p h = refl

-- The values of a tuple literal that is there.
tuple-there : (os : List (Option Value)) (v : Value) → value_of_node tuple_literal os ≡ Some v →
    (vs : List Value) × (all_some os ≡ Some vs) × (v ≡ tuple (of_list vs))
tuple-there os v p = go (all_some os) refl p
  where
    go : (o : Option (List Value)) → all_some os ≡ o → and_then o (λ vs. Some (tuple (of_list vs))) ≡ Some v →
        (vs : List Value) × (all_some os ≡ Some vs) × (v ≡ tuple (of_list vs))
    go None q p = cc
    go (Some vs) q p = (vs, q, cc)

-- The values of items that are there.
more-there : (o : Option Value) (p : Option (List Value)) (vs : List Value) → and_then o (λ x. option_map (λ xs. x ∷ xs) p) ≡ Some vs →
    (x : Value) × (xs : List Value) × (o ≡ Some x) × (p ≡ Some xs) × (vs ≡ x ∷ xs)
more-there None p vs h = cc
more-there (Some x) None vs h = cc
more-there (Some x) (Some xs) vs h = (x, xs, refl, refl, cc)

-- Lists that differ in the first item or behind it.
either : (b c : Bool) (o p : Ordering) → b || c ≡ true → (b ≡ true → is_eq o ≡ false) → (c ≡ true → is_eq p ≡ false) →
    is_eq (ordering_then o p) ≡ false
either true c o p h f g = first-differs o p (f refl)
either false c o p h f g = rest-differs o p (g h)

mutual
  -- Expressions that are apart have different values.
  pub apart-differ : (a b : Ex) (env : Env) → are_apart a b ≡ true → (v w : Value) → meaning a env ≡ Some v → meaning b env ≡ Some w →
      same v w ≡ false
  apart-differ (number_ex m) (number_ex n) env h v w p q =
      let i : number m ≡ v = cc in let j : number n ≡ w = cc in
      ap (λ z. same z w) (sym i) ∙ ap (same (number m)) (sym j) ∙ not-true (same_int m n) h
  apart-differ (truth_ex b) (truth_ex c) env h v w p q =
      let i : truth b ≡ v = cc in let j : truth c ≡ w = cc in
      ap (λ z. same z w) (sym i) ∙ ap (same (truth b)) (sym j) ∙ truths-differ b c h
  apart-differ (node_ex false tuple_literal es) (node_ex false tuple_literal fs) env h v w p q =
      let i = tuple-there (meanings es env) v p in let j = tuple-there (meanings fs env) w q in
      ap (λ z. same z w) i.2 ∙ ap (same (tuple (of_list i.0))) j.2 ∙ any_apart-differ es fs env h i.0 j.0 i.1 j.1
  apart-differ a b env h v w p q = cc

  -- So have lists of items, two of which are apart at one place.
  any_apart-differ : (es fs : Exs) (env : Env) → any_apart es fs ≡ true → (vs ws : List Value) → all_some (meanings es env) ≡ Some vs →
      all_some (meanings fs env) ≡ Some ws →
      is_eq (orders (of_list vs) (of_list ws)) ≡ false
  any_apart-differ (more_exs e es) (more_exs f fs) env h vs ws p q =
      let i = more-there (meaning e env) (all_some (meanings es env)) vs p in
      let j = more-there (meaning f env) (all_some (meanings fs env)) ws q in
      ap (λ z. is_eq (orders (of_list z) (of_list ws))) i.4 ∙ ap (λ z. is_eq (orders (of_list (i.0 ∷ i.1)) (of_list z))) j.4
      ∙ either (are_apart e f) (any_apart es fs) (order i.0 j.0) (orders (of_list i.1) (of_list j.1)) h
      (λ k. apart-differ e f env k i.0 j.0 i.2 j.2)
      (λ k. any_apart-differ es fs env k i.1 j.1 i.3 j.3)
  any_apart-differ es fs env h vs ws p q = cc

-- An equality of such expressions is false, be they there or not.
pub apart-equal : (a b : Ex) (env : Env) → are_apart a b ≡ true → meaning (ex2 true Op2.Eq a b) env ≡ Some (truth false)
apart-equal a b env h = go (meaning a env) refl (meaning b env) refl
  where
    go : (o : Option Value) → meaning a env ≡ o → (p : Option Value) → meaning b env ≡ p →
        false_where_undefined true (value_of_node (binary Op2.Eq) (meaning a env ∷ meaning b env ∷ [])) ≡ Some (truth false)
    go None q p r = ap (λ z. false_where_undefined true (value_of_node (binary Op2.Eq) (z ∷ meaning b env ∷ []))) q
    go (Some v) q None r =
        ap (λ z. false_where_undefined true (value_of_node (binary Op2.Eq) (z ∷ meaning b env ∷ []))) q
        ∙ ap (λ z. false_where_undefined true (value_of_node (binary Op2.Eq) (Some v ∷ z ∷ []))) r
    go (Some v) q (Some w) r = binary-means env true Op2.Eq a b v w q r ∙ ap (λ c. Some (truth c)) (apart-differ a b env h v w q r)

-- Its negation is true.
pub apart-unequal : (a b : Ex) (env : Env) → are_apart a b ≡ true → meaning (ex1 true Op1.Not (ex2 true Op2.Eq a b)) env ≡ Some (truth true)
apart-unequal a b env h = not-means env (ex2 true Op2.Eq a b) false (apart-equal a b env h)
