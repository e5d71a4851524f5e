-- Numbers from 1 on: their order, and what quantifiers over them mean.
use Rattle.std.proofs.Common.{◌≡◌, refl, sym, ap, ◌∙◌, ℕ, zero, suc, ◌<◌, ◌≤◌, ◌⊎◌, inl, inr, Bool, true, false, ◌&&◌, ◌||◌, not, if◌then◌else◌, List, [], ◌∷◌, ◌++◌, map, pos, ◌<ℤ◌, Option, Some, option_map, arith, eq-or-lt_of_le}
use Rattle.std.specs.Prelude.{nat_lt, nat_le}
use Rattle.std.specs.Ordering.{is_lt, MatchOrdering}
use Rattle.std.specs.Cmp.{int_cmp_is}
use Rattle.std.specs.declared.cmp.Ordering.{Ordering}
use Rattle.std.specs.declared.cmp.Ordering.TheVariants.{Less, Equal, Greater}
use Rattle.std.proofs.lemmas.Bool.{leb-true, leb-false, le-leb}
use Rattle.std.proofs.lemmas.Int.{ints}
use Rattle.ess_semantics.specs.declared.words.Fun.{Fun}
use Rattle.ess_semantics.specs.Lists.{and_then}
use Rattle.ess_semantics.specs.Values.{Text, Value, number, truth}
use Rattle.ess_semantics.specs.Order.{below}
use Rattle.ess_semantics.specs.Numbers.{run_from, one_to}
use Rattle.ess_semantics.specs.Trees.{name_pat, Ex, comp_ex, fun1, Gens, over}
use Rattle.ess_semantics.specs.Operators.{all_true, any_true, implies}
use Rattle.ess_semantics.specs.Meaning.{Env, meaning, items_under, collect, where_true}
use Rattle.ess_guard_laws.specs.IndexDomains.{one_up_to}
use Rattle.ess_rules_laws.proofs.Connectives.{all-means, any-means}
use Rattle.ess_rules_laws.proofs.RuleAnswers.{behind}
use Rattle.ess_rules_laws.proofs.SlotNumbers.{slots-members}
use Rattle.ess_numbered_laws.specs.OrderLaws.{at_some, at_each}

-- ---- numbers

-- The order of numbers that aren't below 0.
pub lower-number : (m n : ℕ) → below (number (pos m)) (number (pos n)) ≡ nat_lt m n
lower-number m n = go (nat_lt m n) refl
  where
    turned : (o : Ordering) → MatchOrdering o (pos m <ℤ pos n) (pos m ≡ pos n) (pos n <ℤ pos m) → below (number (pos m)) (number (pos n))
        ≡ is_lt o
    turned o h = ap is_lt (sym (int_cmp_is (pos m) (pos n) o h))

    go : (b : Bool) → nat_lt m n ≡ b → below (number (pos m)) (number (pos n)) ≡ b
    go true e = let l : suc m ≤ n = leb-true (suc m) n e in turned Less (omega (arith, ints))
    go false e = let l = leb-false (suc m) n e in not-lower (eq-or-lt_of_le (let h : n ≤ m = omega arith in h))
      where
        not-lower : (n ≡ m) ⊎ (n < m) → below (number (pos m)) (number (pos n)) ≡ false
        not-lower (inl q) = turned Equal (ap pos (sym q))
        not-lower (inr q) = turned Greater (omega (arith, ints))

-- The same as `<=` says it.
pub no-higher-number : (m n : ℕ) → not (below (number (pos n)) (number (pos m))) ≡ nat_le m n
no-higher-number m n = ap not (lower-number n m) ∙ go (nat_le m n) refl
  where
    go : (b : Bool) → nat_le m n ≡ b → not (nat_lt n m) ≡ b
    go true e = let l : m ≤ n = leb-true m n e in ap not (not-lt (nat_lt n m) refl)
      where
        not-lt : (c : Bool) → nat_lt n m ≡ c → c ≡ false
        not-lt false q = refl
        not-lt true q = let k : suc n ≤ m = leb-true (suc n) m q in let l : m ≤ n = leb-true m n e in let z : ⊥ = omega arith in absurd z
    go false e = let l = leb-false m n e in ap not (le-leb (suc n) m (omega arith))

-- ---- quantifiers over numbers

-- Under a condition there is one truth value at a number, else none.
abbrev pub bit_where : Bool → Bool → List Value
bit_where c b = if c then truth b ∷ [] else []

-- What a condition leaves of one truth value.
pub where-true : (c b : Bool) → where_true (Some (truth c)) (λ u. Some (truth b ∷ [])) ≡ Some (bit_where c b)
where-true true b = refl
where-true false b = refl

-- What is collected at numbers.
collect-numbers : (c f : ℕ → Bool) (G : Value → Option (List Value)) → ((j : ℕ) → G (number (pos j)) ≡ Some (bit_where (c j) (f j))) →
    (k n : ℕ) →
    (l : List Value) × (collect (map number (run_from k n)) G ≡ Some l) × (any_true l ≡ at_some (λ j. c j && f j) k n)
    × (all_true l ≡ at_each (λ j. implies (c j) (f j)) k n)
collect-numbers c f G h k zero = ([], refl, refl, refl)
collect-numbers c f G h k (suc n) = let r = collect-numbers c f G h (suc k) n in (
  bit_where (c k) (f k) ++ r.0,
  ap (λ o. and_then o (λ xs. option_map (λ ys. xs ++ ys) (collect (map number (run_from (suc k) n)) G))) (h k)
      ∙ ap (option_map (λ ys. bit_where (c k) (f k) ++ ys)) r.1,
  any-first (c k) (f k) r.0 ∙ ap (λ b. (c k && f k) || b) r.2,
  all-first (c k) (f k) r.0 ∙ ap (λ b. implies (c k) (f k) && b) r.3,
)
  where
    any-first : (c b : Bool) (l : List Value) → any_true (bit_where c b ++ l) ≡ (c && b) || any_true l
    any-first true b l = refl
    any-first false b l = refl

    all-first : (c b : Bool) (l : List Value) → all_true (bit_where c b ++ l) ≡ implies c b && all_true l
    all-first true b l = refl
    all-first false b l = refl

module _ (x : Text) (n : Ex) (env : Env) (most : ℕ) (value : meaning n env ≡ Some (number (pos most))) (body : Ex) (gs : Gens)
    (c f : ℕ → Bool)
    (at : (j : ℕ) → items_under gs (behind x (number (pos j)) env) (λ here. option_map (λ v. v ∷ []) (meaning body here))
    ≡ Some (bit_where (c j) (f j))) where
  abbrev G : Value → Option (List Value)
  G v = items_under gs (behind x v env) (λ here. option_map (λ v. v ∷ []) (meaning body here))

  collected : (l : List Value) → collect (map number (one_to most)) G ≡ Some l →
      items_under (over (name_pat x) (one_up_to n) gs) env (λ here. option_map (λ v. v ∷ []) (meaning body here)) ≡ Some l
  collected l q = ap (λ o. and_then o (λ vs. collect vs G)) (slots-members n env most value) ∙ q

  -- `or([body | x : int(1..n), gs])`.
  pub some-number : meaning (fun1 true Fun.Or (comp_ex body (over (name_pat x) (one_up_to n) gs))) env
      ≡ Some (truth (at_some (λ j. c j && f j) 1 most))
  some-number = let r = collect-numbers c f G at 1 most in
      any-means env body (over (name_pat x) (one_up_to n) gs) r.0 (collected r.0 r.1) ∙ ap (λ b. Some (truth b)) r.2

  -- `and([body | x : int(1..n), gs])`.
  pub each-number : meaning (fun1 true Fun.And (comp_ex body (over (name_pat x) (one_up_to n) gs))) env
      ≡ Some (truth (at_each (λ j. implies (c j) (f j)) 1 most))
  each-number = let r = collect-numbers c f G at 1 most in
      all-means env body (over (name_pat x) (one_up_to n) gs) r.0 (collected r.0 r.1) ∙ ap (λ b. Some (truth b)) r.3
