-- Folds of lists: of lists with the same items equally often, and of lists one behind the other.
use Rattle.std.proofs.Common.{◌≡◌, refl, sym, ap, ◌∙◌, ℕ, zero, suc, Bool, true, false, ◌&&◌, ◌||◌, if◌then◌else◌, List, [], ◌∷◌, ◌++◌, ℤ, Option, Some, None, option_map, arith}
use Rattle.std.specs.Prelude.{◌+ℤ◌, ◌*ℤ◌}
use Rattle.std.proofs.lemmas.Int.{ints}
use Rattle.std.proofs.Math.IntN.{*ℤ_comm}
use Rattle.ess_semantics.specs.declared.words.Fun.{Fun}
use Rattle.ess_semantics.specs.Lists.{and_then, all_some}
use Rattle.ess_semantics.specs.Values.{Value, number, truth}
use Rattle.ess_semantics.specs.Order.{same}
use Rattle.ess_semantics.specs.Collections.{holds, count}
use Rattle.ess_semantics.specs.Trees.{word, Exs, fun1}
use Rattle.ess_semantics.specs.Operators.{misfit, all_true, any_true, sum_of, product_of, truth_in, number_in, list_value, value_of_node, value_of_word1, false_where_undefined}
use Rattle.ess_semantics.specs.Meaning.{Env, meaning, meanings}
use Rattle.ess_semantics.proofs.Orders.{to_list-of_list, same-equal, same-itself}
use Rattle.ess_semantics.proofs.Multisets.{count-holds}
use Rattle.ess_rules_laws.specs.SourceRules.{is_marked, list_of}
use Rattle.ess_rules_laws.proofs.Permutations.{Perm, same_list, skip, swap, chain, perm-of, perm-sym, count-perm, all-perm, any-perm}
use Rattle.ess_rules_laws.proofs.Unordered.{sum-perm, product-perm, product-swap}

-- ---- counts and order

-- A member taken to the front.
take-out : (x : Value) (ys : List Value) → holds ys x ≡ true → (zs : List Value) × Perm ys (x ∷ zs)
take-out x [] h = cc
take-out x (y ∷ ys) h = go (same y x) refl h (λ q. take-out x ys q)
  where
    go : (b : Bool) → same y x ≡ b → b || holds ys x ≡ true → (holds ys x ≡ true → (zs : List Value) × Perm ys (x ∷ zs)) → (zs : List Value) × Perm (y ∷ ys) (x ∷ zs)
    go true q h r = (ys, perm-of (ap (λ z. z ∷ ys) (same-equal y x q)))
    go false q h r = let t = r h in (y ∷ t.0, chain (skip t.1) swap)

-- Lists with the same items equally often are the same in another order.
pub perm-counts : (xs ys : List Value) → ((v : Value) → count xs v ≡ count ys v) → Perm xs ys
perm-counts [] [] h = same_list
perm-counts [] (y ∷ ys) h = absurd (let e : zero ≡ suc (count ys y) = h y ∙ ap (λ b. if b then suc (count ys y) else count ys y) (same-itself y) in omega arith)
perm-counts (x ∷ xs) ys h =
    let n : suc (count xs x) ≡ count ys x = sym (ap (λ b. if b then suc (count xs x) else count xs x) (same-itself x)) ∙ h x in
    let t = take-out x ys (count-holds ys x (count xs x) (sym n)) in
    chain (skip (perm-counts xs t.0 (λ v. less (same x v) (count xs v) (count t.0 v) (h v ∙ count-perm t.1 v)))) (perm-sym t.1)
  where
    less : (b : Bool) (m n : ℕ) → (if b then suc m else m) ≡ (if b then suc n else n) → m ≡ n
    less true m n e = omega arith
    less false m n e = e

-- ---- folds

-- The value of a fold.
abbrev pub folded : Fun → List Value → Value
folded Fun.And xs = truth (all_true xs)
folded Fun.Or xs = truth (any_true xs)
folded Fun.Sum xs = number (sum_of xs)
folded Fun.Product xs = number (product_of xs)
folded f xs = misfit

-- A fold doesn't see the order.
pub folded-perm : (m : Bool) (f : Fun) → is_marked m f ≡ true → {xs ys : List Value} → Perm xs ys → folded f xs ≡ folded f ys
folded-perm true Fun.And q p = ap truth (all-perm p)
folded-perm true Fun.Or q p = ap truth (any-perm p)
folded-perm false Fun.Sum q p = ap number (sum-perm p)
folded-perm false Fun.Product q p = ap number (product-perm p)
folded-perm _ _ q p = cc

-- What a fold means whose items are there.
pub fold-means : (m : Bool) (f : Fun) → is_marked m f ≡ true → (o : Option (List Value)) (xs : List Value) → o ≡ Some xs →
    false_where_undefined m (value_of_node (word f) (option_map list_value o ∷ [])) ≡ Some (folded f xs)
fold-means m f q o xs e = ap (λ z. false_where_undefined m (value_of_node (word f) (option_map list_value z ∷ []))) e ∙ go m f q
  where
    go : (m : Bool) (f : Fun) → is_marked m f ≡ true → false_where_undefined m (value_of_word1 f (list_value xs)) ≡ Some (folded f xs)
    go true Fun.And q = ap (λ l. Some (truth (all_true l))) (to_list-of_list xs)
    go true Fun.Or q = ap (λ l. Some (truth (any_true l))) (to_list-of_list xs)
    go false Fun.Sum q = ap (λ l. Some (number (sum_of l))) (to_list-of_list xs)
    go false Fun.Product q = ap (λ l. Some (number (product_of l))) (to_list-of_list xs)
    go _ _ q = cc

all-append : (xs ys : List Value) → all_true (xs ++ ys) ≡ all_true xs && all_true ys
all-append [] ys = refl
all-append (x ∷ xs) ys = ap (λ b. truth_in x && b) (all-append xs ys) ∙ go (truth_in x)
  where
    go : (b : Bool) → b && (all_true xs && all_true ys) ≡ (b && all_true xs) && all_true ys
    go true = refl
    go false = refl

any-append : (xs ys : List Value) → any_true (xs ++ ys) ≡ any_true xs || any_true ys
any-append [] ys = refl
any-append (x ∷ xs) ys = ap (λ b. truth_in x || b) (any-append xs ys) ∙ go (truth_in x)
  where
    go : (b : Bool) → b || (any_true xs || any_true ys) ≡ (b || any_true xs) || any_true ys
    go true = refl
    go false = refl

sum-append : (xs ys : List Value) → sum_of (xs ++ ys) ≡ sum_of xs +ℤ sum_of ys
sum-append [] ys = omega (arith, ints)
sum-append (x ∷ xs) ys = ap (λ n. number_in x +ℤ n) (sum-append xs ys) ∙ (let e : number_in x +ℤ (sum_of xs +ℤ sum_of ys) ≡ (number_in x +ℤ sum_of xs) +ℤ sum_of ys = omega (arith, ints) in e)

apart : (a b c : ℤ) → a *ℤ (b *ℤ c) ≡ (a *ℤ b) *ℤ c
apart a b c = ap (λ z. a *ℤ z) (*ℤ_comm b c) ∙ product-swap a c b ∙ *ℤ_comm c (a *ℤ b)

product-append : (xs ys : List Value) → product_of (xs ++ ys) ≡ product_of xs *ℤ product_of ys
product-append [] ys = omega (arith, ints)
product-append (x ∷ xs) ys = ap (λ n. number_in x *ℤ n) (product-append xs ys) ∙ apart (number_in x) (product_of xs) (product_of ys)

-- A fold of lists one behind the other is the fold of their folds.
pub folded-append : (m : Bool) (f : Fun) → is_marked m f ≡ true → (xs ys zs : List Value) → folded f ys ≡ folded f zs → folded f (xs ++ ys) ≡ folded f (folded f xs ∷ zs)
folded-append true Fun.And q xs ys zs e = ap truth (all-append xs ys ∙ ap (λ v. all_true xs && truth_in v) e)
folded-append true Fun.Or q xs ys zs e = ap truth (any-append xs ys ∙ ap (λ v. any_true xs || truth_in v) e)
folded-append false Fun.Sum q xs ys zs e = ap number (sum-append xs ys ∙ ap (λ v. sum_of xs +ℤ number_in v) e)
folded-append false Fun.Product q xs ys zs e = ap number (product-append xs ys ∙ ap (λ v. product_of xs *ℤ number_in v) e)
folded-append _ _ q xs ys zs e = cc

-- What a fold of a list literal means whose items are there.
pub literal-means : (m : Bool) (f : Fun) → is_marked m f ≡ true → (es : Exs) (env : Env) (xs : List Value) → all_some (meanings es env) ≡ Some xs →
    meaning (fun1 m f (list_of es)) env ≡ Some (folded f xs)
literal-means m f q es env xs e = ap (λ z. false_where_undefined m (value_of_node (word f) (z ∷ []))) (go (all_some (meanings es env))) ∙ fold-means m f q (all_some (meanings es env)) xs e
  where
    go : (o : Option (List Value)) → and_then o (λ ys. Some (list_value ys)) ≡ option_map list_value o
    go None = refl
    go (Some ys) = refl
