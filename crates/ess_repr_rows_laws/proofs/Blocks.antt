-- Lists of blocks of equal length: so many of them, one behind the other.
use Rattle.std.proofs.Common.{◌≡◌, refl, sym, ap, ◌∙◌, ℕ, zero, suc, ◌+◌, ◌*◌, ◌-◌, List, [], ◌∷◌, ◌++◌, map, length, take, ℤ, pos, suc-mul, arith}
use Rattle.ess_semantics.specs.Lists.{append_all}
use Rattle.ess_repr_rows_laws.specs.Stacking.{zeros, fitted}
use Rattle.ess_repr_laws.proofs.CanonicalPlaces.{AllOf}

-- Exactly n items: the first ones, and x where there are fewer.
abbrev pub filled_up : {A : Type 0} → A → ℕ → List A → List A
filled_up x zero xs = []
filled_up x (suc n) [] = x ∷ filled_up x n []
filled_up x (suc n) (y ∷ ys) = y ∷ filled_up x n ys

-- ---- lists

-- Lists behind lists.
pub append-assoc : {A : Type 0} (xs ys zs : List A) → (xs ++ ys) ++ zs ≡ xs ++ (ys ++ zs)
append-assoc [] ys zs = refl
append-assoc (x ∷ xs) ys zs = ap (λ l. x ∷ l) (append-assoc xs ys zs)

-- All of two lists of lists.
pub append_all-append : {A : Type 0} (xs ys : List (List A)) → append_all (xs ++ ys) ≡ append_all xs ++ append_all ys
append_all-append [] ys = refl
append_all-append (x ∷ xs) ys = ap (λ l. x ++ l) (append_all-append xs ys) ∙ sym (append-assoc x (append_all xs) (append_all ys))

-- Two maps are one.
pub map-twice : {A B C : Type 0} (f : B → C) (g : A → B) (xs : List A) → map f (map g xs) ≡ map (λ x. f (g x)) xs
map-twice f g [] = refl
map-twice f g (x ∷ xs) = ap (λ l. f (g x) ∷ l) (map-twice f g xs)

-- Maps that agree on each item.
pub map-same : {A B : Type 0} (f g : A → B) (xs : List A) → AllOf xs (λ x. f x ≡ g x) → map f xs ≡ map g xs
map-same f g [] h = refl
map-same f g (x ∷ xs) h = ap (λ l. l ∷ map f xs) h.0 ∙ ap (λ l. g x ∷ l) (map-same f g xs h.1)

-- A map of two lists.
pub map-both : {A B : Type 0} (f : A → B) (xs ys : List A) → map f (xs ++ ys) ≡ map f xs ++ map f ys
map-both f [] ys = refl
map-both f (x ∷ xs) ys = ap (λ l. f x ∷ l) (map-both f xs ys)

-- A map has as many items.
pub map-length : {A B : Type 0} (f : A → B) (xs : List A) → length (map f xs) ≡ length xs
map-length f [] = refl
map-length f (x ∷ xs) = ap suc (map-length f xs)

-- ---- zeros

-- Zeros behind zeros.
pub zeros-sum : (n m : ℕ) → zeros (n + m) ≡ zeros n ++ zeros m
zeros-sum zero m = let q : 0 + m ≡ m = omega arith in ap zeros q
zeros-sum (suc n) m = let q : suc n + m ≡ suc (n + m) = omega arith in ap zeros q ∙ ap (λ l. pos 0 ∷ l) (zeros-sum n m)

-- A block more.
pub block-more : (n v : ℕ) → suc n * v ≡ v + n * v
block-more n v = let x = suc-mul n v in omega arith

-- ---- exactly so many items

-- No items are filled up with zeros.
pub fitted-none : (n : ℕ) → fitted n [] ≡ zeros n
fitted-none zero = refl
fitted-none (suc n) = let q : suc n - 0 ≡ suc n = omega arith in ap zeros q

-- No items are none.
pub fitted-zero : (xs : List ℤ) → fitted 0 xs ≡ []
fitted-zero xs = let q : 0 - length xs ≡ 0 = omega arith in ap zeros q

-- An item in front.
pub fitted-cons : (x : ℤ) (xs : List ℤ) (n : ℕ) → fitted (suc n) (x ∷ xs) ≡ x ∷ fitted n xs
fitted-cons x xs n = let q : suc n - suc (length xs) ≡ n - length xs = omega arith in ap (λ k. x ∷ (take n xs ++ zeros k)) q

-- Items in front.
pub fitted-behind : (xs ys : List ℤ) (n : ℕ) → fitted (length xs + n) (xs ++ ys) ≡ xs ++ fitted n ys
fitted-behind [] ys n = let q : 0 + n ≡ n = omega arith in ap (λ m. fitted m ys) q
fitted-behind (x ∷ xs) ys n =
    let q : suc (length xs) + n ≡ suc (length xs + n) = omega arith in
    ap (λ m. fitted m (x ∷ (xs ++ ys))) q ∙ fitted-cons x (xs ++ ys) (length xs + n) ∙ ap (λ l. x ∷ l) (fitted-behind xs ys n)

-- Blocks of v items, filled up with blocks of zeros, are the items filled up with zeros.
pub blocks-fitted : (n v : ℕ) (xss : List (List ℤ)) → AllOf xss (λ xs. length xs ≡ v) →
    append_all (filled_up (zeros v) n xss) ≡ fitted (n * v) (append_all xss)
blocks-fitted zero v xss h = let q : 0 * v ≡ 0 = omega arith in sym (fitted-zero (append_all xss)) ∙ ap (λ n. fitted n (append_all xss)) (sym q)
blocks-fitted (suc n) v [] h =
    ap (λ l. zeros v ++ l) (blocks-fitted n v [] tt ∙ fitted-none (n * v)) ∙ sym (zeros-sum v (n * v)) ∙ ap zeros (sym (block-more n v))
    ∙ sym (fitted-none (suc n * v))
blocks-fitted (suc n) v (xs ∷ xss) h =
    ap (λ l. xs ++ l) (blocks-fitted n v xss h.1) ∙ sym (fitted-behind xs (append_all xss) (n * v))
    ∙ ap (λ m. fitted (m + n * v) (xs ++ append_all xss)) h.0 ∙ ap (λ m. fitted m (xs ++ append_all xss)) (sym (block-more n v))
