-- Runs of numbers, and the place of a number in a run or another list.
use Rattle.std.proofs.Common.{◌≡◌, refl, sym, ap, ◌∙◌, ℕ, zero, suc, ◌+◌, ◌<◌, ◌≤◌, Bool, true, false, if◌then◌else◌, List, [], ◌∷◌, ◌++◌, length, get_or, take, drop, ℤ, pos, negsuc, ◌+ℤ◌, ◌-ℤ◌, ◌≤ℤ◌, ◌<ℤ◌, Option, Some, None, option_map, arith, take_all}
use Rattle.std.specs.Prelude.{nat_abs}
use Rattle.std.proofs.lemmas.Int.{ints}
use Rattle.std.proofs.lemmas.List.{at_drop_more, take_more, drop_all}
use Rattle.ess_semantics.specs.Order.{same_int}
use Rattle.ess_semantics.proofs.Orders.{same_int-equal, same_int-itself}
use Rattle.eprime_eval_scalars.specs.Grids.{numbers_from, place_of}

-- ---- runs of numbers

pub run_length : (a : ℤ) (n : ℕ) → length (numbers_from a n) ≡ n
run_length a zero = refl
run_length a (suc n) = ap suc (run_length (a +ℤ pos 1) n)

from-push : (a : ℤ) (n : ℕ) → numbers_from a (suc n) ≡ numbers_from a n ++ (a +ℤ pos n) ∷ []
from-push a zero = ap (λ z. z ∷ []) (omega (arith, ints))
from-push a (suc n) =
    ap (λ l. a ∷ l) (from-push (a +ℤ pos 1) n) ∙ ap (λ z. a ∷ (numbers_from (a +ℤ pos 1) n ++ z ∷ [])) (omega (arith, ints))

-- One more number of a run.
pub run_more : (xs : List ℤ) (i : ℕ) (x a : ℤ) → i < length xs → x ≡ get_or xs i x → x ≡ a +ℤ pos i → numbers_from a i ≡ take i xs
    → numbers_from a (i + 1) ≡ take (i + 1) xs
run_more xs i x a l g e h =
    let on : i + 1 ≡ suc i = omega arith in
    ap (numbers_from a) on ∙ from-push a i ∙ ap (λ ys. ys ++ (a +ℤ pos i) ∷ []) h ∙ ap (λ z. take i xs ++ z ∷ []) (sym e ∙ g) ∙ sym (take_more xs i x l)

at-place : (xs : List ℤ) (i : ℕ) (d e : ℤ) → i < length xs → get_or xs i d ≡ get_or xs i e
at-place [] i d e h = absurd (omega arith)
at-place (x ∷ xs) zero d e h = refl
at-place (x ∷ xs) (suc i) d e h = at-place xs i d e (omega arith)

pub run_next : (xs : List ℤ) (i : ℕ) (a : ℤ) → i < length xs → get_or xs i (pos 0) ≡ a +ℤ pos i → numbers_from a i ≡ take i xs
    → numbers_from a (i + 1) ≡ take (i + 1) xs
run_next xs i a l e h = run_more xs i (get_or xs i (pos 0)) a l (at-place xs i (pos 0) (get_or xs i (pos 0)) l) e h

-- All of them.
pub run_all : (xs : List ℤ) (i : ℕ) (a : ℤ) → length xs ≤ i → i ≤ length xs → numbers_from a i ≡ take i xs → numbers_from a (length xs) ≡ xs
run_all xs i a l m h =
    let same : length xs ≡ i = omega arith in
    ap (numbers_from a) same ∙ h ∙ ap (λ k. take k xs) (sym same) ∙ take_all (length xs) xs (omega arith)

pub not-same : (a b : ℤ) (t : Bool) → same_int a b ≡ t → (a ≡ b → ⊥) → same_int a b ≡ false
not-same a b true e h = absurd (h (same_int-equal a b e))
not-same a b false e h = e

next-place : (x i : ℤ) (xs : List ℤ) → (x ≡ i → ⊥) → place_of (x ∷ xs) i ≡ option_map suc (place_of xs i)
next-place x i xs h = ap (λ b. if b then Some 0 else option_map suc (place_of xs i)) (not-same x i (same_int x i) refl h)

first-place : (x i : ℤ) (xs : List ℤ) → x ≡ i → place_of (x ∷ xs) i ≡ Some 0
first-place x i xs e = ap (λ b. if b then Some 0 else option_map suc (place_of xs i)) (ap (λ z. same_int x z) (sym e) ∙ same_int-itself x)

pub place_below : (a : ℤ) (n : ℕ) (i : ℤ) → i <ℤ a → None ≡ place_of (numbers_from a n) i
place_below a zero i h = refl
place_below a (suc n) i h =
    sym (next-place a i (numbers_from (a +ℤ pos 1) n) (λ e. omega (arith, ints)) ∙ ap (option_map suc) (sym (place_below (a +ℤ pos 1) n i (omega (arith, ints)))))

pub place_beyond : (a : ℤ) (n : ℕ) (i : ℤ) → pos n ≤ℤ (i -ℤ a) → None ≡ place_of (numbers_from a n) i
place_beyond a zero i h = refl
place_beyond a (suc n) i h =
    sym (next-place a i (numbers_from (a +ℤ pos 1) n) (λ e. omega (arith, ints)) ∙ ap (option_map suc) (sym (place_beyond (a +ℤ pos 1) n i (omega (arith, ints)))))

pub place_within : (a : ℤ) (n d : ℕ) (i : ℤ) → d < n → i ≡ a +ℤ pos d → Some d ≡ place_of (numbers_from a n) i
place_within a zero d i h e = absurd (omega arith)
place_within a (suc n) zero i h e = let q : a ≡ i = omega (arith, ints, e) in sym (first-place a i (numbers_from (a +ℤ pos 1) n) q)
place_within a (suc n) (suc d) i h e =
    sym (next-place a i (numbers_from (a +ℤ pos 1) n) (λ q. omega (arith, ints, e, q))
    ∙ ap (option_map suc) (sym (place_within (a +ℤ pos 1) n d i (omega arith) (omega (arith, ints, e)))))

-- A number that isn't below 0 is its size.
pub size-is : (z : ℤ) → pos 0 ≤ℤ z → z ≡ pos (nat_abs z)
size-is (pos n) h = refl
size-is (negsuc n) h = absurd (omega (arith, ints))

pub ruleset run_places = (place_below, place_beyond, place_within)

-- ---- places in lists

plus-suc : (k : ℕ) (o : Option ℕ) → option_map (λ p. k + p) (option_map suc o) ≡ option_map (λ p. (k + 1) + p) o
plus-suc k None = refl
plus-suc k (Some p) = let e : k + suc p ≡ (k + 1) + p = omega arith in ap Some e

pub place_more : (xs : List ℤ) (k : ℕ) (x i : ℤ) (o : Option ℕ) → k < length xs → x ≡ get_or xs k x → (x ≡ i → ⊥)
    → option_map (λ p. k + p) (place_of (drop k xs) i) ≡ o → option_map (λ p. (k + 1) + p) (place_of (drop (k + 1) xs) i) ≡ o
place_more xs k x i o l g e h =
    sym (plus-suc k (place_of (drop (k + 1) xs) i)) ∙ ap (option_map (λ p. k + p)) (sym (next-place x i (drop (k + 1) xs) e))
    ∙ ap (λ z. option_map (λ p. k + p) (place_of (z ∷ drop (k + 1) xs) i)) g
    ∙ sym (at_drop_more (λ ys. option_map (λ p. k + p) (place_of ys i)) xs k x l) ∙ h

pub place_here : (xs : List ℤ) (k : ℕ) (x i : ℤ) (o : Option ℕ) → k < length xs → x ≡ get_or xs k x → x ≡ i
    → option_map (λ p. k + p) (place_of (drop k xs) i) ≡ o → Some k ≡ o
place_here xs k x i o l g e h =
    (let z : k ≡ k + 0 = omega arith in ap Some z) ∙ ap (option_map (λ p. k + p)) (sym (first-place x i (drop (k + 1) xs) e))
    ∙ ap (λ z. option_map (λ p. k + p) (place_of (z ∷ drop (k + 1) xs) i)) g
    ∙ sym (at_drop_more (λ ys. option_map (λ p. k + p) (place_of ys i)) xs k x l) ∙ h

pub place_nowhere : (xs : List ℤ) (k : ℕ) (i : ℤ) (o : Option ℕ) → length xs ≤ k → option_map (λ p. k + p) (place_of (drop k xs) i) ≡ o → None ≡ o
place_nowhere xs k i o l h = sym (ap (λ ys. option_map (λ p. k + p) (place_of ys i)) (drop_all k xs l)) ∙ h

pub ruleset places = (place_more, place_here, place_nowhere)
