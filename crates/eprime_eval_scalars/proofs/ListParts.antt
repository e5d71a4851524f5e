-- Parts of a list of numbers: what is dropped, taken or got behind its first items.
use Rattle.std.proofs.Common.{◌≡◌, refl, sym, ap, ◌∙◌, ℕ, zero, suc, ◌+◌, ◌≤◌, List, [], ◌∷◌, take, drop, ℤ, arith}
use Rattle.std.specs.Prelude.{slice_get}
use Rattle.std.proofs.lemmas.Option.{slice_get_past}
use Rattle.std.proofs.Math.Seq.{drop-nil}

-- What is dropped twice is dropped at once.
pub drop-drop : {A : Type 0} (k m : ℕ) (xs : List A) → drop k (drop m xs) ≡ drop (m + k) xs
drop-drop k zero xs = let e : k ≡ 0 + k = omega arith in ap (λ n. drop n xs) e
drop-drop k (suc m) [] = drop-nil k ∙ sym (drop-nil (suc m + k))
drop-drop k (suc m) (x ∷ xs) =
    let e : suc (m + k) ≡ suc m + k = omega arith in drop-drop k m xs ∙ ap (λ n. drop n (x ∷ xs)) e

-- What is taken behind k items of those that were taken.
pub taken-behind : (v k n : ℕ) (xs : List ℤ) → k + v ≤ n → take v (drop k (take n xs)) ≡ take v (drop k xs)
taken-behind v zero n xs h = shorter v n xs (omega arith)
  where
    shorter : (v n : ℕ) (xs : List ℤ) → v ≤ n → take v (take n xs) ≡ take v xs
    shorter zero n xs h = refl
    shorter (suc v) zero xs h = absurd (omega arith)
    shorter (suc v) (suc n) [] h = refl
    shorter (suc v) (suc n) (x ∷ xs) h = ap (λ ys. x ∷ ys) (shorter v n xs (omega arith))
taken-behind v (suc k) zero xs h = absurd (omega arith)
taken-behind v (suc k) (suc n) [] h = refl
taken-behind v (suc k) (suc n) (x ∷ xs) h = taken-behind v k n xs (omega arith)

-- An item behind k items.
pub get-behind : (k o : ℕ) (xs : List ℤ) → slice_get (drop k xs) o ≡ slice_get xs (k + o)
get-behind zero o xs = let e : o ≡ 0 + o = omega arith in ap (slice_get xs) e
get-behind (suc k) o [] = slice_get_past [] o (omega arith) ∙ sym (slice_get_past [] (suc k + o) (omega arith))
get-behind (suc k) o (x ∷ xs) = get-behind k o xs ∙ shift (k + o) (suc k + o) (omega arith)
  where
    shift : (a b : ℕ) → b ≡ suc a → slice_get xs a ≡ slice_get (x ∷ xs) b
    shift a b e = rw e refl
