-- Lemmas on the loops that number and flag slots.
use Rattle.std.proofs.Common.{◌≡◌, refl, sym, ap, ◌∙◌, ℕ, zero, suc, ◌+◌, List, [], ◌∷◌, ◌++◌, replicate, ℤ, pos, ◌+ℤ◌, arith}
use Rattle.ess_semantics.specs.Numbers.{run_from, one_to}

run-push : (a n : ℕ) → run_from a (n + 1) ≡ run_from a n ++ pos (a + n) ∷ []
run-push a zero = let q : a ≡ a + 0 = omega arith in ap (λ k. pos k ∷ []) q
run-push a (suc n) =
    let q : suc n + 1 ≡ suc (n + 1) = omega arith in
    let r : suc a + n ≡ a + suc n = omega arith in
    ap (run_from a) q ∙ ap (λ l. pos a ∷ l) (run-push (suc a) n ∙ ap (λ k. run_from (suc a) n ++ pos k ∷ []) r)

-- One slot more.
pub axis_more : (k : ℕ) (xs ys : List ℤ) (n : ℤ) → xs ≡ one_to k → n ≡ pos (k + 1) → ys ≡ xs ++ n ∷ [] → ys ≡ one_to (k + 1)
axis_more k xs ys n e m p =
    let q : k + 1 ≡ 1 + k = omega arith in
    p ∙ ap (λ l. l ++ n ∷ []) e ∙ ap (λ z. one_to k ++ z ∷ []) (m ∙ ap pos q) ∙ sym (run-push 1 k)

-- A one more.
pub ones_more : (k : ℕ) → replicate (k + 1) (pos 1) ≡ replicate k (pos 1) ++ pos 1 ∷ []
ones_more zero = refl
ones_more (suc k) = let q : suc k + 1 ≡ suc (k + 1) = omega arith in ap (λ n. replicate n (pos 1)) q ∙ ap (λ l. pos 1 ∷ l) (ones_more k)
