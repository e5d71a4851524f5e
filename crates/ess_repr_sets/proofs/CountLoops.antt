-- Lemmas on loops that put one item several times behind others.
use Rattle.std.proofs.Common.{◌≡◌, refl, ap, ◌∙◌, ℕ, zero, suc, ◌+◌, [], ◌∷◌, ◌++◌, replicate, arith}

-- One item more.
pub one_more : {A : Type 0} (k : ℕ) (x : A) → replicate (k + 1) x ≡ replicate k x ++ x ∷ []
one_more zero x = refl
one_more (suc k) x = let q : suc k + 1 ≡ suc (k + 1) = omega arith in ap (λ n. replicate n x) q ∙ ap (λ l. x ∷ l) (one_more k x)
