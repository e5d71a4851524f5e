-- Names that are the reserved ones below the 2 ^ 64-th, and differ from these and from one another above: decimal texts of larger numbers
-- may not differ.
use Rattle.std.proofs.Common.{◌≡◌, refl, sym, ap, ◌∙◌, ℕ, zero, suc, ◌<◌, ◌≤◌, ◌^◌, Bool, true, false, [], ◌∷◌, length, nat_lt, arith}
use Rattle.std.proofs.lemmas.Bool.{lt-ltb, ltb-true, ltb-false}
use Rattle.ess_semantics.specs.Values.{Text}
use Rattle.ess_semantics.specs.Order.{same_text}
use Rattle.ess_semantics.proofs.Texts.{same_text-equal}
use Rattle.conjure_model_laws.specs.ToldApart.{reserved}
use Rattle.conjure_model_laws.proofs.ToldLaws.{reserved-differ}

-- So many dollars.
abbrev dollars : ℕ → Text
dollars zero = []
dollars (suc n) = 36 ∷ dollars n

dollars-long : (n : ℕ) → length (dollars n) ≡ n
dollars-long zero = refl
dollars-long (suc n) = ap suc (dollars-long n)

-- The reserved name, or more than so many dollars where the number is large.
abbrev named_by : Bool → ℕ → Text
named_by true n = reserved n
named_by false n = 36 ∷ dollars n

abbrev pub spread : ℕ → Text
spread n = named_by (nat_lt n (2 ^ 64)) n

-- Below it is the reserved one.
pub spread-low : (n : ℕ) → n < 2 ^ 64 → spread n ≡ reserved n
spread-low n h = ap (λ b. named_by b n) (lt-ltb n (2 ^ 64) h)

same-dollars : (m l : ℕ) → 36 ∷ dollars m ≡ 36 ∷ dollars l → m ≡ l
same-dollars m l e =
    let d : dollars m ≡ dollars l = cc in sym (dollars-long m) ∙ ap length d ∙ dollars-long l

-- Two of them differ.
pub spread-apart : (m l : ℕ) → l < m → same_text (spread m) (spread l) ≡ false
spread-apart m l h = go (nat_lt m (2 ^ 64)) refl (nat_lt l (2 ^ 64)) refl
  where
    both-large : (b : Bool) → same_text (36 ∷ dollars m) (36 ∷ dollars l) ≡ b → b ≡ false
    both-large false e = refl
    both-large true e =
        let z : m ≡ l = same-dollars m l (same_text-equal (36 ∷ dollars m) (36 ∷ dollars l) e) in absurd (omega (arith, h, z))

    go : (b : Bool) → nat_lt m (2 ^ 64) ≡ b → (c : Bool) → nat_lt l (2 ^ 64) ≡ c → same_text (named_by b m) (named_by c l) ≡ false
    go true p true q = reserved-differ l m h (ltb-true m (2 ^ 64) p)
    go true p false q =
        let x : m < 2 ^ 64 = ltb-true m (2 ^ 64) p in
        let y : 2 ^ 64 ≤ l = ltb-false l (2 ^ 64) q in absurd (omega (arith, h, x, y))
    go false p true q = refl
    go false p false q = both-large (same_text (36 ∷ dollars m) (36 ∷ dollars l)) refl
