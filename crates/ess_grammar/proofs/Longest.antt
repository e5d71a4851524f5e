-- The longest first part that is a token, from what is known of each first part.
use Rattle.std.proofs.Common.{◌≡◌, refl, sym, ap, ◌∙◌, ℕ, zero, suc, ◌≤◌, ◌<◌, take, drop, Option, Some, None, arith, ◌⊎◌, inl, inr, eq-or-lt_of_le}
use Rattle.ess_grammar.specs.Words.{Text, Token}
use Rattle.ess_grammar.specs.Tokens.{longest}

abbrev pub Reader : Type 0
Reader = Text → Text → Option Token

-- the first n bytes are read as this
abbrev pub Reads : Reader → ℕ → Text → Option Token → Type 0
Reads reads n bs o = reads (take n bs) (drop n bs) ≡ o

abbrev pub chosen : Option Token → ℕ → Option (Token × ℕ) → Option (Token × ℕ)
chosen o n shorter = elim o [ Some t ↦ Some (t, n) | None ↦ shorter ]

pub longest-here : (reads : Reader) (n : ℕ) (bs : Text) (t : Token) → Reads reads (suc n) bs (Some t) →
    longest reads (suc n) bs ≡ Some (t, suc n)
longest-here reads n bs t h = ap (λ o. chosen o (suc n) (longest reads n bs)) h

pub longest-shorter : (reads : Reader) (n : ℕ) (bs : Text) → Reads reads (suc n) bs None → longest reads (suc n) bs ≡ longest reads n bs
longest-shorter reads n bs h = ap (λ o. chosen o (suc n) (longest reads n bs)) h

-- no first part of more than m bytes is read
pub longest-past : (reads : Reader) (m n : ℕ) (bs : Text) → m ≤ n → ((k : ℕ) → m < k → k ≤ n → Reads reads k bs None) →
    longest reads n bs ≡ longest reads m bs
longest-past reads m n bs h none = go n h none (eq-or-lt_of_le h)
  where
    go : (n : ℕ) → m ≤ n → ((k : ℕ) → m < k → k ≤ n → Reads reads k bs None) → (m ≡ n) ⊎ (m < n) → longest reads n bs ≡ longest reads m bs
    go n h none (inl e) = ap (λ k. longest reads k bs) (sym e)
    go zero h none (inr l) = absurd (omega arith)
    go (suc n) h none (inr l) =
        let i : m ≤ n = omega arith in
        let shorter : (k : ℕ) → m < k → k ≤ n → Reads reads k bs None = λ k a b. none k a (omega arith) in
        longest-shorter reads n bs (none (suc n) l (omega arith)) ∙ go n i shorter (eq-or-lt_of_le i)

-- the longest that is read has n + 1 bytes
pub longest-is : (reads : Reader) (n m : ℕ) (bs : Text) (t : Token) → suc n ≤ m → Reads reads (suc n) bs (Some t) →
    ((k : ℕ) → suc n < k → k ≤ m → Reads reads k bs None) → longest reads m bs ≡ Some (t, suc n)
longest-is reads n m bs t h here none = longest-past reads (suc n) m bs h none ∙ longest-here reads n bs t here

pub longest-none : (reads : Reader) (m : ℕ) (bs : Text) → ((k : ℕ) → 0 < k → k ≤ m → Reads reads k bs None) → longest reads m bs ≡ None
longest-none reads m bs none = longest-past reads 0 m bs (omega arith) none

-- two readers that agree on first parts have one longest
pub longest-same : (reads reads' : Reader) (n : ℕ) (bs : Text) →
    ((k : ℕ) → 0 < k → k ≤ n → reads (take k bs) (drop k bs) ≡ reads' (take k bs) (drop k bs)) →
    longest reads n bs ≡ longest reads' n bs
longest-same reads reads' zero bs same = refl
longest-same reads reads' (suc n) bs same =
    ap (λ o. chosen o (suc n) (longest reads n bs)) (same (suc n) (omega arith) (omega arith))
    ∙ ap (λ r. chosen (reads' (take (suc n) bs) (drop (suc n) bs)) (suc n) r)
    (longest-same reads reads' n bs (λ k a b. same k a (omega arith)))
