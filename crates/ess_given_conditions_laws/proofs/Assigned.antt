-- Reserved names that are given truth values one after the other: to belong to a set of names, or not to.
use Rattle.std.proofs.Common.{◌≡◌, refl, sym, ap, subst, ◌∙◌, ℕ, suc, ◌+◌, ◌<◌, ◌≤◌, ◌^◌, Bool, true, false, if◌then◌else◌, List, [], ◌∷◌, ◌++◌, length, arith}
use Rattle.ess_semantics.specs.Values.{Text}
use Rattle.ess_semantics.specs.Order.{same_text}
use Rattle.ess_semantics.proofs.Texts.{same_text-itself, same_text-equal}
use Rattle.ess_given_laws.specs.conjure_model_laws.ToldApart.{reserved}
use Rattle.ess_given_laws.proofs.conjure_model_laws.ToldLaws.{reserved-differ}
use Rattle.ess_given_conditions_laws.specs.GrowingNames.{HasNoneFrom, Grows}

-- The set u but that the reserved names from the k-th on are in it or not, as the list says.
abbrev pub assigned : (Text → Bool) → ℕ → List Bool → Text → Bool
assigned u k [] a = u a
assigned u k (b ∷ bs) a = if same_text a (reserved k) then b else assigned u (suc k) bs a

-- The reserved names from the k-th on are in v or not, as the list says.
abbrev pub Assigned : (Text → Bool) → ℕ → List Bool → Type 0
Assigned v k [] = Unit {0}
Assigned v k (b ∷ bs) = (v (reserved k) ≡ b) × Assigned v (suc k) bs

-- ---- lists of them

pub at-first : (v : Text → Bool) (k : ℕ) (xs ys : List Bool) → Assigned v k (xs ++ ys) → Assigned v k xs
at-first v k [] ys h = tt
at-first v k (b ∷ xs) ys h = (h.0, at-first v (suc k) xs ys h.1)

pub at-later : (v : Text → Bool) (k j : ℕ) (xs ys : List Bool) → j ≡ k + length xs → Assigned v k (xs ++ ys) → Assigned v j ys
at-later v k j [] ys q h = subst (λ i. Assigned v i ys) (omega (arith, q)) h
at-later v k j (b ∷ xs) ys q h = at-later v (suc k) j xs ys (omega (arith, q)) h.1

pub joined-number : (k q m : ℕ) (xs ys : List Bool) → q ≡ k + length xs → m ≡ q + length ys → m ≡ k + length (xs ++ ys)
joined-number k q m [] ys h j = omega (arith, h, j)
joined-number k q m (b ∷ xs) ys h j =
    let r : m ≡ suc k + length (xs ++ ys) = joined-number (suc k) q m xs ys (omega (arith, h)) j in omega (arith, r)

-- ---- they are as assigned

at-itself : (k : ℕ) (b c : Bool) → (if same_text (reserved k) (reserved k) then b else c) ≡ b
at-itself k b c = ap (λ x. if x then b else c) (same_text-itself (reserved k))

at-another : (x b c : Bool) → x ≡ false → (if x then b else c) ≡ c
at-another x b c q = ap (λ y. if y then b else c) q

lifted : (v w : Text → Bool) (k : ℕ) (bs : List Bool) → ((j : ℕ) → k ≤ j → j < k + length bs → w (reserved j) ≡ v (reserved j)) →
    Assigned v k bs → Assigned w k bs
lifted v w k [] f h = tt
lifted v w k (b ∷ bs) f h =
    (f k (omega arith) (omega arith) ∙ h.0, lifted v w (suc k) bs (λ j p q. f j (omega (arith, p)) (omega (arith, q))) h.1)

pub as-assigned : (u : Text → Bool) (k : ℕ) (bs : List Bool) → k + length bs ≤ 2 ^ 64 → Assigned (assigned u k bs) k bs
as-assigned u k [] l = tt
as-assigned u k (b ∷ bs) l = (
  at-itself k b (assigned u (suc k) bs (reserved k)),
  lifted (assigned u (suc k) bs) (assigned u k (b ∷ bs)) (suc k) bs
      (λ j p q. at-another (same_text (reserved j) (reserved k)) b (assigned u (suc k) bs (reserved j))
      (reserved-differ k j (omega (arith, p)) (omega (arith, l, q))))
      (as-assigned u (suc k) bs (omega (arith, l))),
)

-- ---- and the set grows by reserved names alone

more : (u : Text → Bool) (k : ℕ) (bs : List Bool) → HasNoneFrom k u → k + length bs ≤ 2 ^ 64 → (a : Text) → u a ≡ true →
    assigned u k bs a ≡ true
more u k [] n l a h = h
more u k (b ∷ bs) n l a h =
    go (same_text a (reserved k)) refl (more u (suc k) bs (λ j p r. n j (omega (arith, p)) r) (omega (arith, l)) a h)
  where
    no : true ≡ false → b ≡ true
    no q = cc

    go : (x : Bool) → same_text a (reserved k) ≡ x → assigned u (suc k) bs a ≡ true → (if x then b else assigned u (suc k) bs a) ≡ true
    go true q i = no (sym h ∙ ap u (same_text-equal a (reserved k) q) ∙ n k (omega arith) (omega (arith, l)))
    go false q i = i

but-reserved : (u : Text → Bool) (n k : ℕ) (bs : List Bool) → n ≤ k → k + length bs ≤ 2 ^ 64 → (a : Text) →
    ((j : ℕ) → n ≤ j → j < 2 ^ 64 → same_text a (reserved j) ≡ false) → assigned u k bs a ≡ u a
but-reserved u n k [] l m a f = refl
but-reserved u n k (b ∷ bs) l m a f =
    at-another (same_text a (reserved k)) b (assigned u (suc k) bs a) (f k l (omega (arith, m)))
    ∙ but-reserved u n (suc k) bs (omega (arith, l)) (omega (arith, m)) a f

none-from : (u : Text → Bool) (k m : ℕ) (bs : List Bool) → HasNoneFrom k u → k + length bs ≤ m → HasNoneFrom m (assigned u k bs)
none-from u k m [] n l j p q = n j (omega (arith, l, p)) q
none-from u k m (b ∷ bs) n l j p q = at-another (same_text (reserved j) (reserved k)) b (assigned u (suc k) bs (reserved j))
    (reserved-differ k j (omega (arith, l, p)) q)
    ∙ none-from u (suc k) m bs (λ i x y. n i (omega (arith, x)) y) (omega (arith, l)) j p q

pub assigned-grows : (u : Text → Bool) (n m : ℕ) (bs : List Bool) → HasNoneFrom n u → n + length bs ≤ m → m ≤ 2 ^ 64 →
    Grows n m u (assigned u n bs)
assigned-grows u n m bs h l b = record {
  more = more u n bs h (omega (arith, l, b));
  but_reserved = but-reserved u n n bs (omega arith) (omega (arith, l, b));
  none_from = none-from u n m bs h l;
}
