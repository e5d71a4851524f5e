-- Products over the items of a list, kept at the limit, item by item from the first.
use Rattle.std.proofs.Common.{◌≡◌, sym, ap, ◌∙◌, ℕ, ◌+◌, ◌*◌, ◌<◌, ◌≤◌, List, [], ◌∷◌, length, drop, get_or}
use Rattle.std.proofs.lemmas.List.{at_drop_more, at_drop_all}
use Rattle.std.proofs.Math.Nat.{mul_assoc, mul-one, one-mul}
use Rattle.ess_domains_cells.specs.Kept.{kept}
use Rattle.ess_domains_cells.proofs.KeptNumbers.{kept_product, kept_twice}

-- A product of kept numbers, kept.
pub product-kept : (a b : ℕ) → kept (kept a * b) ≡ kept (a * b)
product-kept a b = sym (kept_product (kept a) b) ∙ ap (λ n. kept (n * kept b)) (kept_twice a) ∙ kept_product a b

pub product-kept-right : (a b : ℕ) → kept (a * kept b) ≡ kept (a * b)
product-kept-right a b = sym (kept_product a (kept b)) ∙ ap (λ n. kept (kept a * n)) (kept_twice b) ∙ kept_product a b

-- One factor more.
pub factor-more : (t t' n own later all : ℕ) → n ≡ kept own → t' ≡ kept (t * n) → kept (t * (own * later)) ≡ kept all → kept (t' * later) ≡ kept all
factor-more t t' n own later all e g p =
    ap (λ j. kept (j * later)) (g ∙ ap (λ j. kept (t * j)) e ∙ product-kept-right t own)
    ∙ product-kept (t * own) later ∙ ap kept (mul_assoc t own later) ∙ p

-- Where P is the product of f over the items.
pub product-more : {A : Type 0} (f : A → ℕ) (P : List A → ℕ) (xs : List A) (i : ℕ) (x : A) (t t' n : ℕ) → ((y : A) (ys : List A) → P (y ∷ ys) ≡ f y * P ys) → i < length xs → x ≡ get_or xs i x
    → n ≡ kept (f x) → t' ≡ kept (t * n) → kept (t * P (drop i xs)) ≡ kept (P xs) → kept (t' * P (drop (i + 1) xs)) ≡ kept (P xs)
product-more f P xs i x t t' n cons h is e g p =
    let split : P (drop i xs) ≡ f x * P (drop (i + 1) xs) =
    at_drop_more P xs i x h ∙ ap (λ y. P (y ∷ drop (i + 1) xs)) (sym is) ∙ cons x (drop (i + 1) xs) in
    factor-more t t' n (f x) (P (drop (i + 1) xs)) (P xs) e g (ap (λ j. kept (t * j)) (sym split) ∙ p)

pub product-all : {A : Type 0} (P : List A → ℕ) (xs : List A) (i t : ℕ) → P [] ≡ 1 → length xs ≤ i → kept t ≡ t → kept (t * P (drop i xs)) ≡ kept (P xs) → t ≡ kept (P xs)
product-all P xs i t end h k p =
    sym k ∙ sym (ap kept (mul-one t)) ∙ sym (ap (λ j. kept (t * j)) (at_drop_all P xs i h ∙ end)) ∙ p

pub product-none : (n : ℕ) → kept (1 * n) ≡ kept n
product-none n = ap kept (one-mul n)
