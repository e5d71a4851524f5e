-- The names `T_k` of the values of an unnamed type: each is read as its value, and names of two types or of two values differ. Below 2^64
-- the digits of a number are all written.
use Rattle.std.proofs.Common.{◌≡◌, refl, sym, ap, ◌∙◌, ℕ, zero, suc, ◌+◌, ◌<◌, ◌≤◌, ◌^◌, Bool, true, false, ◌&&◌, ◌||◌, not, if◌then◌else◌, [], ◌∷◌, ◌++◌, length, take, drop, Some, None, nat_le, codes, arith, ◌⊎◌, inl, inr, append_assoc}
use Rattle.std.specs.Prelude.{decimal}
use Rattle.std.specs.List.{list_all}
use Rattle.std.proofs.lemmas.Bool.Decides.{nat_tests}
use Rattle.ess_semantics.specs.Lists.{and_then, when, is_some_and}
use Rattle.ess_semantics.specs.Values.{Text, item}
use Rattle.ess_semantics.specs.Order.{same_text}
use Rattle.ess_semantics.specs.Names.{is_among, all_distinct}
use Rattle.ess_semantics.specs.Meaning.{TypeEntry}
use Rattle.ess_semantics.specs.NameTokens.{is_digit, are_digits, value_after}
use Rattle.ess_semantics.specs.Judgements.{after_prefix, is_value_name}
use Rattle.ess_semantics.specs.Assignments.{unnamed_name, unnamed_names}
use Rattle.ess_semantics.specs.Literals.{unnamed_item}
use Rattle.ess_semantics.proofs.Tests.{and-left, and-right, and-both}
use Rattle.ess_semantics.proofs.Texts.{same_text-equal, same_text-itself}
use Rattle.ess_print_laws.proofs.Digits.{decimal-writes}

-- ---- digits

digits-of : (ds : Text) → list_all is_digit ds ≡ true → 0 < length ds → are_digits ds ≡ true
digits-of [] h l = absurd (omega arith)
digits-of (d ∷ ds) h l = h

-- The digits of a number below 2^64.
pub decimal-digits : (k : ℕ) → k < 2 ^ 64 → are_digits (decimal k) ≡ true
decimal-digits k h = let w = decimal-writes k h in digits-of (decimal k) w.digits w.some

pub decimal-value : (k : ℕ) → k < 2 ^ 64 → value_after 0 (decimal k) ≡ k
decimal-value k h = (decimal-writes k h).value

-- `_` is no digit.
no-line : (s ds : Text) → are_digits (s ++ 95 ∷ ds) ≡ true → ⊥
no-line s ds h = go s (all s h)
  where
    all : (s : Text) → are_digits (s ++ 95 ∷ ds) ≡ true → list_all is_digit (s ++ 95 ∷ ds) ≡ true
    all [] h = h
    all (c ∷ s) h = h

    go : (s : Text) → list_all is_digit (s ++ 95 ∷ ds) ≡ true → ⊥
    go [] h = let z = and-left (is_digit 95) (list_all is_digit ds) h in let y : false ≡ true = z in cc
    go (c ∷ s) h = go s (and-right (is_digit c) (list_all is_digit (s ++ 95 ∷ ds)) h)

-- ---- prefixes

take-front : (p ds : Text) → take (length p) (p ++ ds) ≡ p
take-front [] ds = refl
take-front (c ∷ p) ds = ap (λ l. c ∷ l) (take-front p ds)

drop-front : (p ds : Text) → drop (length p) (p ++ ds) ≡ ds
drop-front [] ds = refl
drop-front (c ∷ p) ds = drop-front p ds

-- What stands behind a prefix.
after-itself : (p ds : Text) → after_prefix p (p ++ ds) ≡ Some ds
after-itself p ds =
    ap (λ b. if b then Some (drop (length p) (p ++ ds)) else None) (ap (same_text p) (take-front p ds) ∙ same_text-itself p)
    ∙ ap Some (drop-front p ds)

-- The name of a value, with its prefix.
name-parts : (t : Text) (k : ℕ) → (t ++ codes "_") ++ decimal k ≡ unnamed_name t k
name-parts t k = refl

after-name : (t : Text) (k : ℕ) → after_prefix (t ++ codes "_") (unnamed_name t k) ≡ Some (decimal k)
after-name t k = ap (after_prefix (t ++ codes "_")) (sym (name-parts t k)) ∙ after-itself (t ++ codes "_") (decimal k)

-- The judgements look for such names.
pub value-name : (t : Text) (k : ℕ) → k < 2 ^ 64 → is_value_name t (unnamed_name t k) ≡ true
value-name t k h = ap (λ o. is_some_and o are_digits) (after-name t k) ∙ decimal-digits k h

-- The name of a value is read as it.
pub name-read : (t : TypeEntry) (k : ℕ) → k < 2 ^ 64 → nat_le 1 k ≡ true → nat_le k t.count ≡ true →
    unnamed_item t (unnamed_name t.name k) ≡ Some (item t.name k)
name-read t k h l u =
    let a : Text = unnamed_name t.name k in
    let v : ℕ → Bool = λ m. are_digits (decimal k) && same_text a (unnamed_name t.name m) && nat_le 1 m && nat_le m t.count in
    let e : v k ≡ true =
    and-both (are_digits (decimal k) && same_text a a && nat_le 1 k) (nat_le k t.count)
    (and-both (are_digits (decimal k) && same_text a a) (nat_le 1 k)
    (and-both (are_digits (decimal k)) (same_text a a) (decimal-digits k h) (same_text-itself a)) l) u in
    ap (λ o. and_then o (λ ds. when (are_digits ds && same_text a (unnamed_name t.name (value_after 0 ds)) && nat_le 1 (value_after 0 ds) &&
    nat_le (value_after 0 ds) t.count) (item t.name (value_after 0 ds)))) (after-name t.name k)
    ∙ ap (λ m. when (v m) (item t.name m)) (decimal-value k h) ∙ ap (λ b. when b (item t.name k)) e

-- ---- names differ

one-line : (t u ds es : Text) → are_digits ds ≡ true → are_digits es ≡ true → t ++ 95 ∷ ds ≡ u ++ 95 ∷ es → (t ≡ u) × (ds ≡ es)
one-line [] [] ds es h k e = (refl, cc)
one-line [] (c ∷ u) ds es h k e = let f : ds ≡ u ++ 95 ∷ es = cc in absurd (no-line u es (ap are_digits (sym f) ∙ h))
one-line (c ∷ t) [] ds es h k e = let f : t ++ 95 ∷ ds ≡ es = cc in absurd (no-line t ds (ap are_digits f ∙ k))
one-line (c ∷ t) (d ∷ u) ds es h k e =
    let x : c ≡ d = cc in
    let f : t ++ 95 ∷ ds ≡ u ++ 95 ∷ es = cc in
    let r = one-line t u ds es h k f in (ap (λ z. z ∷ t) x ∙ ap (λ z. d ∷ z) r.0, r.1)

-- A name is one of one value of one type.
pub one-name : (t u : Text) (k m : ℕ) → k < 2 ^ 64 → m < 2 ^ 64 → unnamed_name t k ≡ unnamed_name u m → (t ≡ u) × (k ≡ m)
one-name t u k m h l e =
    let r = one-line t u (decimal k) (decimal m) (decimal-digits k h) (decimal-digits m l)
    (sym (append_assoc t (codes "_") (decimal k)) ∙ e ∙ append_assoc u (codes "_") (decimal m)) in
    (r.0, sym (decimal-value k h) ∙ ap (value_after 0) r.1 ∙ decimal-value m l)

-- ---- all names of a type

-- The names of a type's values are those of its values.
pub among-unnamed : (t : Text) (j n k : ℕ) → j ≤ k → k < j + n → is_among (unnamed_names t j n) (unnamed_name t k) ≡ true
among-unnamed t j zero k l u = absurd (omega arith)
among-unnamed t j (suc n) k l u = go (same_text (unnamed_name t j) (unnamed_name t k)) refl (among-unnamed t (suc j) n k)
  where
    go : (b : Bool) → same_text (unnamed_name t j) (unnamed_name t k) ≡ b →
        (suc j ≤ k → k < suc j + n → is_among (unnamed_names t (suc j) n) (unnamed_name t k) ≡ true) →
        b || is_among (unnamed_names t (suc j) n) (unnamed_name t k) ≡ true
    go true e f = refl
    go false e f = f (not-first (order-of j k)) (omega arith)
      where
        order-of : (j k : ℕ) → (j ≡ k) ⊎ ((j ≡ k) → ⊥)
        order-of j k = by (nat_le j k && nat_le k j) refl
          where
            by : (b : Bool) → nat_le j k && nat_le k j ≡ b → (j ≡ k) ⊎ ((j ≡ k) → ⊥)
            by true q = inl (grind (arith, nat_tests))
            by false q = inr (λ z. grind (arith, nat_tests))

        not-first : (j ≡ k) ⊎ ((j ≡ k) → ⊥) → suc j ≤ k
        not-first (inl z) =
            let y : false ≡ true = sym e ∙ ap (λ m. same_text (unnamed_name t m) (unnamed_name t k)) z ∙ same_text-itself (unnamed_name t k) in cc
        not-first (inr z) = omega (arith, z)

-- And no others.
pub unnamed-among : (t : Text) (j n : ℕ) (a : Text) → is_among (unnamed_names t j n) a ≡ true →
    (k : ℕ) × (j ≤ k) × (k < j + n) × (a ≡ unnamed_name t k)
unnamed-among t j zero a i = cc
unnamed-among t j (suc n) a i = go (same_text (unnamed_name t j) a) refl i (unnamed-among t (suc j) n a)
  where
    go : (b : Bool) → same_text (unnamed_name t j) a ≡ b → b || is_among (unnamed_names t (suc j) n) a ≡ true →
        (is_among (unnamed_names t (suc j) n) a ≡ true → (k : ℕ) × (suc j ≤ k) × (k < suc j + n) × (a ≡ unnamed_name t k)) →
        (k : ℕ) × (j ≤ k) × (k < j + suc n) × (a ≡ unnamed_name t k)
    go true e i f = (j, omega arith, omega arith, sym (same_text-equal (unnamed_name t j) a e))
    go false e i f = let r = f i in (r.0, (let x = r.1 in omega arith), (let x = r.2 in omega arith), r.3)

-- No two of them are equal.
pub unnamed-distinct : (t : Text) (j n : ℕ) → j + n ≤ 2 ^ 64 → all_distinct (unnamed_names t j n) ≡ true
unnamed-distinct t j zero h = refl
unnamed-distinct t j (suc n) h =
    and-both (not (is_among (unnamed_names t (suc j) n) (unnamed_name t j))) (all_distinct (unnamed_names t (suc j) n))
    (ap not (not-in (is_among (unnamed_names t (suc j) n) (unnamed_name t j)) refl)) (unnamed-distinct t (suc j) n (omega arith))
  where
    not-in : (b : Bool) → is_among (unnamed_names t (suc j) n) (unnamed_name t j) ≡ b →
        is_among (unnamed_names t (suc j) n) (unnamed_name t j) ≡ false
    not-in false e = e
    not-in true e =
        let r = unnamed-among t (suc j) n (unnamed_name t j) e in
        let x = r.1 in
        let y = r.2 in
        let z = one-name t t j r.0 (omega arith) (omega arith) r.3 in
        let w = z.1 in absurd (omega arith)
