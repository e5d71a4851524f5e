-- Printed names differ from each other and from the names that are taken: of so many names of a row, all but those that are taken are left.
use Rattle.std.proofs.Common.{◌≡◌, refl, sym, ap, ◌∙◌, ℕ, zero, suc, ◌+◌, ◌≤◌, ◌<◌, ◌^◌, Bool, true, false, ◌||◌, not, if◌then◌else◌, List, [], ◌∷◌, ◌++◌, length, filter, Some, codes, decimal, arith}
use Rattle.std.proofs.lemmas.Fmt.{decimal_injective}
use Rattle.ess_semantics.specs.Lists.{or_default, item_number}
use Rattle.ess_semantics.specs.Values.{Text}
use Rattle.ess_semantics.specs.Order.{same_text}
use Rattle.ess_semantics.specs.Names.{is_among}
use Rattle.ess_semantics.proofs.Texts.{same_text-equal}
use Rattle.conjure_model_laws.specs.Printed.{q_names, printed_name}
use Rattle.conjure_model_laws.proofs.Renames.{Differ}

abbrev q : ℕ → Text
q k = codes "q" ++ decimal k

-- Two of the names differ.
q-differ : Differ q (2 ^ 64)
q-differ i j l m = go (same_text (q j) (q i)) refl
  where
    go : (b : Bool) → same_text (q j) (q i) ≡ b → same_text (q j) (q i) ≡ false
    go false e = e
    go true e =
        let s : q j ≡ q i = same_text-equal (q j) (q i) e in
        let d : decimal j ≡ decimal i = cc in
        let z : j ≡ i = decimal_injective j i m (omega (arith, l, m)) d in
        absurd (omega (arith, l, z))

-- The number of a name tells it.
q-number : (i j : ℕ) → i < 2 ^ 64 → j < 2 ^ 64 → q i ≡ q j → i ≡ j
q-number i j l m e = let d : decimal i ≡ decimal j = cc in decimal_injective i j l m d

-- ---- how many names are taken

-- How many of the names have a property.
abbrev many : (Text → Bool) → ℕ → ℕ → ℕ
many f k n = length (filter f (q_names k n))

many-step : (f : Text → Bool) (k n : ℕ) → many f k (suc n) ≡ (if f (q k) then suc (many f (suc k) n) else many f (suc k) n)
many-step f k n = go (f (q k))
  where
    go : (b : Bool) → length (if b then q k ∷ filter f (q_names (suc k) n) else filter f (q_names (suc k) n)) ≡
        (if b then suc (many f (suc k) n) else many f (suc k) n)
    go true = refl
    go false = refl

none-of : (t : Text) (k n : ℕ) → ((m : ℕ) → k ≤ m → m < k + n → same_text t (q m) ≡ false) → many (same_text t) k n ≡ 0
none-of t k zero f = refl
none-of t k (suc n) f =
    many-step (same_text t) k n
    ∙ ap (λ b. if b then suc (many (same_text t) (suc k) n) else many (same_text t) (suc k) n) (f k (omega arith) (omega arith))
    ∙ none-of t (suc k) n (λ m a b. f m (omega (arith, a)) (omega (arith, b)))

-- One name of the row at most is this one.
one-of : (t : Text) (k n : ℕ) → k + n ≤ 2 ^ 64 → many (same_text t) k n ≤ 1
one-of t k zero l = omega arith
one-of t k (suc n) l = go (same_text t (q k)) refl (many-step (same_text t) k n) (one-of t (suc k) n (omega (arith, l)))
  where
    go : (b : Bool) → same_text t (q k) ≡ b →
        many (same_text t) k (suc n) ≡ (if same_text t (q k) then suc (many (same_text t) (suc k) n) else many (same_text t) (suc k) n) →
        many (same_text t) (suc k) n ≤ 1 → many (same_text t) k (suc n) ≤ 1
    go false e s r =
        let z : many (same_text t) k (suc n) ≡ many (same_text t) (suc k) n = s
        ∙ ap (λ b. if b then suc (many (same_text t) (suc k) n) else many (same_text t) (suc k) n) e in
        omega (arith, z, r)
    go true e s r =
        let z : many (same_text t) k (suc n) ≡ suc (many (same_text t) (suc k) n) = s
        ∙ ap (λ b. if b then suc (many (same_text t) (suc k) n) else many (same_text t) (suc k) n) e in
        let o : many (same_text t) (suc k) n ≡ 0 = none-of t (suc k) n
        (λ m a b. other m (omega (arith, a)) (omega (arith, b, l)) (same_text t (q m)) refl) in
        omega (arith, z, o)
      where
        other : (m : ℕ) → k < m → m < 2 ^ 64 → (c : Bool) → same_text t (q m) ≡ c → same_text t (q m) ≡ false
        other m a b false d = d
        other m a b true d =
            let x : q k ≡ q m = sym (same_text-equal t (q k) e) ∙ same_text-equal t (q m) d in
            let y : k ≡ m = q-number k m (omega (arith, a, b)) b x in
            absurd (omega (arith, a, y))

-- Each name has the property or hasn't.
all-count : (f : Text → Bool) (k n : ℕ) → many f k n + many (λ a. not (f a)) k n ≡ n
all-count f k zero = omega arith
all-count f k (suc n) = go (f (q k)) (many-step f k n) (many-step (λ a. not (f a)) k n) (all-count f (suc k) n)
  where
    go : (b : Bool) → many f k (suc n) ≡ (if b then suc (many f (suc k) n) else many f (suc k) n) →
        many (λ a. not (f a)) k (suc n) ≡
        (if not b then suc (many (λ a. not (f a)) (suc k) n) else many (λ a. not (f a)) (suc k) n) →
        many f (suc k) n + many (λ a. not (f a)) (suc k) n ≡ n → many f k (suc n) + many (λ a. not (f a)) k (suc n) ≡ suc n
    go true x y z = omega (arith, x, y, z)
    go false x y z = omega (arith, x, y, z)

either-count : (f g : Text → Bool) (k n : ℕ) → many (λ a. f a || g a) k n ≤ many f k n + many g k n
either-count f g k zero = omega arith
either-count f g k (suc n) =
    go (f (q k)) (g (q k)) (many-step (λ a. f a || g a) k n) (many-step f k n) (many-step g k n) (either-count f g (suc k) n)
  where
    go : (b c : Bool) →
        many (λ a. f a || g a) k (suc n) ≡ (if b || c then suc (many (λ a. f a || g a) (suc k) n) else many (λ a. f a || g a) (suc k) n) →
        many f k (suc n) ≡ (if b then suc (many f (suc k) n) else many f (suc k) n) →
        many g k (suc n) ≡ (if c then suc (many g (suc k) n) else many g (suc k) n) →
        many (λ a. f a || g a) (suc k) n ≤ many f (suc k) n + many g (suc k) n →
        many (λ a. f a || g a) k (suc n) ≤ many f k (suc n) + many g k (suc n)
    go true true x y z h = omega (arith, x, y, z, h)
    go true false x y z h = omega (arith, x, y, z, h)
    go false true x y z h = omega (arith, x, y, z, h)
    go false false x y z h = omega (arith, x, y, z, h)

none-taken : (k n : ℕ) → many (is_among []) k n ≡ 0
none-taken k zero = refl
none-taken k (suc n) = none-taken (suc k) n

-- No more of them are taken than names are.
few-taken : (taken : List Text) (k n : ℕ) → k + n ≤ 2 ^ 64 → many (is_among taken) k n ≤ length taken
few-taken [] k n l = let z = none-taken k n in omega (arith, z)
few-taken (t ∷ ts) k n l =
    let a = either-count (same_text t) (is_among ts) k n in
    let b = one-of t k n l in
    let c = few-taken ts k n l in
    let d : length (t ∷ ts) ≡ suc (length ts) = refl in
    omega (arith, a, b, c, d)

-- ---- the d-th name that is left

-- It is a name of the row that has the property, and d with the property stand before it.
record IsLeft (f : Text → Bool) (k n d : ℕ) : Type 0 where
  t : ℕ
  inside : t < n
  is : item_number (filter f (q_names k n)) d ≡ Some (q (k + t))
  has : f (q (k + t)) ≡ true
  before : many f k t ≡ d

left-at : (f : Text → Bool) (k n d : ℕ) → d < many f k n → IsLeft f k n d
left-at f k zero d l = absurd (omega (arith, l))
left-at f k (suc n) d l = go (f (q k)) refl d (many-step f k n) l (left-at f (suc k) n)
  where
    go : (b : Bool) → f (q k) ≡ b → (d : ℕ) → many f k (suc n) ≡ (if f (q k) then suc (many f (suc k) n) else many f (suc k) n) →
        d < many f k (suc n) → ((d : ℕ) → d < many f (suc k) n → IsLeft f (suc k) n d) → IsLeft f k (suc n) d
    go true e zero s l r = record {
      t = 0;
      inside = omega arith;
      is = ap (λ b. item_number (if b then q k ∷ filter f (q_names (suc k) n) else filter f (q_names (suc k) n)) 0) e
          ∙ ap (λ m. Some (q m)) (omega arith);
      has = ap (λ m. f (q m)) (omega arith) ∙ e;
      before = refl;
    }
    go true e (suc d) s l r =
        let z : many f k (suc n) ≡ suc (many f (suc k) n) = s ∙ ap (λ b. if b then suc (many f (suc k) n) else many f (suc k) n) e in
        let p = r d (omega (arith, l, z)) in
        record {
          t = suc p.t;
          inside = omega (arith, p.inside);
          is = ap (λ b. item_number (if b then q k ∷ filter f (q_names (suc k) n) else filter f (q_names (suc k) n)) (suc d)) e
              ∙ p.is ∙ ap (λ m. Some (q m)) (omega arith);
          has = ap (λ m. f (q m)) (omega arith) ∙ p.has;
          before = many-step f k p.t ∙ ap (λ b. if b then suc (many f (suc k) p.t) else many f (suc k) p.t) e ∙ ap suc p.before;
        }
    go false e d s l r =
        let z : many f k (suc n) ≡ many f (suc k) n = s ∙ ap (λ b. if b then suc (many f (suc k) n) else many f (suc k) n) e in
        let p = r d (omega (arith, l, z)) in
        record {
          t = suc p.t;
          inside = omega (arith, p.inside);
          is = ap (λ b. item_number (if b then q k ∷ filter f (q_names (suc k) n) else filter f (q_names (suc k) n)) d) e
              ∙ p.is ∙ ap (λ m. Some (q m)) (omega arith);
          has = ap (λ m. f (q m)) (omega arith) ∙ p.has;
          before = many-step f k p.t ∙ ap (λ b. if b then suc (many f (suc k) p.t) else many f (suc k) p.t) e ∙ p.before;
        }

module _ (taken : List Text) where
  abbrev Free : Text → Bool
  Free a = not (is_among taken a)

  enough : (d : ℕ) → suc d + length taken < 2 ^ 64 → d < many Free 1 (suc d + length taken)
  enough d l =
      let a = all-count (is_among taken) 1 (suc d + length taken) in
      let b = few-taken taken 1 (suc d + length taken) (omega (arith, l)) in
      omega (arith, a, b)

  the : (d : ℕ) → suc d + length taken < 2 ^ 64 → IsLeft Free 1 (suc d + length taken) d
  the d l = left-at Free 1 (suc d + length taken) d (enough d l)

  printed-is : (d : ℕ) (l : suc d + length taken < 2 ^ 64) → printed_name taken d ≡ q (1 + (the d l).t)
  printed-is d l = ap (λ o. or_default o []) (the d l).is

  -- A printed name isn't taken.
  pub printed-free : (d : ℕ) → suc d + length taken < 2 ^ 64 → is_among taken (printed_name taken d) ≡ false
  printed-free d l = ap (is_among taken) (printed-is d l) ∙ un (is_among taken (q (1 + (the d l).t))) (the d l).has
    where
      un : (b : Bool) → not b ≡ true → b ≡ false
      un false e = refl
      un true e = cc

  -- Two printed names differ.
  pub printed-differ : (lim : ℕ) → lim + length taken < 2 ^ 64 → Differ (printed_name taken) lim
  printed-differ lim b i j l m = go (same_text (printed_name taken j) (printed_name taken i)) refl
    where
      li : suc i + length taken < 2 ^ 64
      li = omega (arith, b, l, m)

      lj : suc j + length taken < 2 ^ 64
      lj = omega (arith, b, m)

      go : (x : Bool) → same_text (printed_name taken j) (printed_name taken i) ≡ x →
          same_text (printed_name taken j) (printed_name taken i) ≡ false
      go false e = e
      go true e =
          let s : q (1 + (the j lj).t) ≡ q (1 + (the i li).t) = sym (printed-is j lj)
          ∙ same_text-equal (printed_name taken j) (printed_name taken i) e ∙ printed-is i li in
          let z : 1 + (the j lj).t ≡ 1 + (the i li).t = q-number (1 + (the j lj).t) (1 + (the i li).t)
          (omega (arith, (the j lj).inside, lj)) (omega (arith, (the i li).inside, li)) s in
          let w : (the j lj).t ≡ (the i li).t = omega (arith, z) in
          let r : j ≡ i = sym (the j lj).before ∙ ap (many Free 1) w ∙ (the i li).before in
          absurd (omega (arith, l, r))
