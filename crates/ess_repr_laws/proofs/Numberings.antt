-- Parts that are numbered by their least members have one numbering.
use Rattle.std.proofs.Common.{true≢false, ◌≡◌, refl, sym, ap, ◌∙◌, subst, ℕ, zero, suc, ◌≤◌, ◌<◌, Bool, true, false, ◌||◌, if◌then◌else◌, List, [], ◌∷◌, length, filter, ℤ, pos, negsuc, ◌+ℤ◌, ◌-ℤ◌, ◌<ℤ◌, ◌≤ℤ◌, arith, le_refl, ◌⊎◌, inl, inr}
use Rattle.std.proofs.lemmas.Int.{ints, by_lt_z}
use Rattle.std.specs.Prelude.{int_lt}
use Rattle.ess_semantics.specs.Values.{Value}
use Rattle.ess_semantics.specs.Order.{same}
use Rattle.ess_semantics.specs.Collections.{holds}
use Rattle.ess_semantics.specs.Tables.{code}
use Rattle.ess_semantics.proofs.Orders.{same-equal}

-- y stands before x
abbrev pub Before : Value → Value → Type 0
Before y x = code y <ℤ code x

-- each number is at least 1, and one above 1 comes after the number before it
pub record ByLeast (xs : List Value) (w : Value → ℤ) : Type 0 where
  pub least : (x : Value) → holds xs x ≡ true → pos 1 ≤ℤ w x
  pub next : (x : Value) → holds xs x ≡ true → (w x ≡ pos 1) ⊎ ((y : Value) × (holds xs y ≡ true) × Before y x × (w x ≡ w y +ℤ pos 1))

-- ---- how many items stand before one

-- How many members stand before one.
abbrev pub rank : List Value → Value → ℕ
rank xs x = length (filter (λ y. int_lt (code y) (code x)) xs)

lt-yes : (a b : ℤ) → a <ℤ b → int_lt a b ≡ true
lt-yes a b h = grind (arith, ints)

lt-is : (a b : ℤ) → int_lt a b ≡ true → a <ℤ b
lt-is a b h = grind (arith, ints)

-- what stands before y stands before x
rank-le : (xs : List Value) (y x : Value) → Before y x → rank xs y ≤ rank xs x
rank-le [] y x b = le_refl 0
rank-le (z ∷ zs) y x b = go (int_lt (code z) (code y)) refl (int_lt (code z) (code x)) refl (rank-le zs y x b)
  where
    go : (p : Bool) → int_lt (code z) (code y) ≡ p → (q : Bool) → int_lt (code z) (code x) ≡ q → rank zs y ≤ rank zs x →
        length (if p then z ∷ filter (λ u. int_lt (code u) (code y)) zs else filter (λ u. int_lt (code u) (code y)) zs) ≤ length (if q then z ∷ filter (λ u. int_lt (code u) (code x)) zs else filter (λ u. int_lt (code u) (code x)) zs)
    go true e true f h = omega arith
    go false e true f h = omega arith
    go false e false f h = h
    go true e false f h = absurd (no (lt-is (code z) (code y) e))
      where
        no : code z <ℤ code y → ⊥
        no l = let m : code z <ℤ code x = omega (arith, ints) in let t : true ≡ false = sym (lt-yes (code z) (code x) m) ∙ f in true≢false t

-- an item that stands before another one has a lower rank
pub rank-lt : (xs : List Value) (y x : Value) → holds xs y ≡ true → Before y x → rank xs y < rank xs x
rank-lt [] y x h b = cc
rank-lt (z ∷ zs) y x h b = go (same z y) refl h (λ k. rank-lt zs y x k b)
  where
    itself : int_lt (code y) (code y) ≡ false
    itself = go' (int_lt (code y) (code y)) refl
      where
        go' : (p : Bool) → int_lt (code y) (code y) ≡ p → int_lt (code y) (code y) ≡ false
        go' false e = e
        go' true e = let l = lt-is (code y) (code y) e in absurd (omega (arith, ints))

    go : (p : Bool) → same z y ≡ p → p || holds zs y ≡ true → (holds zs y ≡ true → rank zs y < rank zs x) → rank (z ∷ zs) y < rank (z ∷ zs) x
    go true e h ih =
        let zy = same-equal z y e in
        let low : rank (z ∷ zs) y ≡ rank zs y = ap (λ q. if' q y) (ap (λ u. int_lt (code u) (code y)) zy ∙ itself) in
        let high : rank (z ∷ zs) x ≡ suc (rank zs x) = ap (λ q. if' q x) (ap (λ u. int_lt (code u) (code x)) zy ∙ lt-yes (code y) (code x) b) in
        let l = rank-le zs y x b in omega arith
      where
        if' : Bool → Value → ℕ
        if' q v = length (if q then z ∷ filter (λ u. int_lt (code u) (code v)) zs else filter (λ u. int_lt (code u) (code v)) zs)
    go false e h ih = more (int_lt (code z) (code y)) refl (int_lt (code z) (code x)) refl (ih h)
      where
        more : (p : Bool) → int_lt (code z) (code y) ≡ p → (q : Bool) → int_lt (code z) (code x) ≡ q → rank zs y < rank zs x →
            length (if p then z ∷ filter (λ u. int_lt (code u) (code y)) zs else filter (λ u. int_lt (code u) (code y)) zs) < length (if q then z ∷ filter (λ u. int_lt (code u) (code x)) zs else filter (λ u. int_lt (code u) (code x)) zs)
        more true e true f h = omega arith
        more false e true f h = omega arith
        more false e false f h = h
        more true e false f h = let l = lt-is (code z) (code y) e in let m : code z <ℤ code x = omega (arith, ints) in let t : true ≡ false = sym (lt-yes (code z) (code x) m) ∙ f in absurd (true≢false t)

-- ---- numbers below one that is taken are taken before

down : (xs : List Value) (w : Value → ℤ) → ByLeast xs w → (t : ℕ) (y : Value) → holds xs y ≡ true → (k : ℤ) → pos 1 ≤ℤ k → k ≤ℤ w y → w y ≤ℤ (k +ℤ pos t) →
    (z : Value) × (holds xs z ≡ true) × ((z ≡ y) ⊎ Before z y) × (w z ≡ k)
down xs w b zero y h k p q r = (y, h, inl refl, omega (arith, ints))
down xs w b (suc t) y h k p q r = by_lt_z k (w y) (λ l. go (λ x i lo hi. down xs w b t x i k p lo hi) l (b.next y h)) (λ l. (y, h, inl refl, omega (arith, ints)))
  where
    go : ((x : Value) → holds xs x ≡ true → k ≤ℤ w x → w x ≤ℤ (k +ℤ pos t) → (z : Value) × (holds xs z ≡ true) × ((z ≡ x) ⊎ Before z x) × (w z ≡ k)) → k <ℤ w y → (w y ≡ pos 1) ⊎ ((x : Value) × (holds xs x ≡ true) × Before x y × (w y ≡ w x +ℤ pos 1)) → (z : Value) × (holds xs z ≡ true) × ((z ≡ y) ⊎ Before z y) × (w z ≡ k)
    go ih l (inl e) = absurd (omega (arith, ints))
    go ih l (inr x) =
        let e = x.3 in
        let lo : k ≤ℤ w x.0 = omega (arith, ints) in
        let hi : w x.0 ≤ℤ (k +ℤ pos t) = omega (arith, ints) in
        let z = ih x.0 x.1 lo hi in
        (z.0, z.1, inr (before z.0 x.0 z.2 x.2), z.3)
      where
        before : (z x : Value) → (z ≡ x) ⊎ Before z x → Before x y → Before z y
        before z x (inl e) m = subst (λ v. Before v y) (sym e) m
        before z x (inr n) m = omega (arith, ints)

-- a number that is taken is taken before where it is below that of an item
pub taken : (xs : List Value) (w : Value → ℤ) → ByLeast xs w → (y : Value) → holds xs y ≡ true → (k : ℤ) → pos 1 ≤ℤ k → k ≤ℤ w y → (z : Value) × (holds xs z ≡ true) × ((z ≡ y) ⊎ Before z y) × (w z ≡ k)
taken xs w b y h k p q = go (w y -ℤ k) refl
  where
    go : (m : ℤ) → w y -ℤ k ≡ m → (z : Value) × (holds xs z ≡ true) × ((z ≡ y) ⊎ Before z y) × (w z ≡ k)
    go (pos t) e = down xs w b t y h k p q (omega (arith, ints))
    go (negsuc t) e = absurd (omega (arith, ints))

-- ---- one numbering

-- w numbers x no lower than v, where items before x have one number in both
no-lower : (xs : List Value) (v w : Value → ℤ) → ByLeast xs v → ByLeast xs w → ((x y : Value) → holds xs x ≡ true → holds xs y ≡ true → v x ≡ v y → w x ≡ w y) →
    (x : Value) → holds xs x ≡ true → ((y : Value) → holds xs y ≡ true → Before y x → v y ≡ w y) → v x <ℤ w x → ⊥
no-lower xs v w a b s x h ih l = go (b.next x h)
  where
    one : pos 1 ≤ℤ v x
    one = a.least x h

    go : (w x ≡ pos 1) ⊎ ((y : Value) × (holds xs y ≡ true) × Before y x × (w x ≡ w y +ℤ pos 1)) → ⊥
    go (inl e) = let o = one in absurd (omega (arith, ints))
    go (inr y) =
        let e = y.3 in
        let le : v x ≤ℤ w y.0 = omega (arith, ints) in
        let z = taken xs w b y.0 y.1 (v x) one le in
        let m = before z.0 y.0 z.2 y.2 in
        let vz : v z.0 ≡ v x = ih z.0 z.1 m ∙ z.3 in
        let wz : w z.0 ≡ w x = s z.0 x z.1 h vz in
        let k = z.3 in
        absurd (let q : v x ≡ w x = sym k ∙ wz in omega (arith, ints))
      where
        before : (z u : Value) → (z ≡ u) ⊎ Before z u → Before u x → Before z x
        before z u (inl e) m = subst (λ v. Before v x) (sym e) m
        before z u (inr n) m = omega (arith, ints)

-- Two numberings by least members that number the same items alike are one.
pub one-numbering : (xs : List Value) (v w : Value → ℤ) → ByLeast xs v → ByLeast xs w → ((x y : Value) → holds xs x ≡ true → holds xs y ≡ true → v x ≡ v y → w x ≡ w y) →
    ((x y : Value) → holds xs x ≡ true → holds xs y ≡ true → w x ≡ w y → v x ≡ v y) → (x : Value) → holds xs x ≡ true → v x ≡ w x
one-numbering xs v w a b s t x h = below (suc (rank xs x)) x h (le_refl (suc (rank xs x)))
  where
    below : (n : ℕ) (x : Value) → holds xs x ≡ true → rank xs x < n → v x ≡ w x
    below zero x h l = absurd (omega arith)
    below (suc n) x h l =
        let ih = λ (y : Value) (k : holds xs y ≡ true) (m : Before y x). below n y k (let r = rank-lt xs y x k m in omega arith) in
        by_lt_z (v x) (w x) (λ l. absurd (no-lower xs v w a b s x h ih l)) (λ g. by_lt_z (w x) (v x) (λ l. absurd (no-lower xs w v b a t x h (λ y k m. sym (ih y k m)) l)) (λ g'. omega (arith, ints)))
