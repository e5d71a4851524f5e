-- Small facts on Booleans.
use Rattle.std.proofs.Common.{◌&&◌, Bool, arith, false, if◌then◌else◌, not, refl, true, ◌||◌, ℕ, ◌≡◌, ◌≤◌}

-- 0 is at most any number.
pub zero-le : {n : ℕ} → 0 ≤ n
zero-le {n} = omega arith

-- A conjunction with false is false.
pub and-false : (b : Bool) → (b && false) ≡ false
and-false true = refl
and-false false = refl

-- A disjunction with true is true.
pub or-true : (b : Bool) → (b || true) ≡ true
or-true true = refl
or-true false = refl

-- Conjunctions may be bracketed in both ways.
pub and-assoc : (a b c : Bool) → ((a && b) && c) ≡ (a && (b && c))
and-assoc true b c = refl
and-assoc false b c = refl

-- Of a true conjunction the left side is true.
pub and-left : (a b : Bool) → (a && b) ≡ true → a ≡ true
and-left true b h = refl
and-left false b h = h

-- Of a true conjunction the right side is true.
pub and-right : (a b : Bool) → (a && b) ≡ true → b ≡ true
and-right true b h = h
and-right false b h = cc

-- What is not true is false.
pub not-true : (b : Bool) → not b ≡ true → b ≡ false
not-true true h = cc
not-true false h = refl

-- What is not false is true.
pub not-false : (b : Bool) → not b ≡ false → b ≡ true
not-false true h = refl
not-false false h = cc

-- A Boolean is true or false.
pub by_bool : {X : Type 0} (b : Bool) → (b ≡ true → X) → (b ≡ false → X) → X
by_bool true f g = f refl
by_bool false f g = g refl

-- What holds of both sides of a choice, each where it is taken, holds of the choice.
pub by_elim : {X : Type 0} (b : Bool) (P : X → Type 0) (x y : X) → (b ≡ true → P x) → (b ≡ false → P y) → P (elim b [ true ↦ x | false ↦ y ])
by_elim true P x y f g = f refl
by_elim false P x y f g = g refl

-- The same of an `if`.
pub by_test : {X : Type 0} (b : Bool) (P : X → Type 0) (x y : X) → (b ≡ true → P x) → (b ≡ false → P y) → P (if b then x else y)
by_test true P x y f g = f refl
by_test false P x y f g = g refl
