-- The number of items over axes, kept at a bound.
use Rattle.std.proofs.Common.{◌≡◌, refl, sym, ap, ◌∙◌, ℕ, zero, suc, ◌+◌, ◌*◌, ◌^◌, ◌<◌, ◌≤◌, Bool, true, false, List, [], ◌∷◌, ℤ, length, get_or, drop, min, nat_eq, arith, ◌⊎◌, inl, inr}
use Rattle.std.proofs.Math.Nat.{min-eq_left, min-eq_right, mul_assoc, mul_comm, one-mul, mul-one, mul-zero, le-mul_of_pos_right}
use Rattle.std.proofs.lemmas.Bool.{cases_lt}
use Rattle.std.proofs.lemmas.Bool.Decides.{nat_tests}
use Rattle.std.proofs.lemmas.List.{at_drop_more, drop_all}
use Rattle.ess_semantics.specs.Tables.{volume}

-- A product keeps its bound where one factor was kept at it before.
kept-first : (x v b : ℕ) → min (min x b * v) b ≡ min (x * v) b
kept-first x zero b = ap (λ n. min n b) (mul-zero (min x b) ∙ sym (mul-zero x))
kept-first x (suc w) b = by-size (cases_lt x b)
  where
    positive : 0 < suc w
    positive = omega arith

    by-size : (x < b) ⊎ (b ≤ x) → min (min x b * suc w) b ≡ min (x * suc w) b
    by-size (inl h) = ap (λ n. min (n * suc w) b) (min-eq_left (omega (arith, h)))
    by-size (inr h) =
        ap (λ n. min (n * suc w) b) (min-eq_right h)
        ∙ min-eq_right (le-mul_of_pos_right b positive)
        ∙ sym (min-eq_right (let m : x ≤ x * suc w = le-mul_of_pos_right x positive in omega (arith, h, m)))

-- What the kept room and the axes behind i make together.
pub record RoomBehind (as' : List (List ℤ)) (i room : ℕ) : Type 0 where
  pub small : room ≤ 2 ^ 64
  pub same : min (room * volume (drop i as')) (2 ^ 64) ≡ min (volume as') (2 ^ 64)

pub room_none : (as' : List (List ℤ)) (room : ℕ) → room ≡ 1 → RoomBehind as' 0 room
room_none as' room e = rw e (record { small = omega arith; same = ap (λ n. min n (2 ^ 64)) (one-mul (volume as')) })

pub room_more : (as' : List (List ℤ)) (i room new : ℕ) (a : List ℤ) → RoomBehind as' i room → i < length as' → a ≡ get_or as' i a → new ≡ min (length a * room) (2 ^ 64)
    → RoomBehind as' (i + 1) new
room_more as' i room new a h l g e = rw e (record {
  small = omega arith;
  same =
      kept-first (length a * room) (volume (drop (i + 1) as')) (2 ^ 64)
      ∙ ap (λ n. min n (2 ^ 64)) (ap (λ n. n * volume (drop (i + 1) as')) (mul_comm (length a) room) ∙ mul_assoc room (length a) (volume (drop (i + 1) as'))
      ∙ sym (ap (λ n. room * n) (at_drop_more volume as' i a l ∙ ap (λ x. length x * volume (drop (i + 1) as')) (sym g))))
      ∙ h.same;
})

pub room_all : (as' : List (List ℤ)) (i room : ℕ) → RoomBehind as' i room → length as' ≤ i → room ≡ min (volume as') (2 ^ 64)
room_all as' i room h l =
    sym (min-eq_left h.small) ∙ ap (λ n. min n (2 ^ 64)) (sym (ap (λ us. room * volume us) (drop_all i as' l) ∙ mul-one room)) ∙ h.same

pub ruleset rooms = (room_none, room_more, room_all)

-- ---- a count below the bound

eq-true : (n m : ℕ) → n ≡ m → nat_eq n m ≡ true
eq-true n m h = grind (arith, nat_tests)

eq-false : (n m : ℕ) → (n ≡ m → ⊥) → nat_eq n m ≡ false
eq-false n m h = grind (arith, nat_tests)

eq-turned : (n m : ℕ) → nat_eq n m ≡ nat_eq m n
eq-turned n m = grind (arith, nat_tests)

-- A count is that of all items where it is the kept one.
pub filled : (n v r : ℕ) → n < 2 ^ 64 → r ≡ min v (2 ^ 64) → nat_eq r n ≡ nat_eq n v
filled n v r l e = by-size (cases_lt v (2 ^ 64))
  where
    by-size : (v < 2 ^ 64) ⊎ (2 ^ 64 ≤ v) → nat_eq r n ≡ nat_eq n v
    by-size (inl h) = ap (λ k. nat_eq k n) (e ∙ min-eq_left (omega (arith, h))) ∙ eq-turned v n
    by-size (inr h) =
        let f : r ≡ 2 ^ 64 = e ∙ min-eq_right h in
        eq-false r n (λ g. omega (arith, f, g, l)) ∙ sym (eq-false n v (λ g. omega (arith, g, h, l)))
