-- Ranges with one bound or none: what they hold, and what the two of them together hold.
use Rattle.std.proofs.Common.{◌≡◌, refl, sym, ap, ◌∙◌, Bool, true, false, ◌&&◌, ◌||◌, if◌then◌else◌, ℤ, pos, ◌+ℤ◌, ◌≤ℤ◌, ◌<ℤ◌, Option, Some, None, int_le, arith}
use Rattle.std.proofs.lemmas.Int.{ints}
use Rattle.ess_semantics.specs.Lists.{is_some_and, is_none_or}
use Rattle.ess_semantics.specs.Domains.{Span}
use Rattle.ess_semantics.specs.Membership.{in_span}
use Rattle.ess_semantics.specs.Satisfaction.{is_run}
use Rattle.ess_semantics.proofs.Tests.{both-ways}
use Rattle.eprime_eval_scalars.specs.Runs.{is_left, lower_bound, upper_bound, merged}

-- ---- two numbers

pub le-true : (a b : ℤ) → a ≤ℤ b → int_le a b ≡ true
le-true a b h = grind (arith, ints)

pub le-false : (a b : ℤ) → b <ℤ a → int_le a b ≡ false
le-false a b h = grind (arith, ints)

true-le : (a b : ℤ) → int_le a b ≡ true → a ≤ℤ b
true-le a b h = grind (arith, ints)

false-le : (a b : ℤ) → int_le a b ≡ false → b <ℤ a
false-le a b h = grind (arith, ints)

-- ---- bounds of two ranges together

from-either : (n a b : ℤ) (c : Bool) → int_le a b ≡ c → int_le (if c then a else b) n ≡ int_le a n || int_le b n
from-either n a b true e =
    both-ways (int_le a n) (int_le a n || int_le b n)
    (λ p. ap (λ x. x || int_le b n) p)
    (λ p. go (int_le a n) refl p)
  where
    go : (x : Bool) → int_le a n ≡ x → x || int_le b n ≡ true → int_le a n ≡ true
    go true q p = q
    go false q p = let u = true-le a b e in let v = true-le b n p in le-true a n (omega (arith, ints))
from-either n a b false e =
    both-ways (int_le b n) (int_le a n || int_le b n)
    (λ p. go (int_le a n) p)
    (λ p. back (int_le a n) refl p)
  where
    go : (x : Bool) → int_le b n ≡ true → x || int_le b n ≡ true
    go true p = refl
    go false p = p

    back : (x : Bool) → int_le a n ≡ x → x || int_le b n ≡ true → int_le b n ≡ true
    back true q p = let u = false-le a b e in let v = true-le a n q in le-true b n (omega (arith, ints))
    back false q p = p

to-either : (n a b : ℤ) (c : Bool) → int_le a b ≡ c → int_le n (if c then b else a) ≡ int_le n a || int_le n b
to-either n a b true e =
    both-ways (int_le n b) (int_le n a || int_le n b)
    (λ p. go (int_le n a) p)
    (λ p. back (int_le n a) refl p)
  where
    go : (x : Bool) → int_le n b ≡ true → x || int_le n b ≡ true
    go true p = refl
    go false p = p

    back : (x : Bool) → int_le n a ≡ x → x || int_le n b ≡ true → int_le n b ≡ true
    back true q p = let u = true-le a b e in let v = true-le n a q in le-true n b (omega (arith, ints))
    back false q p = p
to-either n a b false e =
    both-ways (int_le n a) (int_le n a || int_le n b)
    (λ p. ap (λ x. x || int_le n b) p)
    (λ p. go (int_le n a) refl p)
  where
    go : (x : Bool) → int_le n a ≡ x → x || int_le n b ≡ true → int_le n a ≡ true
    go true q p = q
    go false q p = let u = false-le a b e in let v = true-le n b p in le-true n a (omega (arith, ints))

or-true : (b : Bool) → b || true ≡ true
or-true true = refl
or-true false = refl

low-either : (n : ℤ) (a b : Option ℤ)
    → is_none_or (lower_bound a b) (λ x. int_le x n) ≡ is_none_or a (λ x. int_le x n) || is_none_or b (λ x. int_le x n)
low-either n None b = refl
low-either n (Some a) None = sym (or-true (int_le a n))
low-either n (Some a) (Some b) = from-either n a b (int_le a b) refl

high-either : (n : ℤ) (a b : Option ℤ)
    → is_none_or (upper_bound a b) (λ x. int_le n x) ≡ is_none_or a (λ x. int_le n x) || is_none_or b (λ x. int_le n x)
high-either n None b = refl
high-either n (Some a) None = sym (or-true (int_le n a))
high-either n (Some a) (Some b) = to-either n a b (int_le a b) refl

-- A number above the one range and below the other one lies in a gap.
in-gap : (n : ℤ) (h l : Option ℤ) → is_none_or h (λ x. int_le n x) ≡ false → is_none_or l (λ x. int_le x n) ≡ false
    → is_some_and h (λ b. is_some_and l (λ c. int_le (b +ℤ pos 2) c)) ≡ true
in-gap n None l p q = cc
in-gap n (Some b) None p q = cc
in-gap n (Some b) (Some c) p q =
    let u = false-le n b p in let v = false-le c n q in le-true (b +ℤ pos 2) c (omega (arith, ints))

cross : (sl sh rl rh : Bool) → (sh ≡ false → rl ≡ false → ⊥) → (rh ≡ false → sl ≡ false → ⊥) → (sl || rl) && (sh || rh) ≡ (sl && sh) || (rl && rh)
cross true true rl rh g h = refl
cross true false true rh g h = refl
cross true false false rh g h = absurd (g refl refl)
cross false sh true true g h = or-true sh
cross false sh true false g h = absurd (h refl refl)
cross false sh false rh g h = refl

-- Two ranges with no gap between them hold together what either holds.
pub in-merged : (n : ℤ) (s r : Span) → is_left s r ≡ false → is_left r s ≡ false → in_span n (merged s r) ≡ in_span n s || in_span n r
in-merged n s r g h =
    ap (λ b. b && is_none_or (upper_bound s.high r.high) (λ x. int_le n x)) (low-either n s.low r.low)
    ∙ ap (λ b. (is_none_or s.low (λ x. int_le x n) || is_none_or r.low (λ x. int_le x n)) && b) (high-either n s.high r.high)
    ∙ cross (is_none_or s.low (λ x. int_le x n)) (is_none_or s.high (λ x. int_le n x)) (is_none_or r.low (λ x. int_le x n)) (is_none_or r.high (λ x. int_le n x))
    (λ p q. let k = in-gap n s.high r.low p q in cc) (λ p q. let k = in-gap n r.high s.low p q in cc)

-- ---- runs

-- A range without members holds no number.
pub none-in : (n : ℤ) (s : Span) → is_run s ≡ false → in_span n s ≡ false
none-in n s h = go s.low s.high h
  where
    low : (a b : ℤ) (x : Bool) → int_le a n ≡ x → int_le a b ≡ false → x && int_le n b ≡ false
    low a b false p q = refl
    low a b true p q = let u = true-le a n p in let v = false-le a b q in le-false n b (omega (arith, ints))

    go : (a b : Option ℤ) → is_none_or a (λ a. is_none_or b (λ b. int_le a b)) ≡ false → is_none_or a (λ a. int_le a n) && is_none_or b (λ b. int_le n b) ≡ false
    go None b h = cc
    go (Some a) None h = cc
    go (Some a) (Some b) h = low a b (int_le a n) refl h

less-or : (a b c d : ℤ) (x y : Bool) → int_le a c ≡ x → int_le b d ≡ y → int_le a b ≡ true → int_le (if x then a else c) (if y then d else b) ≡ true
less-or a b c d true true p q h = let u = true-le b d q in let v = true-le a b h in le-true a d (omega (arith, ints))
less-or a b c d true false p q h = h
less-or a b c d false true p q h =
    let u = true-le b d q in let v = true-le a b h in let w = false-le a c p in le-true c d (omega (arith, ints))
less-or a b c d false false p q h = let v = true-le a b h in let w = false-le a c p in le-true c b (omega (arith, ints))

-- Two ranges with members have members together.
pub merged-run : (s r : Span) → is_run s ≡ true → is_run (merged s r) ≡ true
merged-run s r h = go s.low s.high r.low r.high h
  where
    go : (a b c d : Option ℤ) → is_none_or a (λ a. is_none_or b (λ b. int_le a b)) ≡ true
        → is_none_or (lower_bound a c) (λ a. is_none_or (upper_bound b d) (λ b. int_le a b)) ≡ true
    go None b c d h = refl
    go (Some a) b None d h = refl
    go (Some a) None (Some c) d h = refl
    go (Some a) (Some b) (Some c) None h = refl
    go (Some a) (Some b) (Some c) (Some d) h = less-or a b c d (int_le a c) (int_le b d) refl refl h

-- What is left of both is left of the two together.
pub left-merged : (p s r : Span) → is_left p s ≡ true → is_left p r ≡ true → is_left p (merged s r) ≡ true
left-merged p s r g h = go p.high s.low r.low g h
  where
    either : (b a c : ℤ) (x : Bool) → int_le (b +ℤ pos 2) a ≡ true → int_le (b +ℤ pos 2) c ≡ true → int_le (b +ℤ pos 2) (if x then a else c) ≡ true
    either b a c true p q = p
    either b a c false p q = q

    go : (b a c : Option ℤ) → is_some_and b (λ b. is_some_and a (λ a. int_le (b +ℤ pos 2) a)) ≡ true
        → is_some_and b (λ b. is_some_and c (λ c. int_le (b +ℤ pos 2) c)) ≡ true
        → is_some_and b (λ b. is_some_and (lower_bound a c) (λ c. int_le (b +ℤ pos 2) c)) ≡ true
    go None a c g h = cc
    go (Some b) None c g h = cc
    go (Some b) (Some a) None g h = cc
    go (Some b) (Some a) (Some c) g h = either b a c (int_le a c) g h

-- What is left of a run is left of what is right of the run.
pub left-on : (p r s : Span) → is_run r ≡ true → is_left p r ≡ true → is_left r s ≡ true → is_left p s ≡ true
left-on p r s k g h = go p.high r.low r.high s.low k g h
  where
    go : (b a c d : Option ℤ) → is_none_or a (λ a. is_none_or c (λ b. int_le a b)) ≡ true
        → is_some_and b (λ b. is_some_and a (λ c. int_le (b +ℤ pos 2) c)) ≡ true
        → is_some_and c (λ b. is_some_and d (λ c. int_le (b +ℤ pos 2) c)) ≡ true
        → is_some_and b (λ b. is_some_and d (λ c. int_le (b +ℤ pos 2) c)) ≡ true
    go None a c d k g h = cc
    go (Some b) None c d k g h = cc
    go (Some b) (Some a) None d k g h = cc
    go (Some b) (Some a) (Some c) None k g h = cc
    go (Some b) (Some a) (Some c) (Some d) k g h =
        let u = true-le a c k in let v = true-le (b +ℤ pos 2) a g in let w = true-le (c +ℤ pos 2) d h in le-true (b +ℤ pos 2) d (omega (arith, ints))
