-- The members of a domain of numbers, and the numbers that stand for them.
use Rattle.std.proofs.Common.{◌≡◌, refl, sym, ap, ◌∙◌, ℕ, zero, suc, ◌<◌, List, [], ◌∷◌, map, length}
use Rattle.std.proofs.Common.{Option, Some, None, option_map, ℤ, pos, ◌+ℤ◌, ◌-ℤ◌, ◌<ℤ◌, negsuc, IfSome, arith}
use Rattle.std.specs.Prelude.{slice_get}
use Rattle.std.proofs.lemmas.Int.{ints}
use Rattle.std.proofs.lemmas.List.{append-nil}
use Rattle.std.proofs.lemmas.Option.{slice_get-map}
use Rattle.ess_semantics.specs.Lists.{and_then}
use Rattle.ess_semantics.specs.Values.{Value, number}
use Rattle.ess_semantics.specs.Numbers.{natural}
use Rattle.ess_semantics.specs.Domains.{int_members, integers, numbers_up, interval, span_members}
use Rattle.ess_semantics.specs.DeclaredTables.{axis_members}
use Rattle.ess_semantics.specs.Tables.{code}
use Rattle.ess_eval_domains.proofs.RangeNumbers.{int_one}
use Rattle.eprime_eval_scalars.specs.declared.running.Run.{Run}
use Rattle.eprime_eval_scalars.specs.declared.scalars.Scalar.{Scalar}
use Rattle.eprime_eval_scalars.specs.Grids.{numbers_from}
use Rattle.eprime_eval_scalars.specs.Runs.{pure_run}
use Rattle.eprime_eval_scalars.specs.ScalarViews.{pure_scalar}
use Rattle.eprime_eval.specs.declared.members.Members.{Members}
use Rattle.eprime_eval.specs.MemberViews.{member_values}

code-number : (xs : List ℤ) → map code (map number xs) ≡ xs
code-number [] = refl
code-number (x ∷ xs) = ap (λ ys. x ∷ ys) (code-number xs)

code-numbers : (o : Option (List ℤ)) → option_map (map code) (option_map (map number) o) ≡ o
code-numbers None = refl
code-numbers (Some xs) = ap Some (code-number xs)

-- Numbers are their own codes.
pub codes : (o : Option (List ℤ)) (rs : List Run) → option_map (map number) o ≡ int_members (map pure_run rs) → o ≡ axis_members (Some (integers (map pure_run rs)))
codes o rs h = sym (code-numbers o) ∙ ap (option_map (map code)) h

-- ---- how many there are, and which stands where

-- As many numbers as are counted.
pub up_count : (a : ℤ) (n : ℕ) → n ≡ length (numbers_up a n)
up_count a zero = refl
up_count a (suc n) = ap suc (up_count (a +ℤ pos 1) n)

-- As many values as scalars.
pub scalar_count : (vs : List Scalar) → length vs ≡ length (map pure_scalar vs)
scalar_count [] = refl
scalar_count (v ∷ vs) = ap suc (scalar_count vs)

pub ruleset member_counts = (up_count, scalar_count)

up-at : (a : ℤ) (n k : ℕ) → k < n → slice_get (numbers_up a n) k ≡ Some (number (a +ℤ pos k))
up-at a zero k h = absurd (omega arith)
up-at a (suc n) zero h = ap (λ z. Some (number z)) (omega (arith, ints))
up-at a (suc n) (suc k) h = up-at (a +ℤ pos 1) n k (omega arith) ∙ ap (λ z. Some (number z)) (omega (arith, ints))

-- The number that lies so far above the first.
pub run_at : (a : ℤ) (n k : ℕ) (z : ℤ) → k < length (numbers_up a n) → z ≡ a +ℤ pos k → slice_get (numbers_up a n) k ≡ Some (number z)
run_at a n k z h e = let l : k < n = rw (← up_count a n) at h in up-at a n k l ∙ ap (λ y. Some (number y)) (sym e)

-- The value that is held there.
pub scalar_at : (vs : List Scalar) (k : ℕ) (v : Scalar) → Some v ≡ slice_get vs k → slice_get (map pure_scalar vs) k ≡ Some (pure_scalar v)
scalar_at vs k v e = slice_get-map pure_scalar vs k ∙ ap (option_map pure_scalar) (sym e)

pub ruleset members_at = (run_at, scalar_at)

-- ---- one range

-- Of a range whose upper bound is lower there are none.
pub no_interval : (a b c : ℤ) → c ≡ (b -ℤ a) +ℤ pos 1 → c <ℤ pos 0 → numbers_up a 0 ≡ interval a b
no_interval a b (pos n) e h = absurd (omega (arith, ints))
no_interval a b (negsuc n) e h = ap (λ z. numbers_up a (natural z)) e

-- Of another one as many as are counted.
pub counted_interval : (a b c : ℤ) (n : ℕ) → c ≡ (b -ℤ a) +ℤ pos 1 → c ≡ pos n → numbers_up a n ≡ interval a b
counted_interval a b c n e h = ap (λ z. numbers_up a (natural z)) (sym h ∙ e)

pub ruleset intervals = (no_interval, counted_interval)

from-up : (a : ℤ) (n : ℕ) → map number (numbers_from a n) ≡ numbers_up a n
from-up a zero = refl
from-up a (suc n) = ap (λ l. number a ∷ l) (from-up (a +ℤ pos 1) n)

-- The members of an only range are its numbers.
pub one_interval : (rs : List Run) (a b : ℤ) (vs : List Value) → rs ≡ record { from = Some a; to = Some b } ∷ [] → vs ≡ interval a b
    → Some vs ≡ int_members (map pure_run rs)
one_interval rs a b vs e h =
    let numbers : map number (numbers_from a (natural ((b -ℤ a) +ℤ pos 1))) ≡ interval a b = from-up a (natural ((b -ℤ a) +ℤ pos 1)) in
    ap Some (h ∙ sym numbers)
    ∙ int_one (record { low = Some a; high = Some b } ∷ []) (numbers_from a (natural ((b -ℤ a) +ℤ pos 1))) refl refl
    (numbers ∙ sym (append-nil (interval a b)))
    ∙ sym (ap (λ xs. int_members (map pure_run xs)) e)

-- Those of a range with both bounds.
pub both_bounds : (r : Run) (a b : ℤ) (o : Option Members) → r.from ≡ Some a → r.to ≡ Some b
    → IfSome o (λ m. member_values m ≡ interval a b) → IfSome o (λ m. Some (member_values m) ≡ span_members (pure_run r))
both_bounds r a b None f g h = tt
both_bounds r a b (Some m) f g h =
    ap Some h
    ∙ sym (ap (λ p. and_then p (λ x. and_then r.to (λ y. Some (interval x y)))) f ∙ ap (λ q. and_then q (λ y. Some (interval a y))) g)

one-span : (r : Run) (vs : List Value) (f t : Option ℤ) → r.from ≡ f → r.to ≡ t
    → Some vs ≡ and_then f (λ a. and_then t (λ b. Some (interval a b))) → Some vs ≡ int_members (map pure_run (r ∷ []))
one-span r vs None t p q h = cc
one-span r vs (Some a) None p q h = cc
one-span r vs (Some a) (Some b) p q h =
    let k : r ≡ record { from = Some a; to = Some b } = rw (← p, ← q) refl in
    let e : vs ≡ interval a b = cc in
    one_interval (r ∷ []) a b vs (ap (λ x. x ∷ []) k) e

-- They are all members where the range is the first, with none behind it.
pub only_run : (rs rest : List Run) (r : Run) (o : Option Members) → rs ≡ r ∷ rest → length rest ≡ 0
    → IfSome o (λ m. Some (member_values m) ≡ span_members (pure_run r))
    → IfSome o (λ m. Some (member_values m) ≡ int_members (map pure_run rs))
only_run rs [] r None e l h = tt
only_run rs [] r (Some m) e l h = one-span r (member_values m) r.from r.to refl refl h ∙ sym (ap (λ xs. int_members (map pure_run xs)) e)
only_run rs (s ∷ rest) r o e l h = cc
