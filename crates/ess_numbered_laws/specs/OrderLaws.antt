-- What is said of signs between lists by the numbers of their items.
use Rattle.std.specs.Prelude.{◌≡◌, ℕ, zero, suc, Bool, true, false, ◌&&◌, ◌||◌, not, List, length, Option, Some, IsTrue, nat_lt, nat_le}
use Rattle.ess_semantics.specs.Values.{Value, tuple, of_list}
use Rattle.ess_semantics.specs.Order.{same, below, same_text}
use Rattle.ess_semantics.specs.Names.{Names}
use Rattle.ess_semantics.specs.Trees.{Ex, ex2}
use Rattle.ess_semantics.specs.Types.{Ty}
use Rattle.ess_semantics.specs.Typed.{Typed}
use Rattle.ess_semantics.specs.Operators.{component, implies}
use Rattle.ess_semantics.specs.Meaning.{Env}
use Rattle.ess_semantics.specs.Kept.{Keeps}
use Rattle.ess_rules_laws.specs.Rules.{Unused, SoundOperands, OperandsThere}
use Rattle.ess_refine_laws.specs.AllRules.{Supply}
use Rattle.ess_numbered_laws.specs.CountedSources.{counted_list}
use Rattle.ess_numbered_laws.specs.OrderByNumber.{order_by_number}
use Rattle.ess_numbered_laws.specs.Bounds.{IsBound}

-- ---- lists of values

-- Whether f is true of one of n numbers, from k on.
abbrev pub at_some : (ℕ → Bool) → ℕ → ℕ → Bool
at_some f k zero = false
at_some f k (suc n) = f k || at_some f (suc k) n

-- Whether it is true of each of them.
abbrev pub at_each : (ℕ → Bool) → ℕ → ℕ → Bool
at_each f k zero = true
at_each f k (suc n) = f k && at_each f (suc k) n

-- Whether both are there, and f is true of them.
abbrev pub both_have : (Value → Value → Bool) → Option Value → Option Value → Bool
both_have f (Some x) (Some y) = f x y
both_have f o p = false

-- Whether both lists have an item at the number, counted from 1, and f is true of the two.
abbrev pub at_both : (Value → Value → Bool) → List Value → List Value → ℕ → Bool
at_both f xs ys k = both_have f (component (of_list xs) k) (component (of_list ys) k)

-- Whether at some number up to n the item of xs is lower, and all items before are equal.
abbrev pub lower_at_some : ℕ → List Value → List Value → Bool
lower_at_some n xs ys =
    at_some (λ k. at_both below xs ys k && at_each (λ j. implies (nat_lt j k) (at_both same xs ys j)) 1 n) 1 n

-- Whether ys has an equal item at each number up to n at which xs has one.
abbrev pub is_prefix : ℕ → List Value → List Value → Bool
is_prefix n xs ys = at_each (λ k. implies (nat_le k (length xs)) (at_both same xs ys k)) 1 n

-- Whether there are fewer, or as many where `equal` allows it.
abbrev pub fewer : Bool → ℕ → ℕ → Bool
fewer false m n = nat_lt m n
fewer true m n = nat_le m n

-- Whether the list is lower, or equal where `equal` allows it.
abbrev pub is_lower : Bool → List Value → List Value → Bool
is_lower false xs ys = below (tuple (of_list xs)) (tuple (of_list ys))
is_lower true xs ys = not (below (tuple (of_list ys)) (tuple (of_list xs)))

-- A list is lower than another one where at some number both have an item, that of the first is lower, and all before are equal, or where
-- the first has fewer items and the other one begins with these. Numbers up to the number of items of one of them are enough.
abbrev pub LowerByNumber : Type 0
LowerByNumber = (equal : Bool) (n : ℕ) (xs ys : List Value) → IsTrue (nat_le (length xs) n || nat_le (length ys) n) →
    is_lower equal xs ys ≡ lower_at_some n xs ys || (fewer equal (length xs) (length ys) && is_prefix n xs ys)

-- ---- the rule

-- Where items of the operand are counted, what says how many there are at most is right.
abbrev pub BoundedWhereCounted : Supply → Names Ty → Ex → Env → Type 0
BoundedWhereCounted s g a env = (n : Ex) → counted_list s g a ≡ Some n → IsBound n a env

-- The same of both operands.
abbrev pub BothBounded : Supply → Names Ty → Ex → Env → Type 0
BothBounded s g (ex2 m o a b) env = BoundedWhereCounted s g a env × BoundedWhereCounted s g b env
BothBounded s g e env = Unit {0}

-- The new names are apart, and neither stands in the expression; the operands have values of their types, and bounds of how many items
-- they have are right.
pub record OrderAsks (s : Supply) (g : Names Ty) (e : Ex) (env : Env) : Type 0 where
  pub apart : same_text s.other s.one ≡ false
  pub one_unused : Unused s.one e
  pub other_unused : Unused s.other e
  pub sound : SoundOperands g e
  pub typed : Typed g env
  pub there : OperandsThere e env
  pub bounded : BothBounded s g e env

-- A sign between lists is kept where it is said by the numbers of their items.
abbrev pub OrderKeeps : Type 0
OrderKeeps = (s : Supply) (g : Names Ty) (e f : Ex) → order_by_number s g e ≡ Some f → (env : Env) → OrderAsks s g e env → Keeps e f env
