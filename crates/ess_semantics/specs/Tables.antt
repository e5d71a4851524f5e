-- Tables of whole numbers over axes, and values of atoms as numbers: a truth value is 0 or 1, a value of a named type
-- is its position. A table is what a matrix variable of a model holds; the manual names no such thing.
use Rattle.std.specs.Prelude.{ℕ, zero, suc, ◌*◌, Bool, true, false, ◌&&◌, ◌||◌, if◌then◌else◌, List, [], ◌∷◌, length, take, drop, ℤ, pos, negsuc, Option, Some, None, int_le, nat_le, nat_eq, option_map}
use Rattle.ess_semantics.specs.Lists.{and_then, only_of}
use Rattle.ess_semantics.specs.Values.{Text, Value, number, truth, item, node}
use Rattle.ess_semantics.specs.Order.{same_int, same_ints}
use Rattle.ess_semantics.specs.Domains.{Domain, booleans, integers, named}
use Rattle.ess_semantics.specs.Membership.{in_spans}

-- The members of each axis, rising, and the items row by row.
pub record Table : Type 0 where
  pub axes : List (List ℤ)
  pub items : List ℤ

-- The tables of one representation, in the order of their declarations.
abbrev pub Tables : Type 0
Tables = List Table

-- How many items a table over these axes has.
abbrev pub volume : List (List ℤ) → ℕ
volume [] = 1
volume (a ∷ as') = length a * volume as'

-- The items at one member of the first axis, of v items each.
abbrev pub chunk : List ℤ → ℕ → List ℤ → ℤ → Option (List ℤ)
chunk [] v is i = None
chunk (x ∷ xs) v is i = if same_int x i then Some (take v is) else chunk xs v (drop v is) i

-- The item at an index list, over axes.
abbrev pub item_in : List (List ℤ) → List ℤ → List ℤ → Option ℤ
item_in [] is [] = only_of is
item_in (a ∷ as') is (i ∷ js) = and_then (chunk a (volume as') is i) (λ c. item_in as' c js)
item_in _ is js = None

-- The item at an index list, or nothing where it isn't in the axes.
abbrev pub cell_at : Table → List ℤ → Option ℤ
cell_at t js = item_in t.axes t.items js

-- Whether two lists of axes are equal.
abbrev pub same_axes : List (List ℤ) → List (List ℤ) → Bool
same_axes [] [] = true
same_axes (x ∷ xs) (y ∷ ys) = same_ints x y && same_axes xs ys
same_axes _ _ = false

-- Whether the table has an item for each list of members of its axes.
abbrev pub is_filled : Table → Bool
is_filled t = nat_eq (length t.items) (volume t.axes)

-- A table with one item.
abbrev pub one_cell : ℤ → Table
one_cell n = record { axes = []; items = n ∷ [] }

-- A table with one axis.
abbrev pub row_of : List ℤ → List ℤ → Table
row_of a is = record { axes = a ∷ []; items = is }

-- ---- atoms

-- 1 for true, 0 for false.
abbrev pub truth_number : Bool → ℤ
truth_number b = pos (if b then 1 else 0)

-- The number that stands for a value of an atom.
abbrev pub code : Value → ℤ
code (number n) = n
code (truth b) = truth_number b
code (item t k) = pos k
code (node k xs) = pos 0

-- The truth value that a number stands for.
abbrev pub truth_of : ℤ → Option Bool
truth_of (pos zero) = Some false
truth_of (pos (suc zero)) = Some true
truth_of _ = None

-- The value of a named type at a position.
abbrev pub item_of_type : Text → ℕ → ℤ → Option Value
item_of_type t n (pos k) = if nat_le 1 k && nat_le k n then Some (item t k) else None
item_of_type t n (negsuc k) = None

-- The value of an atom that a number stands for. A position must be one of the type.
abbrev pub atom_value : Domain → ℤ → Option Value
atom_value booleans n = option_map truth (truth_of n)
atom_value (integers ss) n = Some (number n)
atom_value (named t k) n = item_of_type t k n
atom_value _ n = None

-- Whether a number is a member of a cell's domain. Truth is 0 or 1, a value of a named type is its position.
abbrev pub is_cell : Domain → ℤ → Bool
is_cell booleans n = same_int n (pos 0) || same_int n (pos 1)
is_cell (integers ss) n = in_spans ss n
is_cell (named t k) n = int_le (pos 1) n && int_le n (pos k)
is_cell d n = false
