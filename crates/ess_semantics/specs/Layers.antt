-- One layer of a representation: the tables that it has of its own, its children, and what links both to a value. The
-- values of the children stand at places, which are the lists of members of the layer's axes, row by row. The manual
-- names the kinds of representation in its chapter on refinement; the form of each is this project's own.
use Rattle.std.specs.Prelude.{ℕ, zero, suc, ◌+◌, Bool, true, false, if◌then◌else◌, List, [], ◌∷◌, ◌++◌, map, replicate, ℤ, pos, negsuc, Option, Some, None, nat_le, option_map, is_some}
use Rattle.ess_semantics.specs.Lists.{and_then}
use Rattle.ess_semantics.specs.Values.{Value}
use Rattle.ess_semantics.specs.Order.{same_int}
use Rattle.ess_semantics.specs.Numbers.{natural, not_below_0}
use Rattle.ess_semantics.specs.Domains.{Domain, booleans, named, member_list, between}
use Rattle.ess_semantics.specs.Tables.{Table, Tables, code, truth_of, truth_number}
use Rattle.ess_semantics.specs.Cells.{Cells, Axes, first_grid, row}

-- A table of the layer's own. `widens` says whether its cell's domain gets a 0 where the cell can be out of use.
pub record OwnTable : Type 0 where
  pub axes : Axes
  pub cell : Domain
  pub widens : Bool

-- Which places are in use: all; all of so many slots; those up to the marker, with a true flag, with a number above 0.
pub data Use : Type 0 where
  everywhere : Use
  all_slots : ℕ → Use
  up_to_marker where_flagged where_counted : Use

-- A value with its cells.
abbrev pub Slot : Type 0
Slot = Value × Cells

-- A layer over one domain.
pub record Layer : Type 0 where
  pub own : List OwnTable
  -- the domain of each child, and the axes that stand before the axes of their tables
  pub children : List Domain
  pub axes : Axes
  pub in_use : Use
  -- whether the places are slots without an order of their own, and whether two slots in use must differ
  pub is_sorted : Bool
  pub is_distinct : Bool
  -- of a member: what each child has at each place, and the layer's own tables, given the slots in their places
  pub contents : Value → List (List (Option Value))
  pub own_tables : Value → List (Option Slot) → Tables
  -- of the layer's own cells, with the values in use of each child: the value, and what else is asked of canonical cells
  pub built : Cells → List (List Value) → Option Value
  pub is_canonical : Cells → List (List Value) → Bool
  -- of the layer's own cells: whether they are tidy
  pub is_tidy : Cells → Bool

-- ---- parts of layers

-- The members of an atom as numbers: an axis.
abbrev pub codes_of : Domain → List ℤ
codes_of d = map code (member_list d)

-- As an axis or as numbers, bool is `int(0..1)`, and a type of n values is `int(1..n)`.
abbrev pub as_numbers : Domain → Domain
as_numbers booleans = between (pos 0) (pos 1)
as_numbers (named t n) = between (pos 1) (pos n)
as_numbers d = d

-- A cell of bool stays one.
abbrev pub as_cell : Domain → Domain
as_cell booleans = booleans
as_cell d = as_numbers d

-- From 0 to n.
abbrev pub up_to : ℕ → Domain
up_to n = between (pos 0) (pos n)

-- A table whose domain is written as `int(0..e)`, or is bool, is never widened.
abbrev pub fixed_table : Axes → Domain → OwnTable
fixed_table as' d = record { axes = as'; cell = d; widens = false }

-- A table whose domain gets a 0 where its cells can be out of use.
abbrev pub widened_table : Axes → Domain → OwnTable
widened_table as' d = record { axes = as'; cell = d; widens = true }

-- A layer without children has no inner values.
abbrev pub no_children : Value → List (List (Option Value))
no_children v = []

-- A layer without tables of its own has no cells.
abbrev pub no_own_tables : Value → List (Option Slot) → Tables
no_own_tables v ss = []

-- A layer of whose cells nothing else is asked.
abbrev pub always_canonical : Cells → List (List Value) → Bool
always_canonical c vss = true

-- A layer whose own cells are always tidy.
abbrev pub always_tidy : Cells → Bool
always_tidy c = true

-- A layer with one place, which is in use, without tables of its own or children.
abbrev pub plain_layer : (Cells → List (List Value) → Option Value) → Layer
plain_layer f = record {
  own = [];
  children = [];
  axes = [];
  in_use = everywhere;
  is_sorted = false;
  is_distinct = false;
  contents = no_children;
  own_tables = no_own_tables;
  built = f;
  is_canonical = always_canonical;
  is_tidy = always_tidy;
}

-- Each value at a place.
abbrev pub some_each : List Value → List (Option Value)
some_each vs = map (λ v. Some v) vs

-- ---- own cells

-- A cell of the layer's first own table.
abbrev pub own_cell : Cells → List ℤ → Option ℤ
own_cell c js = first_grid c js

-- The cells of the layer's first own table, row by row.
abbrev pub own_row : Axes → Cells → List ℤ
own_row as' c = row as' (first_grid c)

-- How many cells are true.
abbrev pub count_true : List ℤ → ℕ
count_true [] = 0
count_true (n ∷ ns) = if same_int n (pos 1) then suc (count_true ns) else count_true ns

-- The sum of numbers of times.
abbrev pub total : List ℤ → ℕ
total [] = 0
total (n ∷ ns) = natural n + total ns

-- A marker, where it isn't above the slots or below 0.
abbrev pub within_slots : ℤ → ℕ → Option ℕ
within_slots (pos k) n = if nat_le k n then Some k else None
within_slots (negsuc k) n = None

-- The items whose cell is true, where each cell is there and is a truth value.
abbrev pub chosen : {A : Type 0} → List A → (A → Option ℤ) → Option (List A)
chosen [] f = Some []
chosen (x ∷ xs) f =
    and_then (and_then (f x) truth_of) (λ b. option_map (λ ys. if b then x ∷ ys else ys) (chosen xs f))

-- x in front, where the number is above 0.
abbrev pub if_positive : {A : Type 0} → ℕ → A → List A → List A
if_positive zero x xs = xs
if_positive (suc n) x xs = x ∷ xs

-- The items whose number is above 0, where each number is there and none is below 0.
abbrev pub counted : {A : Type 0} → List A → (A → Option ℤ) → Option (List A)
counted [] f = Some []
counted (x ∷ xs) f =
    and_then (and_then (f x) not_below_0) (λ n. option_map (if_positive n x) (counted xs f))

-- Each value as often as its number says, where a number 0 has no value.
abbrev pub repeated : List ℕ → List Value → List Value
repeated [] vs = []
repeated (zero ∷ ns) vs = repeated ns vs
repeated (suc n ∷ ns) [] = []
repeated (suc n ∷ ns) (v ∷ vs) = replicate (suc n) v ++ repeated ns vs

-- Each value as often as its number says, where each value has a number.
abbrev pub each_repeated : List ℕ → List Value → List Value
each_repeated (n ∷ ns) (v ∷ vs) = replicate n v ++ each_repeated ns vs
each_repeated _ _ = []

-- ---- children

-- The values of an only child.
abbrev pub only_child : List (List Value) → List Value
only_child (vs ∷ []) = vs
only_child _ = []

-- The first value of each child.
abbrev pub first_of_each : List (List Value) → List Value
first_of_each [] = []
first_of_each ([] ∷ vss) = first_of_each vss
first_of_each ((v ∷ vs) ∷ vss) = v ∷ first_of_each vss

-- How many items are there.
abbrev pub how_many : {A : Type 0} → List (Option A) → ℕ
how_many [] = 0
how_many (None ∷ os) = how_many os
how_many (Some x ∷ os) = suc (how_many os)

-- The table of flags of slots or arguments.
abbrev pub flags_table : Axes → List (Option Slot) → Table
flags_table as' ss = record { axes = as'; items = map (λ s. truth_number (is_some s)) ss }
