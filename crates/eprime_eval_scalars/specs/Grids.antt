-- Tables whose axes are lists of numbers or runs of them, and where an index list lies in one.
use Rattle.std.specs.Prelude.{ℕ, zero, suc, ◌+◌, ◌*◌, ◌^◌, List, [], ◌∷◌, length, map, ℤ, pos, ◌+ℤ◌, if◌then◌else◌, Option, Some, None, option_map, nat_lt}
use Rattle.ess_semantics.specs.Lists.{and_then}
use Rattle.ess_semantics.specs.Order.{same_int}
use Rattle.ess_semantics.specs.Tables as pure
use Rattle.ess_semantics.specs.Tables.{volume}
use Rattle.eprime_eval_scalars.specs.declared.grids.Axis.{Axis}
use Rattle.eprime_eval_scalars.specs.declared.grids.Axis.TheVariants as variant
use Rattle.eprime_eval_scalars.specs.declared.grids.Grid.{Grid}

-- n numbers, from a on.
abbrev pub numbers_from : ℤ → ℕ → List ℤ
numbers_from a zero = []
numbers_from a (suc n) = a ∷ numbers_from (a +ℤ pos 1) n

-- The members of an axis.
abbrev pub axis_numbers : Axis → List ℤ
axis_numbers (variant.Run a n) = numbers_from a n
axis_numbers (variant.Numbers ns) = ns

-- The pure table of a grid.
abbrev pub pure_grid : Grid → pure.Table
pure_grid g = record { axes = map axis_numbers g.axes; items = g.items }

-- The place of a number in a list, from 0: the first where it stands.
abbrev pub place_of : List ℤ → ℤ → Option ℕ
place_of [] i = None
place_of (x ∷ xs) i = if same_int x i then Some 0 else option_map suc (place_of xs i)

-- The place of an index list among all those of the axes, row by row, from k rows on.
abbrev pub offset_from : ℕ → List (List ℤ) → List ℤ → Option ℕ
offset_from k [] [] = Some k
offset_from k (a ∷ as') (i ∷ is) = and_then (place_of a i) (λ p. offset_from (k * length a + p) as' is)
offset_from k _ _ = None

-- The number, where a list can have so many items.
abbrev pub in_memory : Option ℕ → Option ℕ
in_memory o = and_then o (λ n. if nat_lt n (2 ^ 64) then Some n else None)
