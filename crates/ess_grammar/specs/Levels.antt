-- The binary operators by precedence, with their sides, after the table of operators of the Conjure manual (and of
-- 'Essence: A constraint language for specifying combinatorial problems', Constraints 13, 2008). Level 9 is that of the
-- prefixes `-` and `!`, level 10 that of all that needs no operator.
use Rattle.std.specs.Prelude.{ℕ, suc}
use Rattle.ess_semantics.specs.declared.words.Op2.{Op2}

-- The rows of the table, or ranks.
pub data Rank : Type 0 where
  power_rank product_rank sum_rank comparison_rank and_rank or_rank implies_rank iff_rank : Rank

-- Where operators of one row stand side by side, those from the left or from the right come first, or none may.
pub data Side : Type 0 where
  from_left from_right from_neither : Side

-- The rank of an operator.
abbrev pub rank : Op2 → Rank
rank Op2.Pow = power_rank
rank Op2.Times = product_rank
rank Op2.Div = product_rank
rank Op2.Mod = product_rank
rank Op2.Intersect = product_rank
rank Op2.Plus = sum_rank
rank Op2.Minus = sum_rank
rank Op2.Union = sum_rank
rank Op2.And = and_rank
rank Op2.Or = or_rank
rank Op2.Implies = implies_rank
rank Op2.Iff = iff_rank
rank _ = comparison_rank

-- The level of a rank: a higher one binds tighter.
abbrev pub height : Rank → ℕ
height power_rank = 8
height product_rank = 7
height sum_rank = 6
height comparison_rank = 5
height and_rank = 4
height or_rank = 3
height implies_rank = 2
height iff_rank = 1

-- The side of a rank.
abbrev pub side : Rank → Side
side power_rank = from_right
side product_rank = from_left
side sum_rank = from_left
side comparison_rank = from_neither
side and_rank = from_left
side or_rank = from_left
side implies_rank = from_right
side iff_rank = from_neither

-- The level of an operator.
abbrev pub level : Op2 → ℕ
level o = height (rank o)

-- The least level of a left operand without brackets.
abbrev pub left_least : Op2 → ℕ
left_least o = elim (side (rank o)) [ from_left ↦ level o | from_right ↦ suc (level o) | from_neither ↦ suc (level o) ]

-- The least level of a right operand without brackets.
abbrev pub right_least : Op2 → ℕ
right_least o = elim (side (rank o)) [ from_left ↦ suc (level o) | from_right ↦ level o | from_neither ↦ suc (level o) ]
