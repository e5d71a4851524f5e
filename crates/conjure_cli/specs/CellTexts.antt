-- The text of the cells of the solution of the self-test with the number N: each set by 20 truth values, and each function by 20 truth
-- values, which say where it has a value, and by 20 values, which are 0 where it has none.
use Rattle.std.specs.Prelude.{ℕ, ◌==◌, Bool, true, false, if◌then◌else◌, [], ◌++◌, codes, decimal}
use Rattle.ess_semantics.specs.Values.{Text}
use Rattle.conjure_cli.specs.Texts.{pairs, value, is_member, upto, numbered}

-- A truth value.
abbrev pub truth_text : Bool → Text
truth_text true = codes "true"
truth_text false = codes "false"

-- Whether i is a member of the j-th set, as the j-th function has a value there.
abbrev pub truth_at : ℕ → ℕ → ℕ → Text
truth_at N j i = truth_text (is_member N j i)

-- The value of the j-th function at i, or 0.
abbrev pub value_at : ℕ → ℕ → ℕ → Text
value_at N j i = if is_member N j i then decimal (value N j) else codes "0"

-- What stands before the i-th item of a row.
abbrev pub separator : ℕ → Text
separator i = if i == 1 then [] else codes ", "

-- The i-th item of a row, behind what stands before it.
abbrev pub item_of : (ℕ → Text) → ℕ → Text
item_of f i = separator i ++ f i

-- A row of 20 items.
abbrev pub row_of : (ℕ → Text) → Text
row_of f = upto (item_of f) 20

-- What stands behind each row: the numbers at which its items stand.
abbrev pub row_end : Text
row_end = codes "; int(1..20)]\n"

-- The table of the j-th set.
abbrev pub occurrence_line : ℕ → ℕ → Text
occurrence_line N j = numbered (codes "letting s") j (codes "_Occurrence be [") ++ row_of (truth_at N j) ++ row_end

-- The table that says where the j-th function has a value.
abbrev pub flags_line : ℕ → ℕ → Text
flags_line N j = numbered (codes "letting f") j (codes "_Function1DPartial_Flags be [") ++ row_of (truth_at N j) ++ row_end

-- The table of its values.
abbrev pub values_line : ℕ → ℕ → Text
values_line N j = numbered (codes "letting f") j (codes "_Function1DPartial_Values be [") ++ row_of (value_at N j) ++ row_end

-- The tables of the j-th set and its function.
abbrev pub table_lines : ℕ → ℕ → Text
table_lines N j = occurrence_line N j ++ flags_line N j ++ values_line N j

-- The text of the cells.
abbrev pub cells_text : ℕ → Text
cells_text N = codes "language ESSENCE' 1.0\n" ++ upto (table_lines N) (pairs N)
