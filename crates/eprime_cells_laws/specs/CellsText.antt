-- The text of tables (the Conjure manual, chapter on its output): the language line, and a letting of each table in order. A
-- table is written as the value that it is: nested matrices over its axes, of numbers or of truth values.
use Rattle.std.specs.Prelude.{ℕ, Bool, List, [], ◌∷◌, ◌++◌, map, drop, ℤ, pos, codes}
use Rattle.ess_semantics.specs.Values.{Text, Value, number, of_list, matrix}
use Rattle.ess_semantics.specs.Names.{Names}
use Rattle.ess_semantics.specs.Trees.{Ex}
use Rattle.ess_semantics.specs.DeclaredTables.{TableDecl}
use Rattle.ess_semantics.specs.Tables.{Table, volume}
use Rattle.ess_semantics.specs.Meaning.{cell_value, is_bool_dom}
use Rattle.ess_grammar.specs.ValueTexts.{value_text, literal_of, number_text, runs_of, runs_text}

-- ---- tables as values

-- The first item; 0 where there is none, which no filled table has.
abbrev pub first_item : List ℤ → ℤ
first_item [] = pos 0
first_item (n ∷ is) = n

-- For each member of an axis the items from its row on, where each row has v items.
abbrev pub rows_from : List ℤ → ℕ → List ℤ → List (List ℤ)
rows_from [] v is = []
rows_from (x ∷ xs) v is = is ∷ rows_from xs v (drop v is)

-- The value over these axes that the first items are: of truth values where b is true.
abbrev pub table_value : Bool → List (List ℤ) → List ℤ → Value
table_value b [] is = cell_value b (first_item is)
table_value b (a ∷ as') is = matrix (of_list (map number a)) (of_list (map (table_value b as') (rows_from a (volume as') is)))

-- ---- texts

-- No value of a named type stands in a table.
abbrev pub no_names : Text → ℕ → Text
no_names t k = []

-- A table's letting, with what stands in it: `letting f be [2, 1; int(1..2)]`.
abbrev pub cells_line : Bool → Text × Table → Text
cells_line b c = codes "letting " ++ c.0 ++ codes " be " ++ value_text no_names (table_value b c.1.axes c.1.items) ++ codes "\n"

-- The lettings of tables, each with its declaration.
abbrev pub cells_lines : List TableDecl → Names Table → Text
cells_lines (d ∷ ds) (c ∷ cs) = cells_line (is_bool_dom d.cell) c ++ cells_lines ds cs
cells_lines _ _ = []

-- The text of tables, each with its declaration.
abbrev pub cells_text : List TableDecl → Names Table → Text
cells_text ds cs = codes "language ESSENCE' 1.0\n" ++ cells_lines ds cs

-- What it is read as: each name with the literal of its table.
abbrev pub cells_literals : List TableDecl → Names Table → Names Ex
cells_literals (d ∷ ds) (c ∷ cs) = (c.0, literal_of no_names (table_value (is_bool_dom d.cell) c.1.axes c.1.items)) ∷ cells_literals ds cs
cells_literals _ _ = []

-- ---- parts of a list's text, in the words of the code that writes it

-- The end of a list over an axis: its index domain where it has items, and the bracket.
abbrev pub list_end : List ℤ → Text
list_end [] = codes "]"
list_end (n ∷ ns) = codes "; int(" ++ runs_text (runs_of (of_list (map number (n ∷ ns)))) ++ codes ")]"

-- The end of one run of numbers and the begin of the next one.
abbrev pub run_break : ℤ → ℤ → Text
run_break l n = number_text l ++ codes ", " ++ number_text n ++ codes ".."
