-- The text of the model of some statements, in Essence Prime, with the header of this tool.
use Rattle.std.specs.Prelude.{◌≡◌, ℕ, zero, suc, List, [], ◌∷◌, ◌++◌, codes, if◌then◌else◌, bytes_eq, decimal, length, flat_map}
use Rattle.std.specs.List.{concat}
use Rattle.conjure_cli_laws.specs.Words.{is_among}
use Rattle.conjure_cli_laws.specs.SmallGrammar.{Statement, each_find, each_constraint, found_names, Reads}

-- The name, with `_` appended while it is taken, at most as often as the number says.
abbrev pub free_name : List (List ℕ) → ℕ → List ℕ → List ℕ
free_name taken zero name = name
free_name taken (suc tries) name = if is_among taken name then free_name taken tries (name ++ codes "_") else name

-- The cell of a set under the representation `Occurrence`: one truth value for each number that may be
-- a member. Its name is the set's, then the representation's. The names of earlier cells are taken too.
abbrev pub cell_name : List (List ℕ) → List ℕ → List ℕ
cell_name taken name = free_name taken (length taken) (name ++ codes "_Occurrence")

-- each name with that of its cell
abbrev pub cells_from : List (List ℕ) → List (List ℕ) → List (List ℕ × List ℕ)
cells_from taken [] = []
cells_from taken (name ∷ names) = (name, cell_name taken name) ∷ cells_from (cell_name taken name ∷ taken) names

-- A name is taken where a statement declares it. One word that solvers of the target language know is too.
abbrev pub cells : List Statement → List (List ℕ × List ℕ)
cells statements = cells_from (codes "alldifferent_except" ∷ found_names statements) (found_names statements)

-- the cell of the set of that name
abbrev pub cell_of : List (List ℕ × List ℕ) → List ℕ → List ℕ
cell_of [] name = []
cell_of (cell ∷ more) name = if bytes_eq cell.0 name then cell.1 else cell_of more name

-- `int(low..high)`
abbrev pub domain : ℕ → ℕ → List ℕ
domain low high = concat (codes "int(" ∷ decimal low ∷ codes ".." ∷ decimal high ∷ codes ")" ∷ [])

-- The lines of the header: each statement that declares something, and its representation.
abbrev pub header_find : List ℕ → ℕ → ℕ → List ℕ
header_find name low high = concat (codes "$ find " ∷ name ∷ codes " : set of " ∷ domain low high ∷ [])

abbrev pub header_representation : List ℕ → ℕ → ℕ → List ℕ
header_representation name low high = concat (codes "$ repr " ∷ name ∷ codes " Occurrence" ∷ [])

-- The declaration of a cell.
abbrev pub declaration : List ℕ → ℕ → ℕ → List ℕ
declaration cell low high = concat (codes "find " ∷ cell ∷ codes " : matrix indexed by [" ∷ domain low high ∷ codes "] of bool" ∷ [])

-- A constraint: the number's truth value in the cell.
abbrev pub constraint : ℕ → List ℕ → List ℕ
constraint number cell = concat (codes "    " ∷ cell ∷ codes "[" ∷ decimal number ∷ codes "]" ∷ [])

-- a comma at the end of each line but the last
abbrev pub with_commas : List (List ℕ) → List (List ℕ)
with_commas [] = []
with_commas (line ∷ []) = line ∷ []
with_commas (line ∷ next ∷ lines) = (line ++ codes ",") ∷ with_commas (next ∷ lines)

abbrev pub constraint_lines : List (List ℕ) → List (List ℕ)
constraint_lines [] = []
constraint_lines (line ∷ lines) = codes "such that" ∷ with_commas (line ∷ lines)

-- The lines of the model, where a set's name has this cell.
abbrev pub lines_with : (List ℕ → List ℕ) → List Statement → List (List ℕ)
lines_with cell statements =
    codes "language ESSENCE' 1.0" ∷ codes "$ conjure-header 1" ∷ []
    ++ each_find header_find statements
    ++ each_find header_representation statements
    ++ codes "$ end-header" ∷ []
    ++ each_find (λ name low high. declaration (cell name) low high) statements
    ++ constraint_lines (each_constraint (λ number name. constraint number (cell name)) statements)

abbrev pub model_lines : List Statement → List (List ℕ)
model_lines statements = lines_with (cell_of (cells statements)) statements

-- a line with the line feed that ends it
abbrev pub ended : List ℕ → List ℕ
ended line = line ++ 10 ∷ []

-- The text of the model.
unfoldable pub model_text : List Statement → List ℕ
model_text statements = flat_map ended (model_lines statements)

-- the model is that of the text
abbrev pub IsModelOf : List ℕ → List ℕ → Type 0
IsModelOf text model = (statements : List Statement) × Reads text statements × (model ≡ model_text statements)
