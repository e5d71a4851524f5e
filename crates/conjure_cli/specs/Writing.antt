-- How the lines of a model are written, one after another. Only the writer's own functions speak of
-- it: what callers rely on is the text of a model.
use Rattle.std.specs.Prelude.{ℕ, Bool, true, false, List, [], ◌∷◌, ◌++◌, codes, flat_map}
use Rattle.conjure_cli_laws.specs.SmallGrammar.{Statement, each_find}
use Rattle.conjure_cli_laws.specs.ModelText.{declaration, constraint, ended, lines_with}

-- the cell of a name where none is taken
abbrev pub plain_cell : List ℕ → List ℕ
plain_cell name = name ++ codes "_Occurrence"

abbrev pub plain_declaration : List ℕ → ℕ → ℕ → List ℕ
plain_declaration name low high = declaration (plain_cell name) low high

abbrev pub plain_constraint : ℕ → List ℕ → List ℕ
plain_constraint number name = constraint number (plain_cell name)

-- the lines that f gives of each find
abbrev pub find_lines : (List ℕ → ℕ → ℕ → List ℕ) → List Statement → List ℕ
find_lines f statements = flat_map ended (each_find f statements)

-- what stands before a constraint, where constraints went before or none did
abbrev pub before_constraint : Bool → List ℕ
before_constraint true = codes "," ++ 10 ∷ []
before_constraint false = codes "such that" ++ 10 ∷ []

-- what stands behind the last constraint
abbrev pub behind_constraints : Bool → List ℕ
behind_constraints true = 10 ∷ []
behind_constraints false = []

-- the constraints without the line feed that ends the last
abbrev pub constraints_after : Bool → List (List ℕ) → List ℕ
constraints_after some [] = []
constraints_after some (line ∷ lines) = before_constraint some ++ line ++ constraints_after true lines

abbrev pub is_some_list : List (List ℕ) → Bool
is_some_list [] = false
is_some_list (line ∷ lines) = true

-- the text where no cell's name is taken
unfoldable pub plain_text : List Statement → List ℕ
plain_text statements = flat_map ended (lines_with plain_cell statements)
