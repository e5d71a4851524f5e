-- The values of finds as a file of lettings, each by the literal that is printed for it.
use Rattle.std.specs.Prelude.{◌≡◌, ℕ, List, [], ◌∷◌, Option, Some, None, IsTrue}
use Rattle.ess_semantics.specs.Values.{Text, Value}
use Rattle.ess_semantics.specs.Names.{Names}
use Rattle.ess_semantics.specs.Trees.{Stm, let_ex}
use Rattle.ess_semantics.specs.Contexts.{Each}
use Rattle.ess_semantics.specs.Assignments.{Assignment}
use Rattle.ess_grammar.specs.ValueTexts.{literal_of}
use Rattle.ess_print_laws.specs.Spelled.{is_spelled}
use Rattle.ess_values_laws.specs.ItemNames.{item_name}
use Rattle.ess_translate_laws.specs.FileAssignments.{solution_in}
use Rattle.conjure_laws.specs.Premises.{here}

-- The lettings of the values that are there.
abbrev pub literal_lettings : (Text → ℕ → Text) → Names (Option Value) → List Stm
literal_lettings name_of [] = []
literal_lettings name_of ((x, Some v) ∷ bs) = let_ex x (literal_of name_of v) ∷ literal_lettings name_of bs
literal_lettings name_of ((x, None) ∷ bs) = literal_lettings name_of bs

-- The names of values of named types under a parameter.
abbrev pub names_under : List Stm → Assignment → Text → ℕ → Text
names_under S p = item_name (here S p).types

-- The value is there, and has a text.
abbrev pub IsSpelledValue : (Text → ℕ → Text) → Option Value → Type 0
IsSpelledValue name_of None = ⊥
IsSpelledValue name_of (Some v) = IsTrue (is_spelled name_of v)

-- Each find has a value that has a text, and the lettings of the values stand for the assignment a.
pub record IsReadAgain (S : List Stm) (p a : Assignment) : Type 0 where
  pub again : solution_in S p (literal_lettings (names_under S p) a.vals) ≡ a
  pub spelled : Each a.vals (λ b. IsSpelledValue (names_under S p) b.1)
