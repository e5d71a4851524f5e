-- The text of a file of lettings of values: the language line, and a line for each value. Texts of solutions are of this form.
use Rattle.std.specs.Prelude.{ℕ, List, ◌++◌, map, flat_map, codes}
use Rattle.ess_semantics.specs.Values.{Text, Value}
use Rattle.ess_semantics.specs.Names.{Names}
use Rattle.ess_semantics.specs.Trees.{Stm, let_ex}
use Rattle.ess_grammar.specs.ValueTexts.{value_text, literal_of}

-- The line of a value: `letting x be {1, 2}`.
abbrev pub letting_line : (Text → ℕ → Text) → Text × Value → Text
letting_line name_of b = codes "letting " ++ b.0 ++ codes " be " ++ value_text name_of b.1 ++ codes "\n"

-- The text of the lettings of values.
abbrev pub lettings_text : (Text → ℕ → Text) → Names Value → Text
lettings_text name_of vs = codes "language Essence 1.3\n" ++ flat_map (letting_line name_of) vs

-- The lettings of the literals of values.
abbrev pub lettings_of : (Text → ℕ → Text) → Names Value → List Stm
lettings_of name_of vs = map (λ b. let_ex b.0 (literal_of name_of b.1)) vs
