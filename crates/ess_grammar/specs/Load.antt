-- The load of a text, by which texts that are nested too deeply are refused: a stack of items is kept over the tokens,
-- and the load at a token is the height of the stack after it.
use Rattle.std.specs.Prelude.{ℕ, Bool, true, false, List, [], ◌∷◌, length, Option, Some, None, nat_lt}
use Rattle.ess_rows.specs.declared.place.Place.{Place}
use Rattle.ess_grammar.specs.Words.{Token, word, operator, symbol, language_word, given_word, find_word, letting_word, of_word, where_word, such_word, minimising_word, maximising_word, from_word, open_round, close_round, open_square, close_square, open_curly, close_curly, comma, semicolon, dot, bar, exclamation, maps_to}
use Rattle.ess_grammar.specs.Tokens.{Lexed, the_end, bad_byte, wide_number, next_token}

-- an open bracket, or something else that is under way
pub data Item : Type 0 where
  bracket plain : Item

-- without the items above that of the innermost open bracket, or without any where no bracket is open
abbrev pub down_to_bracket : List Item → List Item
down_to_bracket [] = []
down_to_bracket (bracket ∷ items) = bracket ∷ items
down_to_bracket (plain ∷ items) = down_to_bracket items

-- without that bracket too; as it is where no bracket is open
abbrev pub closed : List Item → List Item
closed items = elim (down_to_bracket items) [ [] ↦ items | innermost ∷ below ↦ below ]

-- With a bracket that is open: directly behind `)` or `]` it is that of an index or an application, and an item stays below it.
abbrev pub opened : Bool → List Item → List Item
opened true items = bracket ∷ plain ∷ items
opened false items = bracket ∷ items

-- what a token does to the stack; the flag says that `)` or `]` stands directly before it
abbrev pub loaded_by : Token → Bool → List Item → List Item
loaded_by (symbol open_round) b items = opened b items
loaded_by (symbol open_square) b items = opened b items
loaded_by (symbol open_curly) b items = bracket ∷ items
loaded_by (symbol close_round) b items = closed items
loaded_by (symbol close_square) b items = closed items
loaded_by (symbol close_curly) b items = closed items
loaded_by (symbol dot) b items = plain ∷ items
loaded_by (symbol bar) b items = plain ∷ items
loaded_by (symbol exclamation) b items = plain ∷ items
loaded_by (symbol maps_to) b items = plain ∷ items
loaded_by (operator o) b items = plain ∷ items
loaded_by (word of_word) b items = plain ∷ items
loaded_by (word from_word) b items = plain ∷ items
loaded_by (symbol comma) b items = down_to_bracket items
loaded_by (symbol semicolon) b items = down_to_bracket items
loaded_by (word language_word) b items = down_to_bracket items
loaded_by (word given_word) b items = down_to_bracket items
loaded_by (word find_word) b items = down_to_bracket items
loaded_by (word letting_word) b items = down_to_bracket items
loaded_by (word where_word) b items = down_to_bracket items
loaded_by (word such_word) b items = down_to_bracket items
loaded_by (word minimising_word) b items = down_to_bracket items
loaded_by (word maximising_word) b items = down_to_bracket items
loaded_by _ b items = items

-- whether the token is `)` or `]`: a bracket directly behind it is that of an index or an application
abbrev pub closes_operand : Token → Bool
closes_operand (symbol close_round) = true
closes_operand (symbol close_square) = true
closes_operand _ = false

-- the largest load of a text that is read
abbrev pub largest_load : ℕ
largest_load = 250

-- the place of the first token at which the load is above it, from a stack and a flag on
abbrev pub too_deep_after : Bool → List Item → Lexed → Option Place
too_deep_after b items the_end = None
too_deep_after b items (bad_byte p) = None
too_deep_after b items (wide_number p) = None
too_deep_after b items (next_token t bytes p more) =
    elim (nat_lt largest_load (length (loaded_by t b items))) [
      | true ↦ Some p
      | false ↦ too_deep_after (closes_operand t) (loaded_by t b items) more
    ]

-- the place of the first token of a text at which the load is above the limit
abbrev pub too_deep : Lexed → Option Place
too_deep text = too_deep_after false [] text
