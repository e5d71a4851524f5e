-- Worked examples of the load.
use Rattle.std.specs.Prelude.{◌≡◌, refl, ℕ, ◌+◌, Bool, false, List, [], ◌∷◌, ◌++◌, replicate, Option, Some, None, codes}
use Rattle.ess_semantics.specs.Values.{Text}
use Rattle.ess_grammar.specs.Words.{Token, symbol, word, open_round, close_round, true_word}
use Rattle.ess_grammar.specs.Tokens.{Lexed, the_end, next_token, tokens}
use Rattle.ess_grammar.specs.Load.{Item, bracket, plain, loaded_by, closes_operand, too_deep}

-- the stack behind all tokens
abbrev stack : Bool → List Item → List Token → List Item
stack b items [] = items
stack b items (t ∷ ts) = stack (closes_operand t) (loaded_by t b items) ts

abbrev stack_of : Text → Option (List Item)
stack_of text = elim (tokens text) [ Some ts ↦ Some (stack false [] ts) | None ↦ None ]

opened : stack_of (codes "([{") ≡ Some (bracket ∷ bracket ∷ bracket ∷ [])
opened = refl

-- a bracket directly behind `)` or `]` pushes two items, whatever white space lies between
indices : stack_of (codes "m[1][2](") ≡ Some (bracket ∷ plain ∷ plain ∷ [])
indices = refl

apart : stack_of (codes "m[1] $ comment") ≡ Some []
apart = refl

-- brackets of any kind close the innermost open one, with what stands above it
closing : stack_of (codes "( - - !x ]") ≡ Some []
closing = refl

closing_one : stack_of (codes "( - ( - x )") ≡ Some (plain ∷ bracket ∷ [])
closing_one = refl

nothing_open : stack_of (codes "x + y ) }") ≡ Some (plain ∷ [])
nothing_open = refl

pushing : stack_of (codes ". | ! - of from --> <-> in") ≡ Some (replicate 9 plain)
pushing = refl

not_pushing : stack_of (codes "x 1 : .. <- forAll sum true") ≡ Some []
not_pushing = refl

-- commas and words that begin statements remove what stands above the innermost open bracket
comma_in_bracket : stack_of (codes "x + (y + z, u") ≡ Some (bracket ∷ plain ∷ [])
comma_in_bracket = refl

comma_outside : stack_of (codes "x + y, z") ≡ Some []
comma_outside = refl

semicolon_in_bracket : stack_of (codes "[x + y; int") ≡ Some (bracket ∷ [])
semicolon_in_bracket = refl

statements : stack_of (codes "find x : set of int such") ≡ Some []
statements = refl

-- ---- the limit

-- tokens at the places 1:1, 1:2 and so on
abbrev in_columns : ℕ → List Token → Lexed
in_columns col [] = the_end
in_columns col (t ∷ ts) = next_token t [] (record { line = 1; col = col }) (in_columns (col + 1) ts)

abbrev brackets : ℕ → List Token
brackets n = replicate n (symbol open_round) ++ word true_word ∷ replicate n (symbol close_round)

largest_is_read : too_deep (in_columns 1 (brackets 250)) ≡ None
largest_is_read = refl

one_more : too_deep (in_columns 1 (brackets 251)) ≡ Some (record { line = 1; col = 251 })
one_more = refl
