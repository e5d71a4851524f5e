-- Texts of cells that are read, and that aren't.
use Rattle.std.proofs.Common.{◌≡◌, refl, pos, true, List, [], ◌∷◌, Some, None}
use Rattle.ess_semantics.specs.declared.words.Op2.{Op2}
use Rattle.ess_semantics.specs.Values.{Text}
use Rattle.ess_semantics.specs.Trees.{one_value, both_ends, truth_ex, number_ex}
use Rattle.ess_grammar.specs.Words.{Token, number, name, prime_word, word, operator, symbol, language_word, letting_word, be_word, int_word, true_word, open_round, close_round, open_square, close_square, comma, semicolon, dot, dots}
use Rattle.eprime_read_cells_laws.specs.CellMachine.{plain_list, indexed_list, minus_ex, cells_start, cells_state_after, read_cell_tokens}

abbrev a : Text
a = 97 ∷ []

-- `letting a be`
abbrev letting_a : List Token → List Token
letting_a ts = word letting_word ∷ name a ∷ word be_word ∷ ts

-- No letting, with a language line and without.
no-lettings : read_cell_tokens [] ≡ Some []
no-lettings = refl

line-alone : read_cell_tokens (word language_word ∷ prime_word ∷ number 1 ∷ symbol dot ∷ number 0 ∷ []) ≡ Some []
line-alone = refl

-- `letting a be 3` and `letting a be -3`: a name may stand twice.
numbers : read_cell_tokens (letting_a (number 3 ∷ letting_a (operator Op2.Minus ∷ number 3 ∷ []))) ≡ Some ((a, number_ex (pos 3)) ∷ (a, minus_ex 3) ∷ [])
numbers = refl

-- `letting a be []`
empty-list : read_cell_tokens (letting_a (symbol open_square ∷ symbol close_square ∷ [])) ≡ Some ((a, plain_list []) ∷ [])
empty-list = refl

-- `letting a be [[true], 1; int(1..2, -4)]`
nested-list : read_cell_tokens (letting_a (symbol open_square ∷ symbol open_square ∷ word true_word ∷ symbol close_square ∷ symbol comma ∷ number 1 ∷ symbol semicolon ∷ word int_word ∷
    symbol open_round ∷ number 1 ∷ symbol dots ∷ number 2 ∷ symbol comma ∷ operator Op2.Minus ∷ number 4 ∷ symbol close_round ∷ symbol close_square ∷ [])) ≡
    Some ((a, indexed_list (plain_list (truth_ex true ∷ []) ∷ number_ex (pos 1) ∷ []) (both_ends ∷ one_value ∷ []) (number_ex (pos 1) ∷ number_ex (pos 2) ∷ minus_ex 4 ∷ [])) ∷ [])
nested-list = refl

-- `[1,]`, `[; int(1)]` and `[1; int()]` stop at the tokens that are too much.
comma-too-much : cells_state_after (letting_a (symbol open_square ∷ number 1 ∷ symbol comma ∷ symbol close_square ∷ [])) cells_start ≡ None
comma-too-much = refl

no-item : cells_state_after (letting_a (symbol open_square ∷ symbol semicolon ∷ [])) cells_start ≡ None
no-item = refl

no-range : cells_state_after (letting_a (symbol open_square ∷ number 1 ∷ symbol semicolon ∷ word int_word ∷ symbol open_round ∷ symbol close_round ∷ [])) cells_start ≡ None
no-range = refl

-- A text doesn't end inside a value.
cut-short : read_cell_tokens (letting_a (symbol open_square ∷ number 1 ∷ [])) ≡ None
cut-short = refl
