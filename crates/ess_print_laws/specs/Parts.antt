-- Small parts of printed texts.
use Rattle.std.specs.Prelude.{ℕ, zero, suc, codes, Bool, true, false, List, [], ◌∷◌, ℤ, pos, negsuc}
use Rattle.ess_semantics.specs.declared.words.Op2.{Op2}
use Rattle.ess_semantics.specs.Values.{Text}
use Rattle.ess_semantics.specs.Trees.{Pat, Pats, name_pat, tuple_pat, no_pats, more_pats}
use Rattle.ess_grammar.specs.Words.{number, operator, tuple_word, true_word, false_word, open_round, close_round, comma}
use Rattle.ess_print_laws.specs.Pieces.{Piece, token, space, Printer, reserved, sign, named, listed, within}

-- A comma and a space before what follows.
abbrev pub comma_space : Printer
comma_space us = sign comma ∷ space ∷ us

-- Parts with `, ` between.
abbrev pub commas : List Printer → Printer
commas ps us = listed comma_space ps us

-- What stands before the item at an index of such a list: nothing before the first, else a comma and a space.
abbrev pub comma_before : ℕ → Text
comma_before zero = []
comma_before (suc i) = codes ", "

-- A star between two domains.
abbrev pub times : Printer
times us = space ∷ token (operator Op2.Times) ∷ space ∷ us

-- In round brackets where the condition holds.
abbrev pub bracketed : Bool → Printer → Printer
bracketed true p us = within open_round close_round p us
bracketed false p us = p us

-- Behind the word `tuple` where the condition holds.
abbrev pub worded : Bool → Printer → Printer
worded true p us = reserved tuple_word ∷ space ∷ p us
worded false p us = p us

-- A number; one below 0 has `-` before it.
abbrev pub number_pieces : ℤ → Printer
number_pieces (pos n) us = token (number n) ∷ us
number_pieces (negsuc n) us = token (operator Op2.Minus) ∷ token (number (suc n)) ∷ us

-- `true` or `false`.
abbrev pub truth_piece : Bool → Piece
truth_piece true = reserved true_word
truth_piece false = reserved false_word

-- A tuple: one of a single part has its word.
abbrev pub tuple_pieces : List Printer → Printer
tuple_pieces (p ∷ []) us = reserved tuple_word ∷ space ∷ within open_round close_round p us
tuple_pieces ps us = within open_round close_round (commas ps) us

abbrev mutual
  -- A pattern.
  pub pat_pieces : Pat → Printer
  pat_pieces (name_pat a) us = named a ∷ us
  pat_pieces (tuple_pat ps) us = within open_round close_round (commas (pat_printers ps)) us

  -- Several patterns.
  pub pat_printers : Pats → List Printer
  pat_printers no_pats = []
  pat_printers (more_pats p ps) = pat_pieces p ∷ pat_printers ps

-- The name of each of these.
abbrev pub name_printers : List Text → List Printer
name_printers [] = []
name_printers (a ∷ ns) = (λ us. named a ∷ us) ∷ name_printers ns
