-- The text of a model, line by line (the Conjure manual, chapter on its output): the language line, the lines of its header as
-- comments, what is given, what is to be found, the objective, and the constraints. Each line ends with a line feed.
use Rattle.std.specs.Prelude.{Bool, ◌&&◌, not, List, [], ◌∷◌}
use Rattle.std.specs.List.{list_all}
use Rattle.std.specs.Str.{is_utf8}
use Rattle.ess_semantics.specs.Values.{Text}
use Rattle.ess_semantics.specs.Trees.{Ex}
use Rattle.ess_semantics.specs.DeclaredTables.{TableDecl}
use Rattle.ess_semantics.specs.ModelTrees.{Goal, no_goal, least, greatest, Model}
use Rattle.ess_grammar.specs.Words.{number, prime_word, Word, language_word, given_word, find_word, such_word, that_word, minimising_word, maximising_word, comma, colon, dot}
use Rattle.ess_grammar.specs.Places.{is_line_feed}
use Rattle.ess_print_laws.specs.Pieces.{Piece, token, space, next_line, indented_line, comment, text_of, Printer, reserved, sign, named}
use Rattle.ess_print_laws.specs.Expressions.{ex_pieces, dom_pieces}
use Rattle.eprime_tree.specs.Written.{written, table_written}

-- The language line.
abbrev pub language_line : Printer
language_line us = reserved language_word ∷ space ∷ token prime_word ∷ space ∷ token (number 1) ∷ sign dot ∷ token (number 0) ∷ next_line ∷ us

-- The lines of the header.
abbrev pub head_lines : List Text → Printer
head_lines [] us = us
head_lines (l ∷ ls) us = comment l ∷ next_line ∷ head_lines ls us

-- A declaration behind its word: `find x : int(0..3)`.
abbrev pub declaration_line : Word → TableDecl → Printer
declaration_line w t us = reserved w ∷ space ∷ named t.name ∷ space ∷ sign colon ∷ space ∷ dom_pieces (table_written t) (next_line ∷ us)

-- Declarations in order.
abbrev pub declaration_lines : Word → List TableDecl → Printer
declaration_lines w [] us = us
declaration_lines w (t ∷ ts) us = declaration_line w t (declaration_lines w ts us)

-- The objective, or nothing.
abbrev pub goal_line : Goal → Printer
goal_line no_goal us = us
goal_line (least e) us = reserved minimising_word ∷ space ∷ ex_pieces (written e) (next_line ∷ us)
goal_line (greatest e) us = reserved maximising_word ∷ space ∷ ex_pieces (written e) (next_line ∷ us)

-- Constraints, each on a line of its own after four spaces, with a comma at the end of each but the last.
abbrev pub constraint_lines : List Ex → Printer
constraint_lines [] us = next_line ∷ us
constraint_lines (e ∷ []) us = indented_line ∷ ex_pieces (written e) (next_line ∷ us)
constraint_lines (e ∷ f ∷ es) us = indented_line ∷ ex_pieces (written e) (sign comma ∷ constraint_lines (f ∷ es) us)

-- The constraints behind `such that`, or nothing.
abbrev pub such_that_lines : List Ex → Printer
such_that_lines [] us = us
such_that_lines (e ∷ es) us = reserved such_word ∷ space ∷ reserved that_word ∷ constraint_lines (e ∷ es) us

-- The pieces of a model with the lines of its header.
abbrev pub model_pieces : List Text → Model → List Piece
model_pieces head m =
    language_line (head_lines head (declaration_lines given_word m.givens (declaration_lines find_word m.finds (goal_line m.goal (such_that_lines m.rules [])))))

-- The text of a model with the lines of its header.
abbrev pub model_text : List Text → Model → Text
model_text head m = text_of (model_pieces head m)

-- Whether the bytes may stand in a line of a header: they are UTF-8 and have no line feed.
abbrev pub is_head_line : Text → Bool
is_head_line l = is_utf8 l && list_all (λ b. not (is_line_feed b)) l
