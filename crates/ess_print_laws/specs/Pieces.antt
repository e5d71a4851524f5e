-- A printed text as a list of pieces: its tokens, and what stands between them. So one list says both the bytes of a text and
-- the tokens that it is meant to have.
use Rattle.std.specs.Prelude.{List, [], ◌∷◌, ◌++◌, codes}
use Rattle.ess_semantics.specs.Values.{Text}
use Rattle.ess_grammar.specs.Words.{Token, name, word, symbol, Word, Symbol}
use Rattle.ess_print_laws.specs.TokenTexts.{token_text}

-- A piece of a text.
pub data Piece : Type 0 where
  token : Token → Piece
  space : Piece
  -- a line feed, or one and four spaces
  next_line indented_line : Piece
  -- `$ ` and these bytes, up to the end of the line
  comment : Text → Piece

-- The bytes of a piece.
abbrev pub piece_text : Piece → Text
piece_text (token t) = token_text t
piece_text space = 32 ∷ []
piece_text next_line = 10 ∷ []
piece_text indented_line = 10 ∷ 32 ∷ 32 ∷ 32 ∷ 32 ∷ []
piece_text (comment bytes) = codes "$ " ++ bytes

-- The bytes of all pieces.
abbrev pub text_of : List Piece → Text
text_of [] = []
text_of (p ∷ ps) = piece_text p ++ text_of ps

-- The tokens among the pieces.
abbrev pub tokens_of : List Piece → List Token
tokens_of [] = []
tokens_of (token t ∷ ps) = t ∷ tokens_of ps
tokens_of (p ∷ ps) = tokens_of ps

-- ---- how parts of a text are put together

-- What puts pieces before those that follow.
abbrev pub Printer : Type 0
Printer = List Piece → List Piece

-- A word, a symbol and a name as pieces.
abbrev pub reserved : Word → Piece
reserved w = token (word w)

abbrev pub sign : Symbol → Piece
sign s = token (symbol s)

abbrev pub named : Text → Piece
named a = token (name a)

-- Parts one behind the other with a separator between.
abbrev pub listed : Printer → List Printer → Printer
listed between [] us = us
listed between (p ∷ []) us = p us
listed between (p ∷ q ∷ ps) us = p (between (listed between (q ∷ ps) us))

-- Pieces between two symbols.
abbrev pub within : Symbol → Symbol → Printer → Printer
within a b p us = sign a ∷ p (sign b ∷ us)
