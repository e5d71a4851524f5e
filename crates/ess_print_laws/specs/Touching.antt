-- Where tokens may stand side by side: a token ends before a byte that can't go on with it. Each token of a text is the longest
-- that fits, so two tokens without a space between are read as two only there.
use Rattle.std.specs.Prelude.{ℕ, Bool, true, false, ◌&&◌, ◌||◌, not, List, [], ◌∷◌, ◌++◌, pos, nat_eq, IsTrue}
use Rattle.std.specs.Option.{is_some}
use Rattle.std.specs.List.{list_all}
use Rattle.std.specs.Str.{bytes_eq}
use Rattle.ess_semantics.specs.Values.{Text}
use Rattle.ess_semantics.specs.Names.{look_by}
use Rattle.ess_grammar.specs.Words.{Token, number, name, symbols, lex_symbols}
use Rattle.ess_grammar.specs.Places.{is_line_feed}
use Rattle.ess_grammar.specs.Tokens.{is_digit, is_letter, is_name_byte}
use Rattle.ess_grammar.specs.Readable.{is_name_token, is_number_token}
use Rattle.ess_print_laws.specs.TokenTexts.{token_text}
use Rattle.ess_print_laws.specs.Pieces.{Piece, token, comment, text_of}

-- Whether the second text begins with the first.
abbrev pub begins_with : Text → Text → Bool
begins_with [] t = true
begins_with (c ∷ cs) [] = false
begins_with (c ∷ cs) (b ∷ bs) = nat_eq c b && begins_with cs bs

-- Whether no symbol begins with this text.
abbrev pub begins_no_symbol : Text → Bool
begins_no_symbol s = list_all (λ e. not (begins_with s e.0)) symbols && list_all (λ e. not (begins_with s e.0)) lex_symbols

-- Whether a symbol ends before this byte: no symbol goes on so, and behind one that ends in letters stands no byte of a name.
abbrev pub symbol_ends : Text → ℕ → Bool
symbol_ends s b = begins_no_symbol (s ++ b ∷ []) && (is_some (look_by bytes_eq symbols s) || not (is_name_byte b))

-- Whether a token with these bytes ends before this byte. `'` would go on with the name `ESSENCE`.
abbrev pub ends_at : Text → ℕ → Bool
ends_at [] b = false
ends_at (c ∷ cs) b = elim (is_letter c) [
  | true ↦ not (is_name_byte b) && not (nat_eq b 39)
  | false ↦ elim (is_digit c) [ true ↦ not (is_digit b) | false ↦ symbol_ends (c ∷ cs) b ]
]

-- Whether it ends before these bytes.
abbrev pub ends_before : Text → Text → Bool
ends_before s [] = true
ends_before s (b ∷ bs) = ends_at s b

-- Whether a line ends before these bytes.
abbrev pub ends_line : Text → Bool
ends_line [] = true
ends_line (b ∷ bs) = is_line_feed b

-- Whether a token may stand in a printed text: a number that is read, a name that is no word of the language or outside it.
abbrev pub is_printable : Token → Bool
is_printable (number n) = is_number_token (pos n)
is_printable (name a) = is_name_token a
is_printable t = true

-- Each token is printable and ends before what follows it, and each comment ends with its line.
abbrev pub Separate : List Piece → Type 0
Separate [] = Unit {0}
Separate (token t ∷ ps) = IsTrue (is_printable t) × IsTrue (ends_before (token_text t) (text_of ps)) × Separate ps
Separate (comment bytes ∷ ps) = IsTrue (list_all (λ b. not (is_line_feed b)) bytes) × IsTrue (ends_line (text_of ps)) × Separate ps
Separate (p ∷ ps) = Separate ps
