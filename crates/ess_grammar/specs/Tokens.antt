-- The tokens of a text: white space and comments are passed over, and each token is the longest that fits.
use Rattle.std.specs.Prelude.{◌≡◌, ◌<◌, slice_index, ℕ, zero, suc, ◌^◌, Bool, true, false, ◌||◌, not, List, [], ◌∷◌, ◌++◌, length, take, drop, Option, Some, None, nat_eq, nat_le, codes}
use Rattle.std.specs.Option.{option_map}
use Rattle.std.specs.List.{position_or_len}
use Rattle.std.specs.Str.{bytes_eq}
use Rattle.ess_rows.specs.declared.place.Place.{Place}
use Rattle.ess_semantics.specs.Values.{Text}
pub use Rattle.ess_semantics.specs.Lists.{or_else}
pub use Rattle.ess_semantics.specs.NameTokens.{is_digit, are_digits, value_after, is_letter, is_name_byte, is_name}
use Rattle.ess_semantics.specs.Names.{look_by}
use Rattle.ess_grammar.specs.Words.{Token, number, name, prime_word, words, symbols, lex_symbols, is_outside}
use Rattle.ess_grammar.specs.Places.{is_line_feed, place}

-- ---- bytes

-- space, tab, carriage return, line feed
abbrev pub is_white : ℕ → Bool
is_white b = nat_eq b 32 || nat_eq b 9 || nat_eq b 13 || nat_eq b 10

-- `$` begins a comment, which ends before the next line feed
abbrev pub begins_comment : ℕ → Bool
begins_comment b = nat_eq b 36

-- ---- one token

-- one or more digits
abbrev pub is_number : Text → Bool
is_number = are_digits

-- whether what follows would go on with a name
abbrev pub begins_with_name_byte : Text → Bool
begins_with_name_byte [] = false
begins_with_name_byte (b ∷ bs) = is_name_byte b

-- the value of digits
abbrev pub value_of : Text → ℕ
value_of digits = value_after 0 digits

-- the word that begins models and texts of cells behind `language`
abbrev pub prime_text : Text
prime_text = codes "ESSENCE'"

-- the value where the condition holds, else none
abbrev pub only_if : {A : Type 0} → Bool → Option A → Option A
only_if true o = o
only_if false o = None

-- a reserved word, or a name
abbrev pub name_or_word : Text → Option Token
name_or_word t = or_else (look_by bytes_eq words t) (Some (name t))

-- the symbol that the bytes t are, where the bytes `rest` follow
abbrev pub symbol_of : Text → Text → Option Token
symbol_of t rest = or_else (look_by bytes_eq symbols t) (only_if (not (begins_with_name_byte rest)) (look_by bytes_eq lex_symbols t))

-- the token that the bytes t are, where the bytes `rest` follow
abbrev pub token_of : Text → Text → Option Token
token_of t rest =
    or_else (only_if (is_number t) (Some (number (value_of t))))
    (or_else (only_if (is_name t) (name_or_word t))
    (or_else (only_if (bytes_eq t prime_text) (Some prime_word))
    (symbol_of t rest)))

-- the longest first part of a text, of at most n bytes, that is a token by `reads`, and its number of bytes
abbrev pub longest : (Text → Text → Option Token) → ℕ → Text → Option (Token × ℕ)
longest reads zero bs = None
longest reads (suc n) bs = elim (reads (take (suc n) bs) (drop (suc n) bs)) [ Some t ↦ Some (t, suc n) | None ↦ longest reads n bs ]

-- the longest token with which the text begins
abbrev pub longest_token : Text → Option (Token × ℕ)
longest_token bs = longest token_of (length bs) bs

-- numbers up to 2^63 - 1 are read
abbrev pub is_wide : Token → Bool
is_wide (number n) = nat_le (2 ^ 63) n
is_wide _ = false

-- ---- all tokens

-- The tokens of a text in order, each with its bytes and its place, up to the end or to the first refusal with its place.
pub data Lexed : Type 0 where
  the_end : Lexed
  bad_byte : Place → Lexed
  wide_number : Place → Lexed
  next_token : Token → Text → Place → Lexed → Lexed

-- how many bytes stand before the next line feed
abbrev pub comment_length : Text → ℕ
comment_length = position_or_len is_line_feed

-- A token, or a refusal, at the front of a text. `p` is its place, and `more n` what comes n bytes later.
abbrev pub token_first : Place → Text → Option (Token × ℕ) → (ℕ → Lexed) → Lexed
token_first p text None more = bad_byte p
token_first p text (Some found) more = elim (is_wide found.0) [
  | true ↦ wide_number p
  | false ↦ next_token found.0 (take found.1 text) p (more found.1)
]

-- what comes first in a text: white space and comments are passed over
abbrev pub first : Place → Text → (ℕ → Lexed) → Lexed
first p [] more = the_end
first p (b ∷ bs) more = elim (is_white b) [
  | true ↦ more 1
  | false ↦ elim (begins_comment b) [
    | true ↦ more (comment_length (b ∷ bs))
    | false ↦ token_first p (b ∷ bs) (longest_token (b ∷ bs)) more
  ]
]

-- What stands in the text behind the bytes `before`. Each turn passes a byte, so as many turns do as there are bytes.
abbrev pub lexed_in : ℕ → Text → Text → Lexed
lexed_in zero before text = the_end
lexed_in (suc turns) before text = first (place before) text (λ n. lexed_in turns (before ++ take n text) (drop n text))

-- what stands in the text behind the bytes `before`
abbrev pub lexed_after : Text → Text → Lexed
lexed_after before text = lexed_in (length text) before text

-- what stands in a whole text
abbrev pub lexed : Text → Lexed
lexed text = lexed_after [] text

-- ---- what callers ask of it

-- a byte that is neither white space nor the beginning of a comment
abbrev pub Plain : ℕ → Type 0
Plain b = (is_white b ≡ false) × (begins_comment b ≡ false)

-- what begins with such a byte: a token or a refusal stands at its front
abbrev pub BeginsPlain : Text → Type 0
BeginsPlain text = (0 < length text) × Plain (slice_index text 0)

-- how many tokens there are
abbrev pub token_count : Lexed → ℕ
token_count the_end = 0
token_count (bad_byte p) = 0
token_count (wide_number p) = 0
token_count (next_token t bytes p more) = suc (token_count more)

-- the tokens, where none is refused
abbrev pub tokens_in : Lexed → Option (List Token)
tokens_in the_end = Some []
tokens_in (bad_byte p) = None
tokens_in (wide_number p) = None
tokens_in (next_token t bytes p more) = option_map (λ ts. t ∷ ts) (tokens_in more)

-- the tokens of a text, where no byte or number of it is refused
abbrev pub tokens : Text → Option (List Token)
tokens text = tokens_in (lexed text)

-- the place of the first word outside the subset
abbrev pub first_outside : Lexed → Option Place
first_outside the_end = None
first_outside (bad_byte p) = None
first_outside (wide_number p) = None
first_outside (next_token t bytes p more) = elim (is_outside t) [ true ↦ Some p | false ↦ first_outside more ]
