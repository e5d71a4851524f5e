-- Worked examples of tokens.
use Rattle.std.specs.Prelude.{◌≡◌, refl, ℕ, ◌-◌, ◌^◌, List, [], ◌∷◌, ◌++◌, Bool, true, false, Option, Some, None, codes, map}
use Rattle.std.specs.List.{list_all}
use Rattle.ess_rows.specs.declared.place.Place.{Place}
use Rattle.ess_semantics.specs.declared.words.Op2.{Op2}
use Rattle.ess_grammar.specs.Words.{words, symbols, lex_symbols, Token, number, name, prime_word, word, operator, symbol, find_word, dot, dots, comma, maps_to, drawn_from, exclamation, outside, is_outside}
use Rattle.ess_grammar.specs.Tokens.{Lexed, the_end, bad_byte, wide_number, next_token, tokens, lexed, first_outside}

abbrev at_column : ℕ → Place
at_column col = record { line = 1; col = col }

-- the longest symbol wins, so a comparison with a negative number is written with a space
arrow_from_below : tokens (codes "x<-3") ≡ Some (name (codes "x") ∷ symbol drawn_from ∷ number 3 ∷ [])
arrow_from_below = refl

below_minus : tokens (codes "x< -3") ≡ Some (name (codes "x") ∷ operator Op2.Lt ∷ operator Op2.Minus ∷ number 3 ∷ [])
below_minus = refl

equivalence : tokens (codes "x<->y") ≡ Some (name (codes "x") ∷ operator Op2.Iff ∷ name (codes "y") ∷ [])
equivalence = refl

long_arrow : tokens (codes "1-->2->3") ≡ Some (number 1 ∷ symbol maps_to ∷ number 2 ∷ operator Op2.Implies ∷ number 3 ∷ [])
long_arrow = refl

minus_minus : tokens (codes "--") ≡ Some (operator Op2.Minus ∷ operator Op2.Minus ∷ [])
minus_minus = refl

-- two dots are one token, and three are two
range_of_two : tokens (codes "1..2") ≡ Some (number 1 ∷ symbol dots ∷ number 2 ∷ [])
range_of_two = refl

three_dots : tokens (codes "...") ≡ Some (symbol dots ∷ symbol dot ∷ [])
three_dots = refl

two_dots_apart : tokens (codes ". .") ≡ Some (symbol dot ∷ symbol dot ∷ [])
two_dots_apart = refl

stars : tokens (codes "***") ≡ Some (operator Op2.Pow ∷ operator Op2.Times ∷ [])
stars = refl

not_equal : tokens (codes "!!=") ≡ Some (symbol exclamation ∷ operator Op2.Ne ∷ [])
not_equal = refl

and_or : tokens (codes "/\\/\\//\\") ≡ Some (operator Op2.And ∷ operator Op2.And ∷ operator Op2.Div ∷ operator Op2.And ∷ [])
and_or = refl

-- ---- words

prime_is_one : tokens (codes "ESSENCE' 1.0") ≡ Some (prime_word ∷ number 1 ∷ symbol dot ∷ number 0 ∷ [])
prime_is_one = refl

no_prime : tokens (codes "ESSENCE x") ≡ Some (name (codes "ESSENCE") ∷ name (codes "x") ∷ [])
no_prime = refl

apostrophe : lexed (codes "x'") ≡ next_token (name (codes "x")) (codes "x") (at_column 1) (bad_byte (at_column 2))
apostrophe = refl

longer_than_a_word : tokens (codes "finds find _find find1")
    ≡ Some (name (codes "finds") ∷ word find_word ∷ name (codes "_find") ∷ name (codes "find1") ∷ [])
longer_than_a_word = refl

-- attribute words, `size` and `Essence` are names
plain_names : tokens (codes "Essence size total") ≡ Some (name (codes "Essence") ∷ name (codes "size") ∷ name (codes "total") ∷ [])
plain_names = refl

digits_then_name : tokens (codes "12ab3") ≡ Some (number 12 ∷ name (codes "ab3") ∷ [])
digits_then_name = refl

-- ---- the four symbols behind which no name goes on

lex : tokens (codes "x<lex y") ≡ Some (name (codes "x") ∷ operator Op2.LexLt ∷ name (codes "y") ∷ [])
lex = refl

lex_and_more : tokens (codes "x<lexx") ≡ Some (name (codes "x") ∷ operator Op2.Lt ∷ name (codes "lexx") ∷ [])
lex_and_more = refl

lex_and_digit : tokens (codes ">=lex1") ≡ Some (operator Op2.Ge ∷ name (codes "lex1") ∷ [])
lex_and_digit = refl

lex_and_bracket : tokens (codes ">=lex,>lex,<=lex") ≡ Some (operator Op2.LexGe ∷ symbol comma ∷ operator Op2.LexGt ∷ symbol comma
    ∷ operator Op2.LexLe ∷ [])
lex_and_bracket = refl

-- ---- numbers

widest : tokens (codes "9223372036854775807") ≡ Some (number (2 ^ 63 - 1) ∷ [])
widest = refl

too_wide : lexed (codes " 9223372036854775808 @") ≡ wide_number (at_column 2)
too_wide = refl

leading_zeros : tokens (codes "00000000000000000000012") ≡ Some (number 12 ∷ [])
leading_zeros = refl

-- ---- white space, comments, refusals

nothing : lexed [] ≡ the_end
nothing = refl

white_only : lexed (32 ∷ 9 ∷ 13 ∷ 10 ∷ []) ≡ the_end
white_only = refl

comment_at_the_end : lexed (codes "$ 9223372036854775808 @ ") ≡ the_end
comment_at_the_end = refl

-- any bytes may stand in a comment, which ends before the line feed: here a carriage return, 0, 255 and `$` stand in it
comment_to_line_feed : lexed (codes "a$" ++ 13 ∷ 0 ∷ 255 ∷ 36 ∷ 10 ∷ codes "b") ≡
    next_token (name (codes "a")) (codes "a") (at_column 1)
    (next_token (name (codes "b")) (codes "b") (record { line = 2; col = 1 }) the_end)
comment_to_line_feed = refl

abbrev is_bad : Lexed → Bool
is_bad (bad_byte p) = true
is_bad _ = false

bad_bytes : list_all (λ b. is_bad (lexed (b ∷ []))) (0 ∷ 11 ∷ 12 ∷ 34 ∷ 35 ∷ 38 ∷ 39 ∷ 63 ∷ 64 ∷ 92 ∷ 94 ∷ 96 ∷ 126 ∷ 127 ∷ 128 ∷ 255 ∷ [])
    ≡ true
bad_bytes = refl

-- the first refusal is given, and nothing behind it
refused_in_order : lexed (codes "find @ 9223372036854775808")
    ≡ next_token (word find_word) (codes "find") (at_column 1) (bad_byte (at_column 6))
refused_in_order = refl

refused_text : tokens (codes "find @") ≡ None
refused_text = refl

-- each word and each symbol of the tables is read as its token
abbrev read_as : (List ℕ × Token) → Option (List Token)
read_as e = Some (e.1 ∷ [])

each_word : map (λ e. tokens e.0) words ≡ map read_as words
each_word = refl

each_symbol : map (λ e. tokens e.0) symbols ≡ map read_as symbols
each_symbol = refl

each_lex_symbol : map (λ e. tokens e.0) lex_symbols ≡ map read_as lex_symbols
each_lex_symbol = refl

-- ---- words outside the subset

first_word_outside : first_outside (lexed (codes "find permutations, permutation, succ")) ≡ Some (at_column 20)
first_word_outside = refl

none_outside : first_outside (lexed (codes "find Sequence $ sequence")) ≡ None
none_outside = refl

abbrev is_outside_text : Option (List Token) → Bool
is_outside_text (Some (t ∷ [])) = is_outside t
is_outside_text _ = false

-- each of the words is one name token, and no reserved word is among them
all_outside : list_all (λ w. is_outside_text (tokens w)) outside ≡ true
all_outside = refl
