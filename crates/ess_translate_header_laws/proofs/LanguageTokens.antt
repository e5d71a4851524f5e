-- The tokens of the language line, one after the other.
use Rattle.std.proofs.Common.{◌≡◌, refl, sym, subst, List, [], ◌∷◌}
use Rattle.ess_grammar.specs.Words.{Token, number, prime_word, word, symbol, language_word, dot}
use Rattle.ess_grammar.specs.Tokens.{Lexed, the_end, bad_byte, wide_number, next_token}
use Rattle.ess_translate_header_laws.specs.Headers.{language_line, BeginsWithTokens}
use Rattle.ess_translate_header_laws.specs.LanguageLines.{IsNext, IsNotNext}

-- The next token, and then those behind it.
pub token-then : (t : Token) (ts : List Token) (a b : Lexed) → IsNext t a b → BeginsWithTokens ts b → BeginsWithTokens (t ∷ ts) a
token-then t ts a b n d = subst (λ l. BeginsWithTokens (t ∷ ts) l) (sym n.2) (refl, d)

-- Where the next token comes, those behind it are the rest.
pub behind-token : (t : Token) (ts : List Token) (a b : Lexed) → IsNext t a b → BeginsWithTokens (t ∷ ts) a → BeginsWithTokens ts b
behind-token t ts a b n d = (subst (λ l. BeginsWithTokens (t ∷ ts) l) n.2 d).1

-- Where another token comes, the tokens don't.
pub other-token : (t : Token) (ts : List Token) (a : Lexed) → IsNotNext t a → BeginsWithTokens (t ∷ ts) a → ⊥
other-token t ts the_end n d = d
other-token t ts (bad_byte p) n d = d
other-token t ts (wide_number p) n d = d
other-token t ts (next_token u bytes p more) n d =
    n bytes p more (subst (λ v. next_token u bytes p more ≡ next_token v bytes p more) d.0 refl)

abbrev tail2 : List Token
tail2 = number 1 ∷ symbol dot ∷ number 0 ∷ []

abbrev tail1 : List Token
tail1 = prime_word ∷ tail2

-- All five come.
pub all_five : (a b c d e f : Lexed) → IsNext (word language_word) a b → IsNext prime_word b c → IsNext (number 1) c d →
    IsNext (symbol dot) d e →
    IsNext (number 0) e f → BeginsWithTokens language_line a
all_five a b c d e f h1 h2 h3 h4 h5 =
    token-then (word language_word) tail1 a b h1
    (token-then prime_word tail2 b c h2
    (token-then (number 1) (symbol dot ∷ number 0 ∷ []) c d h3
    (token-then (symbol dot) (number 0 ∷ []) d e h4 (token-then (number 0) [] e f h5 tt))))

-- The first doesn't come.
pub first_fails : (a : Lexed) → IsNotNext (word language_word) a → BeginsWithTokens language_line a → ⊥
first_fails a h d = other-token (word language_word) tail1 a h d

-- The second doesn't come.
pub second_fails : (a b : Lexed) → IsNext (word language_word) a b → IsNotNext prime_word b → BeginsWithTokens language_line a → ⊥
second_fails a b h1 h d = other-token prime_word tail2 b h (behind-token (word language_word) tail1 a b h1 d)

behind-two : (a b c : Lexed) → IsNext (word language_word) a b → IsNext prime_word b c → BeginsWithTokens language_line a →
    BeginsWithTokens tail2 c
behind-two a b c h1 h2 d = behind-token prime_word tail2 b c h2 (behind-token (word language_word) tail1 a b h1 d)

-- The third doesn't come.
pub third_fails : (a b c : Lexed) → IsNext (word language_word) a b → IsNext prime_word b c → IsNotNext (number 1) c →
    BeginsWithTokens language_line a → ⊥
third_fails a b c h1 h2 h d = other-token (number 1) (symbol dot ∷ number 0 ∷ []) c h (behind-two a b c h1 h2 d)

behind-three : (a b c e : Lexed) → IsNext (word language_word) a b → IsNext prime_word b c → IsNext (number 1) c e →
    BeginsWithTokens language_line a →
    BeginsWithTokens (symbol dot ∷ number 0 ∷ []) e
behind-three a b c e h1 h2 h3 d = behind-token (number 1) (symbol dot ∷ number 0 ∷ []) c e h3 (behind-two a b c h1 h2 d)

-- The fourth doesn't come.
pub fourth_fails : (a b c d : Lexed) → IsNext (word language_word) a b → IsNext prime_word b c → IsNext (number 1) c d →
    IsNotNext (symbol dot) d →
    BeginsWithTokens language_line a → ⊥
fourth_fails a b c d h1 h2 h3 h g = other-token (symbol dot) (number 0 ∷ []) d h (behind-three a b c d h1 h2 h3 g)

-- The fifth doesn't come.
pub fifth_fails : (a b c d e : Lexed) → IsNext (word language_word) a b → IsNext prime_word b c → IsNext (number 1) c d →
    IsNext (symbol dot) d e →
    IsNotNext (number 0) e → BeginsWithTokens language_line a → ⊥
fifth_fails a b c d e h1 h2 h3 h4 h g =
    other-token (number 0) [] e h (behind-token (symbol dot) (number 0 ∷ []) d e h4 (behind-three a b c d h1 h2 h3 g))
