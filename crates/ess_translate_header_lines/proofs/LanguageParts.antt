-- Which token a part of the language line is.
use Rattle.std.proofs.Common.{◌≡◌, refl, sym, ap, ◌∙◌, true, false, List, [], ◌∷◌, length, arith}
use Rattle.ess_rows.specs.declared.place.Place.{Place}
use Rattle.ess_semantics.specs.Values.{Text}
use Rattle.ess_grammar.specs.Words.{Token, number, prime_word, word, symbol, language_word, dot}
use Rattle.ess_grammar.specs.Tokens.{Lexed, the_end, bad_byte, wide_number, next_token}
use Rattle.eprime_read_headers.specs.FrontTokens.{is_free_for}
use Rattle.ess_translate_header_laws.specs.Headers.{BeginsWithTokens, language_line}
use Rattle.ess_translate_header_laws.specs.LanguageLines.{IsNext, IsNotNext}
use Rattle.ess_translate_header_laws.proofs.LanguageTokens.{all_five, first_fails, second_fails, third_fails, fourth_fails, fifth_fails}
use Rattle.ess_translate_header_lines.specs.declared.language.Part.{Part}
use Rattle.ess_translate_header_lines.specs.LanguageParts.{part_token, is_part}

-- The token that is tested for is found.
own-part : (p : Part) → is_part p (part_token p) ≡ true
own-part Part.Word = refl
own-part Part.Prime = refl
own-part Part.FirstNumber = refl
own-part Part.Dot = refl
own-part Part.SecondNumber = refl

-- Where the test holds the token is that one.
part-is : (p : Part) (t : Token) → is_part p t ≡ true → t ≡ part_token p
part-is Part.Word (word language_word) h = refl
part-is Part.Prime prime_word h = refl
part-is Part.FirstNumber (number n) h = ap number (grind (arith, h))
part-is Part.Dot (symbol dot) h = refl
part-is Part.SecondNumber (number n) h = ap number (grind (arith, h))
part-is _ _ h = cc

-- The next token is this one.
pub next-part : (p : Part) (t : Token) (bytes : Text) (q : Place) (l m : Lexed) → next_token t bytes q m ≡ l → is_part p t ≡ true →
    IsNext (part_token p) l m
next-part p t bytes q l m e h = (bytes, q, sym e ∙ ap (λ u. next_token u bytes q m) (part-is p t h))

first-of : (t u : Token) (bs cs : Text) (q r : Place) (m n : Lexed) → next_token t bs q m ≡ next_token u cs r n → t ≡ u
first-of t u bs cs q r m n e = cc

-- It is another one.
pub next-other : (p : Part) (t : Token) (bytes : Text) (q : Place) (l m : Lexed) → next_token t bytes q m ≡ l → is_part p t ≡ false →
    IsNotNext (part_token p) l
next-other p t bytes q l m e h cs r n g =
    let same : t ≡ part_token p = first-of t (part_token p) bytes cs q r m n (e ∙ g) in
    let no : false ≡ true = sym h ∙ ap (is_part p) same ∙ own-part p in cc

free-tokens : (ts : List Token) (l : Lexed) → BeginsWithTokens ts l → is_free_for (length ts) l ≡ true
free-tokens [] l d = refl
free-tokens (t ∷ ts) the_end d = absurd d
free-tokens (t ∷ ts) (bad_byte p) d = absurd d
free-tokens (t ∷ ts) (wide_number p) d = absurd d
free-tokens (t ∷ ts) (next_token u bytes p more) d = free-tokens ts more d.1

-- Where a text begins with the language line, the lexer refuses none of its tokens.
pub free_of_refusals : (l : Lexed) → BeginsWithTokens language_line l → is_free_for 5 l ≡ true
free_of_refusals l d = free-tokens language_line l d

-- Where all tokens of the language line come, and where one doesn't.
pub ruleset language_line_parts = (all_five, first_fails, second_fails, third_fails, fourth_fails, fifth_fails)
