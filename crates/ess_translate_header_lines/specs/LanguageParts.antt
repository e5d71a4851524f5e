-- The tokens of the language line.
use Rattle.std.specs.Prelude.{Bool, true, false, nat_eq}
use Rattle.ess_grammar.specs.Words.{Token, number, prime_word, word, symbol, language_word, dot}
use Rattle.ess_translate_header_lines.specs.declared.language.Part.{Part}

-- The token.
abbrev pub part_token : Part → Token
part_token Part.Word = word language_word
part_token Part.Prime = prime_word
part_token Part.FirstNumber = number 1
part_token Part.Dot = symbol dot
part_token Part.SecondNumber = number 0

-- Whether a token is this one.
abbrev pub is_part : Part → Token → Bool
is_part Part.Word (word language_word) = true
is_part Part.Prime prime_word = true
is_part Part.FirstNumber (number n) = nat_eq n 1
is_part Part.Dot (symbol dot) = true
is_part Part.SecondNumber (number n) = nat_eq n 0
is_part _ _ = false
