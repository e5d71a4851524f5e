-- Tokens that go on with statements.
use Rattle.std.specs.Prelude.{Bool, true, false}
use Rattle.ess_grammar.specs.Words.{Token, word, symbol, comma, language_word}

-- Whether the token is a comma.
abbrev pub is_comma : Token → Bool
is_comma (symbol comma) = true
is_comma _ = false

-- Whether the token is the word that begins the language line.
abbrev pub is_language : Token → Bool
is_language (word language_word) = true
is_language _ = false
