-- What a token does that isn't the one which a step looks for.
use Rattle.std.proofs.Common.{◌≡◌, refl, false, List, []}
use Rattle.ess_semantics.specs.Trees.{Stm}
use Rattle.ess_grammar.specs.Words.{Token, Word, number, name, prime_word, word, operator, function, symbol, open_round, close_round, open_square, close_square, open_curly, close_curly, comma, semicolon, colon, dot, dots, bar, exclamation, drawn_from, maps_to, language_word, given_word, find_word, letting_word, be_word, new_word, type_word, enum_word, domain_word, of_word, where_word, such_word, that_word, minimising_word, maximising_word, bool_word, int_word, tuple_word, record_word, matrix_word, indexed_word, by_word, set_word, mset_word, function_word, relation_word, partition_word, from_word, true_word, false_word, for_all_word, exists_word}
use Rattle.ess_parse_laws.specs.StatementSteps.{step_statement_read, step_nothing_read}
use Rattle.ess_parse_frames.specs.Statements.{begin_with}
use Rattle.ess_parse_statements.specs.Beginnings.{is_comma, is_language}

-- any token but a comma begins a statement behind one, or nothing does
pub no_comma : (t : Token) (x : Word) (ss : List Stm) → is_comma t ≡ false → step_statement_read t x ss ≡ begin_with t ss
no_comma (number n) x ss h = refl
no_comma (name a) x ss h = refl
no_comma prime_word x ss h = refl
no_comma (operator o) x ss h = refl
no_comma (function f) x ss h = refl
no_comma (word w) x ss h = refl
no_comma (symbol open_round) x ss h = refl
no_comma (symbol close_round) x ss h = refl
no_comma (symbol open_square) x ss h = refl
no_comma (symbol close_square) x ss h = refl
no_comma (symbol open_curly) x ss h = refl
no_comma (symbol close_curly) x ss h = refl
no_comma (symbol comma) x ss h = cc
no_comma (symbol semicolon) x ss h = refl
no_comma (symbol colon) x ss h = refl
no_comma (symbol dot) x ss h = refl
no_comma (symbol dots) x ss h = refl
no_comma (symbol bar) x ss h = refl
no_comma (symbol exclamation) x ss h = refl
no_comma (symbol drawn_from) x ss h = refl
no_comma (symbol maps_to) x ss h = refl

-- any token but the word of the language line begins the first statement, or nothing does
pub no_language : (t : Token) → is_language t ≡ false → step_nothing_read t ≡ step_statement_read t language_word []
no_language (number n) h = refl
no_language (name a) h = refl
no_language prime_word h = refl
no_language (operator o) h = refl
no_language (function f) h = refl
no_language (symbol s) h = refl
no_language (word language_word) h = cc
no_language (word given_word) h = refl
no_language (word find_word) h = refl
no_language (word letting_word) h = refl
no_language (word be_word) h = refl
no_language (word new_word) h = refl
no_language (word type_word) h = refl
no_language (word enum_word) h = refl
no_language (word domain_word) h = refl
no_language (word of_word) h = refl
no_language (word where_word) h = refl
no_language (word such_word) h = refl
no_language (word that_word) h = refl
no_language (word minimising_word) h = refl
no_language (word maximising_word) h = refl
no_language (word bool_word) h = refl
no_language (word int_word) h = refl
no_language (word tuple_word) h = refl
no_language (word record_word) h = refl
no_language (word matrix_word) h = refl
no_language (word indexed_word) h = refl
no_language (word by_word) h = refl
no_language (word set_word) h = refl
no_language (word mset_word) h = refl
no_language (word function_word) h = refl
no_language (word relation_word) h = refl
no_language (word partition_word) h = refl
no_language (word from_word) h = refl
no_language (word true_word) h = refl
no_language (word false_word) h = refl
no_language (word for_all_word) h = refl
no_language (word exists_word) h = refl
