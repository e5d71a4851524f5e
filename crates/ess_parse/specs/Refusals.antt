-- Why a text is refused before its grammar is looked at.
use Rattle.std.specs.Prelude.{Option}
use Rattle.std.specs.Option.{option_map}
use Rattle.ess_semantics.specs.Values.{Text}
use Rattle.ess_grammar.specs.Tokens.{lexed, first_outside, or_else}
use Rattle.ess_grammar.specs.Load.{too_deep}
use Rattle.ess_lex.specs.declared.lexer.LexNo.{LexNo}
use Rattle.ess_lex.specs.Lexing.{refusal}
use Rattle.ess_parse.specs.declared.refusal.ReadNo.{ReadNo}

-- A refusal of the lexer as one of a reader.
abbrev pub lexer_no : LexNo → ReadNo
lexer_no (LexNo.BadByte p) = ReadNo.BadByte p
lexer_no (LexNo.WideNumber p) = ReadNo.WideNumber p

-- The lexer's refusal anywhere in the text, else its first word outside the subset of the language, else the first token at
-- which its load is above the limit.
abbrev pub refused_first : Text → Option ReadNo
refused_first text =
    or_else (option_map lexer_no (refusal (lexed text)))
    (or_else (option_map (λ p. ReadNo.Unsupported p) (first_outside (lexed text)))
    (option_map (λ p. ReadNo.TooDeep p) (too_deep (lexed text))))
