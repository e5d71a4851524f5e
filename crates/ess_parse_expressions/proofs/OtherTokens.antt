-- What a token does behind an expression, where it is neither an operator nor a symbol that goes on with the innermost frame.
use Rattle.std.proofs.Common.{◌≡◌, refl, sym, Bool, false, ℕ, List, Option, Some, None}
use Rattle.ess_semantics.specs.Trees.{Ex, Stm}
use Rattle.ess_grammar.specs.Words.{Token, Word, number, name, prime_word, word, operator, function, symbol, open_round, close_round, open_square, close_square, open_curly, close_curly, comma, semicolon, colon, dot, dots, bar, exclamation, drawn_from, maps_to}
use Rattle.ess_parse_laws.specs.Frames.{Frame}
use Rattle.ess_parse_laws.specs.Reducing.{reduced}
use Rattle.ess_parse_laws.specs.AfterOperands.{operand_then}
use Rattle.ess_parse_laws.specs.StatementEnds.{stated, begin_after}
use Rattle.ess_parse_frames.specs.Statements.{begin_with, begin_behind}
use Rattle.ess_parse_frames.specs.Roles.{operator_in}
use Rattle.ess_parse_expressions.specs.Lists.{goes_on}

-- a token that begins no statement goes on behind none
quiet : (t : Token) (ended : Option (List Stm)) → ((ss : List Stm) → begin_with t ss ≡ None) → None ≡ begin_behind t ended
quiet t None h = refl
quiet t (Some ss) h = sym (h ss)

word-after : (x : Word) (ended : Option (List Stm)) → begin_after x ended ≡ begin_behind (word x) ended
word-after x None = refl
word-after x (Some ss) = refl

pub other_token : (t : Token) (fs : List Frame) (w p : Bool) (l : ℕ) (e : Ex) → goes_on t ≡ false → operator_in t ≡ None →
    operand_then t (reduced fs w p l e) ≡ begin_behind t (stated fs e)
other_token (word x) fs w p l e h n = word-after x (stated fs e)
other_token (number m) fs w p l e h n = quiet (number m) (stated fs e) (λ ss. refl)
other_token (name a) fs w p l e h n = quiet (name a) (stated fs e) (λ ss. refl)
other_token prime_word fs w p l e h n = quiet prime_word (stated fs e) (λ ss. refl)
other_token (function f) fs w p l e h n = quiet (function f) (stated fs e) (λ ss. refl)
other_token (operator o) fs w p l e h n = cc
other_token (symbol open_round) fs w p l e h n = quiet (symbol open_round) (stated fs e) (λ ss. refl)
other_token (symbol close_round) fs w p l e h n = cc
other_token (symbol open_square) fs w p l e h n = quiet (symbol open_square) (stated fs e) (λ ss. refl)
other_token (symbol close_square) fs w p l e h n = cc
other_token (symbol open_curly) fs w p l e h n = quiet (symbol open_curly) (stated fs e) (λ ss. refl)
other_token (symbol close_curly) fs w p l e h n = cc
other_token (symbol comma) fs w p l e h n = cc
other_token (symbol semicolon) fs w p l e h n = cc
other_token (symbol colon) fs w p l e h n = cc
other_token (symbol dot) fs w p l e h n = cc
other_token (symbol dots) fs w p l e h n = cc
other_token (symbol bar) fs w p l e h n = cc
other_token (symbol exclamation) fs w p l e h n = quiet (symbol exclamation) (stated fs e) (λ ss. refl)
other_token (symbol drawn_from) fs w p l e h n = cc
other_token (symbol maps_to) fs w p l e h n = cc
