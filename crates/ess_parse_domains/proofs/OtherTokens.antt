-- What a token does behind a domain, where it is none that goes on with the innermost frame.
use Rattle.std.proofs.Common.{◌≡◌, refl, sym, false, List, Option, Some, None}
use Rattle.ess_semantics.specs.declared.words.Op2.{Op2}
use Rattle.ess_semantics.specs.Trees.{Dom, Stm}
use Rattle.ess_grammar.specs.Words.{Token, Word, number, name, prime_word, word, operator, function, symbol, open_round, close_round, open_square, close_square, open_curly, close_curly, comma, semicolon, colon, dot, dots, bar, exclamation, drawn_from, maps_to}
use Rattle.ess_parse_laws.specs.Frames.{Frame}
use Rattle.ess_parse_laws.specs.AfterDomains.{domain_then}
use Rattle.ess_parse_laws.specs.StatementEnds.{declared, begin_after}
use Rattle.ess_parse_frames.specs.Statements.{begin_with, begin_behind}
use Rattle.ess_parse_domains.specs.Several.{goes_on}

-- a token that begins no statement goes on behind none
quiet : (t : Token) (ended : Option (List Stm)) → ((ss : List Stm) → begin_with t ss ≡ None) → None ≡ begin_behind t ended
quiet t None h = refl
quiet t (Some ss) h = sym (h ss)

word-after : (w : Word) (ended : Option (List Stm)) → begin_after w ended ≡ begin_behind (word w) ended
word-after w None = refl
word-after w (Some ss) = refl

pub other_token : (t : Token) (fs : List Frame) (d : Dom) → goes_on t ≡ false → domain_then t fs d ≡ begin_behind t (declared fs d)
other_token (word w) fs d h = word-after w (declared fs d)
other_token (number n) fs d h = quiet (number n) (declared fs d) (λ ss. refl)
other_token (name a) fs d h = quiet (name a) (declared fs d) (λ ss. refl)
other_token prime_word fs d h = quiet prime_word (declared fs d) (λ ss. refl)
other_token (function f) fs d h = quiet (function f) (declared fs d) (λ ss. refl)
other_token (operator Op2.Member) fs d h = quiet (operator Op2.Member) (declared fs d) (λ ss. refl)
other_token (operator Op2.Subset) fs d h = quiet (operator Op2.Subset) (declared fs d) (λ ss. refl)
other_token (operator Op2.SubsetEq) fs d h = quiet (operator Op2.SubsetEq) (declared fs d) (λ ss. refl)
other_token (operator Op2.Supset) fs d h = quiet (operator Op2.Supset) (declared fs d) (λ ss. refl)
other_token (operator Op2.SupsetEq) fs d h = quiet (operator Op2.SupsetEq) (declared fs d) (λ ss. refl)
other_token (operator Op2.Union) fs d h = quiet (operator Op2.Union) (declared fs d) (λ ss. refl)
other_token (operator Op2.Intersect) fs d h = quiet (operator Op2.Intersect) (declared fs d) (λ ss. refl)
other_token (operator Op2.Eq) fs d h = quiet (operator Op2.Eq) (declared fs d) (λ ss. refl)
other_token (operator Op2.Ne) fs d h = quiet (operator Op2.Ne) (declared fs d) (λ ss. refl)
other_token (operator Op2.Lt) fs d h = quiet (operator Op2.Lt) (declared fs d) (λ ss. refl)
other_token (operator Op2.Le) fs d h = quiet (operator Op2.Le) (declared fs d) (λ ss. refl)
other_token (operator Op2.Gt) fs d h = quiet (operator Op2.Gt) (declared fs d) (λ ss. refl)
other_token (operator Op2.Ge) fs d h = quiet (operator Op2.Ge) (declared fs d) (λ ss. refl)
other_token (operator Op2.Plus) fs d h = quiet (operator Op2.Plus) (declared fs d) (λ ss. refl)
other_token (operator Op2.Minus) fs d h = quiet (operator Op2.Minus) (declared fs d) (λ ss. refl)
other_token (operator Op2.Times) fs d h = cc
other_token (operator Op2.Div) fs d h = quiet (operator Op2.Div) (declared fs d) (λ ss. refl)
other_token (operator Op2.Mod) fs d h = quiet (operator Op2.Mod) (declared fs d) (λ ss. refl)
other_token (operator Op2.Pow) fs d h = quiet (operator Op2.Pow) (declared fs d) (λ ss. refl)
other_token (operator Op2.And) fs d h = quiet (operator Op2.And) (declared fs d) (λ ss. refl)
other_token (operator Op2.Or) fs d h = quiet (operator Op2.Or) (declared fs d) (λ ss. refl)
other_token (operator Op2.Implies) fs d h = quiet (operator Op2.Implies) (declared fs d) (λ ss. refl)
other_token (operator Op2.Iff) fs d h = quiet (operator Op2.Iff) (declared fs d) (λ ss. refl)
other_token (operator Op2.LexLt) fs d h = quiet (operator Op2.LexLt) (declared fs d) (λ ss. refl)
other_token (operator Op2.LexLe) fs d h = quiet (operator Op2.LexLe) (declared fs d) (λ ss. refl)
other_token (operator Op2.LexGt) fs d h = quiet (operator Op2.LexGt) (declared fs d) (λ ss. refl)
other_token (operator Op2.LexGe) fs d h = quiet (operator Op2.LexGe) (declared fs d) (λ ss. refl)
other_token (symbol open_round) fs d h = quiet (symbol open_round) (declared fs d) (λ ss. refl)
other_token (symbol close_round) fs d h = cc
other_token (symbol open_square) fs d h = quiet (symbol open_square) (declared fs d) (λ ss. refl)
other_token (symbol close_square) fs d h = cc
other_token (symbol open_curly) fs d h = quiet (symbol open_curly) (declared fs d) (λ ss. refl)
other_token (symbol close_curly) fs d h = cc
other_token (symbol comma) fs d h = cc
other_token (symbol semicolon) fs d h = quiet (symbol semicolon) (declared fs d) (λ ss. refl)
other_token (symbol colon) fs d h = quiet (symbol colon) (declared fs d) (λ ss. refl)
other_token (symbol dot) fs d h = cc
other_token (symbol dots) fs d h = quiet (symbol dots) (declared fs d) (λ ss. refl)
other_token (symbol bar) fs d h = quiet (symbol bar) (declared fs d) (λ ss. refl)
other_token (symbol exclamation) fs d h = quiet (symbol exclamation) (declared fs d) (λ ss. refl)
other_token (symbol drawn_from) fs d h = quiet (symbol drawn_from) (declared fs d) (λ ss. refl)
other_token (symbol maps_to) fs d h = cc
