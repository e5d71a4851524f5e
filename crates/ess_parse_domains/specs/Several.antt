-- Tests of lists of domains, and of tokens behind a domain.
use Rattle.std.specs.Prelude.{Bool, true, false}
use Rattle.ess_semantics.specs.declared.words.Op2.{Op2}
use Rattle.ess_grammar.specs.Words.{Token, operator, symbol, close_curly, close_round, close_square, comma, dot, maps_to}
use Rattle.ess_semantics.specs.Trees.{Doms, no_doms, more_doms}

-- Whether there are any domains.
abbrev pub are_any : Doms → Bool
are_any no_doms = false
are_any (more_doms d ds) = true

-- Whether the token may go on with the innermost frame behind a domain.
abbrev pub goes_on : Token → Bool
goes_on (symbol comma) = true
goes_on (symbol dot) = true
goes_on (symbol close_square) = true
goes_on (symbol close_round) = true
goes_on (symbol close_curly) = true
goes_on (symbol maps_to) = true
goes_on (operator Op2.Times) = true
goes_on _ = false
