-- What a token is, where it is a binary operator or a function word.
use Rattle.std.specs.Prelude.{Option, Some, None}
use Rattle.ess_semantics.specs.declared.words.Op2.{Op2}
use Rattle.ess_semantics.specs.declared.words.Fun.{Fun}
use Rattle.ess_grammar.specs.Words.{Token, operator, function}

-- The binary operator that the token is, if it is one.
abbrev pub operator_in : Token → Option Op2
operator_in (operator o) = Some o
operator_in _ = None

-- The function word that the token is, if it is one.
abbrev pub function_in : Token → Option Fun
function_in (function f) = Some f
function_in _ = None
