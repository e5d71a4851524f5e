-- What a token is by its role.
use Rattle.std.proofs.Common.{◌≡◌, Some}
use Rattle.ess_semantics.specs.declared.words.Op2.{Op2}
use Rattle.ess_semantics.specs.declared.words.Fun.{Fun}
use Rattle.ess_grammar.specs.Words.{Token, number, name, prime_word, word, operator, function, symbol}
use Rattle.ess_parse_frames.specs.Roles.{operator_in, function_in}

pub is_operator : (t : Token) (o : Op2) → operator_in t ≡ Some o → t ≡ operator o
is_operator (operator p) o h = cc
is_operator (number n) o h = cc
is_operator (name a) o h = cc
is_operator prime_word o h = cc
is_operator (word w) o h = cc
is_operator (function f) o h = cc
is_operator (symbol s) o h = cc

pub is_function : (t : Token) (f : Fun) → function_in t ≡ Some f → t ≡ function f
is_function (function g) f h = cc
is_function (operator p) f h = cc
is_function (number n) f h = cc
is_function (name a) f h = cc
is_function prime_word f h = cc
is_function (word w) f h = cc
is_function (symbol s) f h = cc
