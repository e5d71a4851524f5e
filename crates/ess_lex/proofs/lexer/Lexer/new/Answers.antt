use Rattle.std.proofs.Common.{refl}
use Rattle.ess_lex.specs.Lexing.{left}
use Rattle.ess_lex.proofs.lexer.Lexer.new.Goals as goal

pub returns : goal.returns
unfolding left
returns c = refl
