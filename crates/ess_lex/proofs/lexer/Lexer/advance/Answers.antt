use Rattle.std.proofs.Common.{◌∙◌, arith, length-drop}
use Rattle.ess_lex.proofs.lexer.Lexer.advance.Goals as goal
use Rattle.ess_lex.proofs.LexerSteps.{lines-same, columns-more}

pub invariant_of-self : goal.invariant_of-self
invariant_of-self c =
    let lexer = c.args.self.now in
    record {
      within = omega (arith, length-drop lexer.at lexer.text.now, lexer.within);
      lines = lines-same lexer.text.now lexer.at c.args.len c.requires.one_line ∙ lexer.lines;
      columns = omega (arith, columns-more lexer.text.now lexer.at c.args.len c.requires.within c.requires.one_line, lexer.columns);
    }
