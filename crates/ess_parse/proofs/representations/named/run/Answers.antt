use Rattle.std.proofs.Common.{◌≡◌, sym, ap, ◌∙◌, subst}
use Rattle.std.specs.Option.{option_map}
use Rattle.ess_grammar.specs.Kinds.{token}
use Rattle.ess_grammar.specs.Tokens.{lexed, next_token}
use Rattle.ess_grammar.specs.Places.{end_place}
use Rattle.ess_lex.specs.Lexing.{left}
use Rattle.ess_parse.specs.NamedReprViews.{view_line}
use Rattle.ess_parse.specs.Runs.{run_over}
use Rattle.ess_parse.specs.NamedRepresentations.{step_line, finish_line, word_wanted}
use Rattle.ess_parse.proofs.AsciiTokens.{AreAscii, lexed-ascii, front-ascii}
use Rattle.ess_parse.proofs.Turns.{turn}
use Rattle.ess_parse.proofs.representations.named.run.Goals as goal

pub loop-line-init : goal.loop-line-init
loop-line-init c =
    record {
      same = ap (λ l. run_over step_line finish_line (end_place c.args.text.now) l word_wanted) (sym c.new-lexer.ensures);
      ascii = subst AreAscii (sym c.new-lexer.ensures) (lexed-ascii c.args.text.now);
    }

pub step-requires : goal.step-requires
step-requires c =
    let found = c.in-Some.token in
    let come : next_token (token found.kind found.text.now) found.text.now found.place (left c.next.new.self) ≡ left c.loop-line.lexer = rw c.in-Some.is at c.in_ok-token.ensures.next in
    (front-ascii (token found.kind found.text.now) found.text.now found.place (left c.next.new.self) (left c.loop-line.lexer) come (c.loop-line.invariant).ascii).0

pub loop-line-preserved : goal.loop-line-preserved
loop-line-preserved c =
    let found = c.in-Some.token in
    let come : next_token (token found.kind found.text.now) found.text.now found.place (left c.next.new.self) ≡ left c.loop-line.lexer = rw c.in-Some.is at c.in_ok-token.ensures.next in
    record {
      same =
          turn step_line finish_line (end_place c.args.text.now) (run_over step_line finish_line (end_place c.args.text.now) (lexed c.args.text.now) word_wanted)
          (token found.kind found.text.now) found.text.now found.place (left c.next.new.self) (left c.loop-line.lexer) (view_line c.loop-line.line) (view_line c.in-Some-2.next)
          (c.loop-line.invariant).same come (c.in_ok-next.ensures ∙ ap (option_map view_line) c.in-Some-2.is);
      ascii = (front-ascii (token found.kind found.text.now) found.text.now found.place (left c.next.new.self) (left c.loop-line.lexer) come (c.loop-line.invariant).ascii).1;
    }
