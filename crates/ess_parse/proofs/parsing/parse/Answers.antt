use Rattle.std.proofs.Common.{◌≡◌, sym, ap, ◌∙◌, subst, IfSome}
use Rattle.std.specs.Option.{option_map}
use Rattle.ess_grammar.specs.Kinds.{token}
use Rattle.ess_grammar.specs.Tokens.{lexed, next_token}
use Rattle.ess_grammar.specs.Places.{end_place}
use Rattle.ess_lex.specs.Lexing.{left, IsNatural}
use Rattle.ess_parse_machine.specs.Parsers.{view_parser}
use Rattle.ess_parse.specs.Runs.{run_over}
use Rattle.ess_parse.specs.Machines.{step_state, finish_state}
use Rattle.ess_parse.proofs.AsciiTokens.{AreAscii, lexed-ascii, front-ascii}
use Rattle.ess_parse.proofs.Turns.{turn}
use Rattle.ess_parse.proofs.parsing.parse.Goals as goal

pub loop-token-init : goal.loop-token-init
loop-token-init c =
    record {
      same = ap (λ l. run_over step_state finish_state (end_place c.args.text.now) l (view_parser c.args.start)) (sym c.new-lexer.ensures);
      ascii = subst AreAscii (sym c.new-lexer.ensures) (lexed-ascii c.args.text.now);
    }

pub step-requires-clause-natural : goal.step-requires-clause-natural
step-requires-clause-natural c = subst (λ o. IfSome o (λ t. IsNatural t.kind)) c.in-Some.is c.in_ok-token.ensures.natural

pub step-requires-clause-ascii : goal.step-requires-clause-ascii
step-requires-clause-ascii c =
    let found = c.in-Some.token in
    let come : next_token (token found.kind found.text.now) found.text.now found.place (left c.next.new.self) ≡ left c.loop-token.lexer = rw c.in-Some.is at c.in_ok-token.ensures.next in
    (front-ascii (token found.kind found.text.now) found.text.now found.place (left c.next.new.self) (left c.loop-token.lexer) come (c.loop-token.invariant).ascii).0

pub loop-token-preserved : goal.loop-token-preserved
loop-token-preserved c =
    let found = c.in-Some.token in
    let come : next_token (token found.kind found.text.now) found.text.now found.place (left c.next.new.self) ≡ left c.loop-token.lexer = rw c.in-Some.is at c.in_ok-token.ensures.next in
    record {
      same =
          turn step_state finish_state (end_place c.args.text.now) (run_over step_state finish_state (end_place c.args.text.now) (lexed c.args.text.now) (view_parser c.args.start))
          (token found.kind found.text.now) found.text.now found.place (left c.next.new.self) (left c.loop-token.lexer) (view_parser c.loop-token.parser) (view_parser c.in-Some-2.next)
          (c.loop-token.invariant).same come (c.in_ok-next.ensures ∙ ap (option_map view_parser) c.in-Some-2.is);
      ascii = (front-ascii (token found.kind found.text.now) found.text.now found.place (left c.next.new.self) (left c.loop-token.lexer) come (c.loop-token.invariant).ascii).1;
    }
