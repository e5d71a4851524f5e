use Rattle.std.proofs.Common.{◌≡◌, sym, ap, ◌∙◌, subst, IfSome}
use Rattle.std.specs.Option.{option_map}
use Rattle.ess_grammar.specs.Kinds.{token}
use Rattle.ess_grammar.specs.Tokens.{lexed, next_token}
use Rattle.ess_grammar.specs.Places.{end_place}
use Rattle.ess_lex.specs.Lexing.{left, IsNatural}
use Rattle.eprime_cells_machine.specs.MachineViews.{view_machine}
use Rattle.ess_parse.specs.Runs.{run_over}
use Rattle.eprime_read_cells_laws.specs.CellMachine.{cells_step, cells_finish, cells_start}
use Rattle.ess_parse.proofs.AsciiTokens.{AreAscii, lexed-ascii, front-ascii}
use Rattle.ess_parse.proofs.Turns.{turn}
use Rattle.eprime_read_cells.proofs.lettings.run.Goals as goal

pub loop-token-init : goal.loop-token-init
loop-token-init c =
    record {
      same =
          ap (λ l. run_over cells_step cells_finish (end_place c.args.text.now) l cells_start) (sym c.new-lexer.ensures)
          ∙ ap (λ s. run_over cells_step cells_finish (end_place c.args.text.now) (left c.new-lexer.result) s) (sym c.new-machine.ensures);
      ascii = subst AreAscii (sym c.new-lexer.ensures) (lexed-ascii c.args.text.now);
    }

pub step-requires-clause-natural : goal.step-requires-clause-natural
step-requires-clause-natural c = subst (λ o. IfSome o (λ t. IsNatural t.kind)) c.in-Some.is c.in_ok-token.ensures.natural

pub step-requires-clause-ascii : goal.step-requires-clause-ascii
step-requires-clause-ascii c =
    let found = c.in-Some.token in
    let come : next_token (token found.kind found.text.now) found.text.now found.place (left c.next.new.self) ≡ left c.loop-token.lexer = rw c.in-Some.is at c.in_ok-token.ensures.next in
    (front-ascii (token found.kind found.text.now) found.text.now found.place (left c.next.new.self) (left c.loop-token.lexer) come (c.loop-token.invariant).ascii).0

pub loop-token-preserved : goal.loop-token-preserved
loop-token-preserved c =
    let found = c.in-Some.token in
    let come : next_token (token found.kind found.text.now) found.text.now found.place (left c.next.new.self) ≡ left c.loop-token.lexer = rw c.in-Some.is at c.in_ok-token.ensures.next in
    record {
      same =
          turn cells_step cells_finish (end_place c.args.text.now) (run_over cells_step cells_finish (end_place c.args.text.now) (lexed c.args.text.now) cells_start)
          (token found.kind found.text.now) found.text.now found.place (left c.next.new.self) (left c.loop-token.lexer) (view_machine c.loop-token.machine) (view_machine c.in-Some-2.next)
          (c.loop-token.invariant).same come (c.in_ok-next.ensures ∙ ap (option_map view_machine) c.in-Some-2.is);
      ascii = (front-ascii (token found.kind found.text.now) found.text.now found.place (left c.next.new.self) (left c.loop-token.lexer) come (c.loop-token.invariant).ascii).1;
    }
