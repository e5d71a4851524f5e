use Rattle.std.proofs.Common.{◌≡◌, sym, ap, ◌∙◌, subst, IfSome}
use Rattle.std.specs.Option.{option_map}
use Rattle.ess_grammar.specs.Kinds.{token}
use Rattle.ess_grammar.specs.Tokens.{lexed, next_token}
use Rattle.ess_grammar.specs.Places.{end_place}
use Rattle.ess_lex.specs.Lexing.{left, IsNatural}
use Rattle.ess_parse.specs.Runs.{run_over}
use Rattle.ess_parse.proofs.AsciiTokens.{AreAscii, lexed-ascii, front-ascii}
use Rattle.ess_parse.proofs.Turns.{turn}
use Rattle.eprime_read_laws.specs.ModelMachine.{at_begin, model_step, model_finish}
use Rattle.eprime_read.specs.Views.{view_machine, IsMachine}
use Rattle.eprime_read.proofs.FitTokens.{AreFitTokens, lexed_fit, front_fit}
use Rattle.eprime_read.proofs.models.over_tokens.Goals as goal

pub loop-machine-init : goal.loop-machine-init
loop-machine-init c =
    record {
      same =
          ap (λ l. run_over model_step model_finish (end_place c.args.text.now) l at_begin) (sym c.new-lexer.ensures)
          ∙ ap (λ s. run_over model_step model_finish (end_place c.args.text.now) (left c.new-lexer.result) s) (sym c.new-machine.ensures.stage);
      holds = c.new-machine.ensures.holds;
      ascii = subst AreAscii (sym c.new-lexer.ensures) (lexed-ascii c.args.text.now);
      fit = subst AreFitTokens (sym c.new-lexer.ensures) (lexed_fit c.args.text.now c.requires.unrefused c.requires.inside);
    }

pub step-requires-clause-natural : goal.step-requires-clause-natural
step-requires-clause-natural c = subst (λ o. IfSome o (λ t. IsNatural t.kind)) c.in-Some.is c.in_ok-token.ensures.natural

pub step-requires-clause-ascii : goal.step-requires-clause-ascii
step-requires-clause-ascii c =
    let found = c.in-Some.token in
    let come : next_token (token found.kind found.text.now) found.text.now found.place (left c.next.new.self) ≡ left c.loop-machine.lexer = rw c.in-Some.is at c.in_ok-token.ensures.next in
    (front-ascii (token found.kind found.text.now) found.text.now found.place (left c.next.new.self) (left c.loop-machine.lexer) come (c.loop-machine.invariant).ascii).0

pub step-requires-clause-fit : goal.step-requires-clause-fit
step-requires-clause-fit c =
    let found = c.in-Some.token in
    let come : next_token (token found.kind found.text.now) found.text.now found.place (left c.next.new.self) ≡ left c.loop-machine.lexer = rw c.in-Some.is at c.in_ok-token.ensures.next in
    (front_fit (token found.kind found.text.now) found.text.now found.place (left c.next.new.self) (left c.loop-machine.lexer) come (c.loop-machine.invariant).fit).0

pub loop-machine-preserved : goal.loop-machine-preserved
loop-machine-preserved c =
    let found = c.in-Some.token in
    let come : next_token (token found.kind found.text.now) found.text.now found.place (left c.next.new.self) ≡ left c.loop-machine.lexer = rw c.in-Some.is at c.in_ok-token.ensures.next in
    record {
      same =
          turn model_step model_finish (end_place c.args.text.now) (run_over model_step model_finish (end_place c.args.text.now) (lexed c.args.text.now) at_begin)
          (token found.kind found.text.now) found.text.now found.place (left c.next.new.self) (left c.loop-machine.lexer) (view_machine c.loop-machine.machine) (view_machine c.in-Some-2.next)
          (c.loop-machine.invariant).same come (c.in_ok-next.ensures.stage ∙ ap (option_map view_machine) c.in-Some-2.is);
      holds = subst (λ o. IfSome o IsMachine) c.in-Some-2.is c.in_ok-next.ensures.holds;
      ascii = (front-ascii (token found.kind found.text.now) found.text.now found.place (left c.next.new.self) (left c.loop-machine.lexer) come (c.loop-machine.invariant).ascii).1;
      fit = (front_fit (token found.kind found.text.now) found.text.now found.place (left c.next.new.self) (left c.loop-machine.lexer) come (c.loop-machine.invariant).fit).1;
    }
