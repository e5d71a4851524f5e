use Rattle.std.proofs.Common.{sym, ap, ◌∙◌, ◌<◌, ◌≤◌, false, length, arith}
use Rattle.ess_lex.specs.Lexing.{left}
use Rattle.ess_lex.proofs.LexerSteps.{from_byte-end}
use Rattle.ess_lex.proofs.NextToken.{next-is_token, next-is_wide, next-is_bad}
use Rattle.ess_lex.proofs.lexer.Lexer.next.Goals as goal

pub returns-then-self-clause-next : goal.returns-then-self-clause-next
unfolding left
returns-then-self-clause-next c =
    let lexer = c.skip_blank.new.self in
    let past : length lexer.text.now ≤ lexer.at = omega (arith, c.if-self.true) in
    sym (from_byte-end false lexer.text.now lexer.at past) ∙ c.skip_blank.ensures.left

pub returns-in-Token-clause-next : goal.returns-in-Token-clause-next
unfolding left
returns-in-Token-clause-next c =
    let lexer = c.skip_blank.new.self in
    let here : lexer.at < length lexer.text.now = omega (arith, c.if-self.false, lexer.within) in
    next-is_token lexer.text.now c.advance.new.self.text.now lexer.at c.advance.new.self.at c.in-Token.len _ c.place-place.result
    (c.skip_blank.ensures.plain here) c.in-Token.ensures.0 c.place-place.ensures
    (ap (λ t. t.now) c.advance.ensures.text) c.advance.ensures.at
    ∙ c.skip_blank.ensures.left

pub returns-in-Token-clause-natural : goal.returns-in-Token-clause-natural
returns-in-Token-clause-natural c = c.in-Token.ensures.1

pub returns-in-BadByte-clause-next : goal.returns-in-BadByte-clause-next
unfolding left
returns-in-BadByte-clause-next c =
    let lexer = c.skip_blank.new.self in
    let here : lexer.at < length lexer.text.now = omega (arith, c.if-self.false, lexer.within) in
    next-is_bad lexer.text.now lexer.at c.place-place.result (c.skip_blank.ensures.plain here) c.in-BadByte.ensures c.place-place.ensures
    ∙ c.skip_blank.ensures.left

pub returns-in-WideNumber-clause-next : goal.returns-in-WideNumber-clause-next
unfolding left
returns-in-WideNumber-clause-next c =
    let lexer = c.skip_blank.new.self in
    let here : lexer.at < length lexer.text.now = omega (arith, c.if-self.false, lexer.within) in
    next-is_wide lexer.text.now lexer.at c.place-place.result
    (c.skip_blank.ensures.plain here) c.in-WideNumber.ensures c.place-place.ensures ∙ c.skip_blank.ensures.left
