use Rattle.std.proofs.Common.{◌≡◌, sym, ap, ◌∙◌, ◌+◌, false}
use Rattle.ess_lex.specs.Lexing.{left}
use Rattle.ess_lex.proofs.LexerSteps.{from_byte, from_byte-end, loop-comment, loop-begun, loop-white, loop-turn}
use Rattle.ess_lex.proofs.lexer.Lexer.skip_blank.Goals as goal
use Rattle.ess_lex.proofs.lexer.Lexer.skip_blank.Goals.{then-comment, else-comment+then-byte-eq36, else-comment+else-byte-eq36+else-not-is_white}

pub returns-then-not-is_white-clause-left : goal.returns-then-not-is_white-clause-left
unfolding left
returns-then-not-is_white-clause-left c =
    ap (λ i. from_byte i c.loop-self.self.text.now c.loop-self.self.at) (sym c.if-comment.false) ∙ c.loop-self.invariant.left

pub returns-clause-left : goal.returns-clause-left
unfolding left
returns-clause-left c =
    let lexer = c.loop-self.self in
    from_byte-end false lexer.text.now lexer.at c.loop-self-test.false
    ∙ sym (from_byte-end c.loop-self.comment lexer.text.now lexer.at c.loop-self-test.false)
    ∙ c.loop-self.invariant.left

pub loop-self-preserved : goal.loop-self-preserved
loop-self-preserved c =
    let old = c.loop-self.self in
    let new = c.pass.new.self in
    let turn = λ (h : from_byte c.loop-self.comment old.text.now old.at ≡ from_byte c.if-comment.comment old.text.now (old.at + 1)).
    loop-turn c.loop-self.comment c.if-comment.comment old.text.now new.text.now old.at new.at _
    (ap (λ t. t.now) c.pass.ensures.text) c.pass.ensures.at h c.loop-self.invariant.left in
    record {
      text = c.pass.ensures.text ∙ c.loop-self.invariant.text;
      left = turn (elim c.if-comment.branch [
        | then-comment w ↦
            loop-comment c.loop-self.comment c.if-comment.comment old.text.now old.at c.loop-self-test.true w.if-comment.true w.comment-is
        | else-comment+then-byte-eq36 w ↦
            loop-begun c.loop-self.comment c.if-comment.comment old.text.now old.at c.loop-self-test.true w.if-comment.false
            w.if-byte-eq36.true w.comment-is
        | else-comment+else-byte-eq36+else-not-is_white w ↦
            loop-white c.loop-self.comment c.if-comment.comment old.text.now old.at c.loop-self-test.true w.if-comment.false
            (cc) w.comment-is
      ]);
    }
