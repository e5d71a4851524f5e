use Rattle.std.proofs.Common.{◌≡◌, sym, ap, ◌∙◌, ◌≤◌, length, arith}
use Rattle.ess_grammar.specs.Tokens.{next_token}
use Rattle.ess_grammar.specs.Kinds.{token}
use Rattle.ess_lex.specs.Lexing.{left, refusal}
use Rattle.ess_lex.specs.StackItems.{items_of}
use Rattle.ess_lex.proofs.StackLaws.{length-items_of}
use Rattle.ess_lex.proofs.Loads.{found-kept, found-later, too_deep-later}
use Rattle.ess_lex.proofs.texts.load.Goals as goal
use Rattle.ess_lex.proofs.texts.load.Goals.{else-is_none-via-then-is_none+else-not-load, else-is_none-via-else-is_none}

pub loop-token-preserved : goal.loop-token-preserved
loop-token-preserved c =
    let found = c.in-Some.token in
    let old = c.loop-token.stack in
    let new = c.else-is_none.stack in
    let come : next_token (token found.kind found.text.now) found.text.now found.place (left c.next.new.self) ≡ left c.loop-token.lexer =
    rw c.in-Some.is at c.in_ok-token.ensures.next in
    record {
      refused = c.loop-token.invariant.refused ∙ ap refusal (sym come);
      deep = elim c.else-is_none.branch [
        | else-is_none-via-then-is_none+else-not-load w ↦
            let loaded = w.if-not-load.ensures in
            let low : length (items_of new) ≤ 250 = omega (arith, length-items_of new, new.room) in
            found-later c.loop-token.found _ _ _
            (too_deep-later (token found.kind found.text.now) found.text.now found.place (left c.next.new.self)
            (left c.loop-token.lexer) old.after_operand new.after_operand (items_of old) (items_of new) come
            (ap items_of w.stack-is ∙ loaded.items found.text.now)
            (ap (λ stack. stack.after_operand) w.stack-is ∙ loaded.after_operand found.text.now) low)
            c.loop-token.invariant.deep
        | else-is_none-via-else-is_none w ↦ found-kept c.loop-token.found _ _ _ (cc (c.is_none.ensures)) c.loop-token.invariant.deep
      ];
    }
