use Rattle.std.proofs.Common.{◌≡◌, Ok, sym, ◌∙◌}
use Rattle.ess_grammar.specs.Kinds.{token}
use Rattle.ess_grammar.specs.Tokens.{next_token}
use Rattle.ess_lex.specs.Lexing.{left, answered}
use Rattle.ess_translate_header_lines.proofs.LanguageParts.{next-part, next-other}
use Rattle.ess_translate_header_lines.proofs.language.next_is.Goals as goal

pub returns-in-Ok-Some-clause-yes : goal.returns-in-Ok-Some-clause-yes
returns-in-Ok-Some-clause-yes c h =
    let found = c.in-Ok-Some.token in
    let some : answered (Ok c.in-Ok-Some.field-0) (left c.next.new.self) ≡ left c.args.lexer.now =
    rw c.in-Ok-Some.is at c.next.ensures.next in
    let come : next_token (token found.kind found.text.now) found.text.now found.place (left c.next.new.self) ≡ left c.args.lexer.now =
    rw c.in-Ok-Some.field-0-is at some in
    next-part c.args.part (token found.kind found.text.now) found.text.now found.place (left c.args.lexer.now) (left c.next.new.self) come
    (sym (c.is_part.ensures found.text.now) ∙ h)

pub returns-in-Ok-Some-clause-no : goal.returns-in-Ok-Some-clause-no
returns-in-Ok-Some-clause-no c h =
    let found = c.in-Ok-Some.token in
    let some : answered (Ok c.in-Ok-Some.field-0) (left c.next.new.self) ≡ left c.args.lexer.now =
    rw c.in-Ok-Some.is at c.next.ensures.next in
    let come : next_token (token found.kind found.text.now) found.text.now found.place (left c.next.new.self) ≡ left c.args.lexer.now =
    rw c.in-Ok-Some.field-0-is at some in
    next-other c.args.part (token found.kind found.text.now) found.text.now found.place (left c.args.lexer.now) (left c.next.new.self) come
    (sym (c.is_part.ensures found.text.now) ∙ h)
