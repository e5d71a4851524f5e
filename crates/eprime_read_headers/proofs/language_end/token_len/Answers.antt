use Rattle.std.proofs.Common.{◌≡◌, ◌∙◌, Ok}
use Rattle.ess_grammar.specs.Kinds.{token}
use Rattle.ess_grammar.specs.Tokens.{the_end, next_token}
use Rattle.ess_lex.specs.Lexing.{left, answered}
use Rattle.eprime_read_headers.proofs.FreeTexts.{front_token, not_at_end}
use Rattle.eprime_read_headers.proofs.language_end.token_len.Goals as goal

pub returns-in-Ok-Some : goal.returns-in-Ok-Some
returns-in-Ok-Some c =
    let found = c.in-Ok-Some.token in
    let some : answered (Ok c.in-Ok-Some.field-0) (left c.next.new.self) ≡ left c.new-lexer.result = rw c.in-Ok-Some.is at c.next.ensures.next in
    let come : next_token (token found.kind found.text.now) found.text.now found.place (left c.next.new.self) ≡ left c.new-lexer.result = rw c.in-Ok-Some.field-0-is at some in
    front_token c.args.text.now found.text.now (token found.kind found.text.now) found.place (left c.next.new.self) c.requires.plain (come ∙ c.new-lexer.ensures)

pub returns-in-Ok-None : goal.returns-in-Ok-None
returns-in-Ok-None c =
    let some : answered (Ok c.in-Ok-None.field-0) (left c.next.new.self) ≡ left c.new-lexer.result = rw c.in-Ok-None.is at c.next.ensures.next in
    let come : the_end ≡ left c.new-lexer.result = rw c.in-Ok-None.field-0-is at some in
    absurd (not_at_end c.args.text.now c.requires.plain (come ∙ c.new-lexer.ensures))
