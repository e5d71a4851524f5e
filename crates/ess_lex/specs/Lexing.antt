-- What a lexer has still to give.
use Rattle.std.specs.Prelude.{◌≡◌, pos, take, drop, Option, Some, None, Ok, Err}
use Rattle.std.specs.declared.result.Result.{Result}
use Rattle.ess_rows.specs.declared.place.Place.{Place}
use Rattle.ess_grammar.specs.Words.{Text}
use Rattle.ess_grammar.specs.declared.kind.Kind.{Kind}
use Rattle.ess_grammar.specs.Kinds.{nat_of, token}
use Rattle.ess_grammar.specs.Tokens.{Lexed, the_end, bad_byte, wide_number, next_token, lexed_after}
use Rattle.ess_lex.specs.declared.lexer.Token.{Token}
use Rattle.ess_lex.specs.declared.lexer.LexNo.{LexNo}
use Rattle.ess_lex.specs.declared.lexer.Lexer.{Lexer}

-- the bytes behind which the lexer stands, and those before which it stands
abbrev pub passed : Lexer → Text
passed l = take l.at l.text.now

abbrev pub rest : Lexer → Text
rest l = drop l.at l.text.now

-- what is to come
unfoldable pub left : Lexer → Lexed
left l = lexed_after (passed l) (rest l)

-- an answer of `next`, and what is to come after it, as what was to come
abbrev pub answered : Result (Option Token) LexNo → Lexed → Lexed
answered (Ok None) more = the_end
answered (Ok (Some t)) more = next_token (token t.kind t.text.now) t.text.now t.place more
answered (Err (LexNo.BadByte p)) more = bad_byte p
answered (Err (LexNo.WideNumber p)) more = wide_number p

-- A number's kind is at least 0, so that each token has one kind.
abbrev pub IsNatural : Kind → Type 0
IsNatural (Kind.Num n) = pos (nat_of n) ≡ n
IsNatural _ = Unit {0}

-- the first refusal of what is to come
abbrev pub refusal : Lexed → Option LexNo
refusal the_end = None
refusal (bad_byte p) = Some (LexNo.BadByte p)
refusal (wide_number p) = Some (LexNo.WideNumber p)
refusal (next_token t bytes p more) = refusal more

-- the answer of a call that finds a place in a text: a refusal anywhere in the text comes first
abbrev pub found_in : (Lexed → Option Place) → Lexed → Result (Option Place) LexNo
found_in find more = elim (refusal more) [ Some why ↦ Err why | None ↦ Ok (find more) ]
