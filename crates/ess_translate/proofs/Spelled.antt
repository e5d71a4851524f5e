-- What a reader's clauses say of a text together.
use Rattle.std.proofs.Common.{◌≡◌, refl, sym, ◌∙◌, List, [], ◌∷◌, Option, Some, None, option_map}
use Rattle.std.specs.Prelude.{Ok, Err}
use Rattle.std.specs.declared.result.Result.{Result}
use Rattle.ess_semantics.specs.Values.{Text}
use Rattle.ess_grammar.specs.Words.{Token}
use Rattle.ess_grammar.specs.Tokens.{Lexed, the_end, bad_byte, wide_number, next_token, tokens_in, lexed, first_outside}
use Rattle.ess_grammar.specs.Load.{too_deep}
use Rattle.ess_grammar.specs.Texts.{Reads, IsWithinLimits}
use Rattle.ess_lex.specs.Lexing.{refusal}
use Rattle.ess_parse.specs.declared.refusal.ReadNo.{ReadNo}
use Rattle.ess_parse.specs.Refusals.{refused_first}
use Rattle.ess_parse.specs.Readers.{IsRefusedFirst, IsDerived, IsAnswered, IsUnread, IsPlaced}
use Rattle.ess_parse.proofs.FirstRefusals.{none-first, first-none}
use Rattle.ess_translate.specs.Texts.{Spells, IsRefusedFor, IsReadAs}

-- A text that isn't refused before its grammar is looked at is within the limits.
pub unrefused-limits : (text : Text) → refused_first text ≡ None → IsWithinLimits text
unrefused-limits text h =
    let q : _ = none-first (refusal (lexed text)) (first_outside (lexed text)) (too_deep (lexed text)) h in
    (q.1, q.2)

-- The clauses of a reader, in one.
pub read_as : {T A : Type 0} (Derives : A → List Token → Type 0) (view : T → A) (text : Text) (r : Result T ReadNo)
    → IsRefusedFirst text r → IsDerived Derives view text r → IsAnswered Derives view text r → IsUnread Derives text r
    → IsPlaced Derives text r → IsReadAs Derives view text r
read_as Derives view text (Ok t) first derived answered unread placed =
    let within : IsWithinLimits text = unrefused-limits text first in
    record { reads = derived; limits = within; only = λ b h. sym (answered b h within) }
read_as Derives view text (Err ReadNo.NoMemory) first derived answered unread placed = tt
read_as Derives view text (Err (ReadNo.BadByte p)) first derived answered unread placed =
    record { reason = tt; first = first; unread = unread; placed = placed }
read_as Derives view text (Err (ReadNo.WideNumber p)) first derived answered unread placed =
    record { reason = tt; first = first; unread = unread; placed = placed }
read_as Derives view text (Err (ReadNo.Unsupported p)) first derived answered unread placed =
    record { reason = tt; first = first; unread = unread; placed = placed }
read_as Derives view text (Err (ReadNo.TooDeep p)) first derived answered unread placed =
    record { reason = tt; first = first; unread = unread; placed = placed }
read_as Derives view text (Err (ReadNo.Syntax p)) first derived answered unread placed =
    record { reason = tt; first = first; unread = unread; placed = placed }

-- Tokens are those of a text that the lexer doesn't refuse.
tokens-unrefused : (l : Lexed) (ts : List Token) → tokens_in l ≡ Some ts → refusal l ≡ None
tokens-unrefused the_end ts h = refl
tokens-unrefused (bad_byte p) ts h = let k : None ≡ Some ts = h in cc
tokens-unrefused (wide_number p) ts h = let k : None ≡ Some ts = h in cc
tokens-unrefused (next_token t bytes p more) ts h = go (tokens_in more) refl h (tokens-unrefused more)
  where
    go : (o : Option (List Token)) → tokens_in more ≡ o → option_map (λ us. t ∷ us) o ≡ Some ts
        → ((us : List Token) → tokens_in more ≡ Some us → refusal more ≡ None)
        → refusal more ≡ None
    go None e h rest = let k : None ≡ Some ts = h in cc
    go (Some us) e h rest = rest us e

-- Nothing stands against a text that spells a tree.
unrefused : {A : Type 0} (Derives : A → List Token → Type 0) (text : Text) (a : A) → Spells Derives text a → refused_first text ≡ None
unrefused Derives text a s =
    first-none (refusal (lexed text)) (first_outside (lexed text)) (too_deep (lexed text))
    (tokens-unrefused (lexed text) s.reads.0 s.reads.1) s.limits.0 s.limits.1

-- A text that spells a tree isn't refused.
pub spelled-unrefused : {A : Type 0} (Derives : A → List Token → Type 0) (text : Text) (a : A) (why : ReadNo) → Spells Derives text a
    → IsRefusedFor Derives text why → ⊥
spelled-unrefused Derives text a (ReadNo.Syntax p) s r = r.unread a s.reads
spelled-unrefused Derives text a ReadNo.NoMemory s r = r.reason
spelled-unrefused Derives text a (ReadNo.BadByte p) s r = let h : Some (ReadNo.BadByte p) ≡ None = sym r.first
    ∙ unrefused Derives text a s in cc
spelled-unrefused Derives text a (ReadNo.WideNumber p) s r = let h : Some (ReadNo.WideNumber p) ≡ None = sym r.first
    ∙ unrefused Derives text a s in cc
spelled-unrefused Derives text a (ReadNo.Unsupported p) s r = let h : Some (ReadNo.Unsupported p) ≡ None = sym r.first
    ∙ unrefused Derives text a s in cc
spelled-unrefused Derives text a (ReadNo.TooDeep p) s r = let h : Some (ReadNo.TooDeep p) ≡ None = sym r.first
    ∙ unrefused Derives text a s in cc
