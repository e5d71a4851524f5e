-- What readers of texts promise, for any rules: `Derives a ts` says that the rules derive the tree a for the tokens ts, and
-- `view` gives the pure tree of an answer. The contracts of all readers are stated with these definitions.
use Rattle.std.specs.Prelude.{◌≡◌, ℕ, zero, suc, true, ◌⊎◌, List, [], ◌∷◌, ◌++◌, Option, Some, None, Ok, Err}
use Rattle.std.specs.declared.result.Result.{Result}
use Rattle.ess_rows.specs.declared.place.Place.{Place}
use Rattle.ess_semantics.specs.Values.{Text}
use Rattle.ess_grammar.specs.Words.{Token, Word, word}
use Rattle.ess_grammar.specs.Tokens.{Lexed, the_end, bad_byte, wide_number, next_token, lexed, tokens}
use Rattle.ess_grammar.specs.Places.{end_place}
use Rattle.ess_grammar.specs.Texts.{Reads, IsWithinLimits}
use Rattle.ess_parse_laws.specs.StatementEnds.{begins_statement}
use Rattle.ess_parse.specs.declared.refusal.ReadNo.{ReadNo}
use Rattle.ess_parse.specs.Refusals.{refused_first}

-- ---- the tokens before a place

-- The first n tokens of a text, or all where there are fewer.
abbrev pub first_tokens : ℕ → Lexed → List Token
first_tokens zero l = []
first_tokens (suc n) the_end = []
first_tokens (suc n) (bad_byte p) = []
first_tokens (suc n) (wide_number p) = []
first_tokens (suc n) (next_token t bytes p more) = t ∷ first_tokens n more

-- The token behind the first n, with its place, if there is one.
abbrev pub token_behind : ℕ → Lexed → Option (Token × Place)
token_behind n the_end = None
token_behind n (bad_byte p) = None
token_behind n (wide_number p) = None
token_behind zero (next_token t bytes p more) = Some (t, p)
token_behind (suc n) (next_token t bytes p more) = token_behind n more

-- ---- places of syntax errors

-- Before each word of these tokens that begins a statement, and so before the last one, stands a whole text.
abbrev pub IsWholeBeforeStatements : {A : Type 0} → (A → List Token → Type 0) → List Token → Type 0
IsWholeBeforeStatements {A = A} Derives ts = (xs ys : List Token) (w : Word) → ts ≡ xs ++ word w ∷ ys → begins_statement w ≡ true → (a : A) × Derives a xs

-- At this place stands a token with which no text goes on that is read.
pub record IsWrongToken {A : Type 0} (Derives : A → List Token → Type 0) (text : Text) (p : Place) : Type 0 where
  -- how many tokens stand before it
  pub before : ℕ
  pub wrong : Token
  pub there : token_behind before (lexed text) ≡ Some (wrong, p)
  pub for_good : (a : A) (us : List Token) → Derives a (first_tokens before (lexed text) ++ wrong ∷ us) → ⊥
  pub whole : IsWholeBeforeStatements Derives (first_tokens before (lexed text))

-- The text ends at this place, and isn't read as it is.
pub record IsCutShort {A : Type 0} (Derives : A → List Token → Type 0) (text : Text) (p : Place) : Type 0 where
  pub all : List Token
  pub these : tokens text ≡ Some all
  pub there : p ≡ end_place text
  pub unread : (a : A) → Derives a all → ⊥
  pub whole : IsWholeBeforeStatements Derives all

-- ---- the clauses of a reader

-- The first four refusals come exactly where the text is refused before its grammar is looked at.
abbrev pub IsRefusedFirst : {T : Type 0} → Text → Result T ReadNo → Type 0
IsRefusedFirst text (Ok t) = refused_first text ≡ None
IsRefusedFirst text (Err (ReadNo.Syntax p)) = refused_first text ≡ None
IsRefusedFirst text (Err ReadNo.NoMemory) = Unit {0}
IsRefusedFirst text (Err (ReadNo.BadByte p)) = refused_first text ≡ Some (ReadNo.BadByte p)
IsRefusedFirst text (Err (ReadNo.WideNumber p)) = refused_first text ≡ Some (ReadNo.WideNumber p)
IsRefusedFirst text (Err (ReadNo.Unsupported p)) = refused_first text ≡ Some (ReadNo.Unsupported p)
IsRefusedFirst text (Err (ReadNo.TooDeep p)) = refused_first text ≡ Some (ReadNo.TooDeep p)

-- A fact about the place where the answer is a syntax error.
abbrev pub IfSyntax : {T : Type 0} → Result T ReadNo → (Place → Type 0) → Type 0
IfSyntax (Err (ReadNo.Syntax p)) P = P p
IfSyntax _ P = Unit {0}

-- A tree that is answered is derived for the text.
abbrev pub IsDerived : {T A : Type 0} → (A → List Token → Type 0) → (T → A) → Text → Result T ReadNo → Type 0
IsDerived Derives view text (Ok t) = Reads text (Derives (view t))
IsDerived Derives view text (Err _) = Unit {0}

-- This tree, or want of memory.
abbrev pub IsThisTree : {T A : Type 0} → (T → A) → A → Result T ReadNo → Type 0
IsThisTree view a (Ok t) = view t ≡ a
IsThisTree view a (Err ReadNo.NoMemory) = Unit {0}
IsThisTree view a (Err _) = ⊥

-- A tree that is derived for a text within the limits is answered, but for want of memory.
abbrev pub IsAnswered : {T A : Type 0} → (A → List Token → Type 0) → (T → A) → Text → Result T ReadNo → Type 0
IsAnswered {A = A} Derives view text r = (a : A) → Reads text (Derives a) → IsWithinLimits text → IsThisTree view a r

-- A syntax error comes only where no tree is derived for the text.
abbrev pub IsUnread : {T A : Type 0} → (A → List Token → Type 0) → Text → Result T ReadNo → Type 0
IsUnread {A = A} Derives text r = IfSyntax r (λ p. (a : A) → Reads text (Derives a) → ⊥)

-- Its place is that of a wrong token, or the end of a text that is cut short.
abbrev pub IsPlaced : {T A : Type 0} → (A → List Token → Type 0) → Text → Result T ReadNo → Type 0
IsPlaced Derives text r = IfSyntax r (λ p. IsWrongToken Derives text p ⊎ IsCutShort Derives text p)

-- A tree that is answered is one that the grammar has.
abbrev pub IsReadable : {T A : Type 0} → (A → Type 0) → (T → A) → Result T ReadNo → Type 0
IsReadable Readable view (Ok t) = Readable (view t)
IsReadable Readable view (Err _) = Unit {0}
