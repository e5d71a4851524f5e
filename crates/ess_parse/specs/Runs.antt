-- The run of a machine over what is left of a text, and what a reader answers that runs one. What the machine does is
-- given: its step at a token, if it doesn't stop there, and its tree at the end of the tokens, if there is one.
use Rattle.std.specs.Prelude.{◌≡◌, Option, Some, None, Ok, Err}
use Rattle.std.specs.declared.result.Result.{Result}
use Rattle.ess_rows.specs.declared.place.Place.{Place}
use Rattle.ess_semantics.specs.Values.{Text}
use Rattle.ess_grammar.specs.Words.{Token}
use Rattle.ess_grammar.specs.Tokens.{Lexed, the_end, bad_byte, wide_number, next_token, lexed}
use Rattle.ess_grammar.specs.Places.{end_place}
use Rattle.ess_parse.specs.declared.refusal.ReadNo.{ReadNo}
use Rattle.ess_parse.specs.Refusals.{refused_first}

-- The tree at the end of the tokens, or a syntax error at this place.
abbrev pub ended : {A : Type 0} → Place → Option A → Result A ReadNo
ended end (Some a) = Ok a
ended end None = Err (ReadNo.Syntax end)

-- What the run answers from the state behind a token, or a syntax error at the token's place.
abbrev pub then_run : {S A : Type 0} → Place → (S → Result A ReadNo) → Option S → Result A ReadNo
then_run p k (Some s) = k s
then_run p k None = Err (ReadNo.Syntax p)

-- The answer of a run over what is left of a text that ends at this place.
abbrev pub run_over : {S A : Type 0} → (Token → S → Option S) → (S → Option A) → Place → Lexed → S → Result A ReadNo
run_over step finish end the_end s = ended end (finish s)
run_over step finish end (bad_byte p) s = Err (ReadNo.BadByte p)
run_over step finish end (wide_number p) s = Err (ReadNo.WideNumber p)
run_over step finish end (next_token t bytes p more) s = then_run p (run_over step finish end more) (step t s)

-- The answer to a text, by its first refusal if it has one.
abbrev pub unless_refused : {A : Type 0} → Option ReadNo → Result A ReadNo → Result A ReadNo
unless_refused (Some why) r = Err why
unless_refused None r = r

-- The answer to a text from the state before its first token.
abbrev pub reading : {S A : Type 0} → (Token → S → Option S) → (S → Option A) → S → Text → Result A ReadNo
reading step finish start text = unless_refused (refused_first text) (run_over step finish (end_place text) (lexed text) start)

-- The answer is this one, or want of memory. The pure tree of its tree is given by `view`.
abbrev pub IsAnswer : {T A : Type 0} → (T → A) → Result A ReadNo → Result T ReadNo → Type 0
IsAnswer view r (Ok t) = r ≡ Ok (view t)
IsAnswer view r (Err ReadNo.NoMemory) = Unit {0}
IsAnswer view r (Err (ReadNo.BadByte p)) = r ≡ Err (ReadNo.BadByte p)
IsAnswer view r (Err (ReadNo.WideNumber p)) = r ≡ Err (ReadNo.WideNumber p)
IsAnswer view r (Err (ReadNo.Unsupported p)) = r ≡ Err (ReadNo.Unsupported p)
IsAnswer view r (Err (ReadNo.TooDeep p)) = r ≡ Err (ReadNo.TooDeep p)
IsAnswer view r (Err (ReadNo.Syntax p)) = r ≡ Err (ReadNo.Syntax p)

-- The answer to a text, or want of memory.
abbrev pub IsReading : {S T A : Type 0} → (Token → S → Option S) → (S → Option A) → S → (T → A) → Text → Result T ReadNo → Type 0
IsReading step finish start view text r = IsAnswer view (reading step finish start text) r

-- The answer where only some trees count: that of a tree that doesn't is a syntax error at the end.
abbrev pub narrowed : {A B : Type 0} → Place → (Option A → Option B) → Result A ReadNo → Result B ReadNo
narrowed end f (Ok a) = ended end (f (Some a))
narrowed end f (Err why) = Err why
