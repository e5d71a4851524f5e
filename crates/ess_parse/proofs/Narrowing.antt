-- Answers of readers that count only some trees of the parser.
use Rattle.std.proofs.Common.{◌≡◌, sym, ap, ◌∙◌, subst, Option, Some, None, Ok, Err}
use Rattle.std.specs.Result.{IsErrAnd}
use Rattle.std.specs.declared.result.Result.{Result}
use Rattle.ess_rows.specs.declared.place.Place.{Place}
use Rattle.ess_semantics.specs.Values.{Text}
use Rattle.ess_grammar.specs.Tokens.{lexed}
use Rattle.ess_grammar.specs.Places.{end_place}
use Rattle.ess_parse_laws.specs.Modes.{Answer, State}
use Rattle.ess_parse.specs.declared.refusal.ReadNo.{ReadNo}
use Rattle.ess_parse.specs.Refusals.{refused_first}
use Rattle.ess_parse.specs.Runs.{ended, run_over, unless_refused, reading, IsAnswer, narrowed}
use Rattle.ess_parse.specs.Machines.{step_state, finish_state}
use Rattle.ess_parse.proofs.Runs.{run-narrowed}

-- A text that isn't refused first: the answer of a narrower run, from that of the run of the parser from this state.
pub reading-narrowed : {A : Type 0} (f : Option Answer → Option A) → f None ≡ None → (text : Text) (start s : State) → refused_first text ≡ None → s ≡ start →
    reading step_state (λ q. f (finish_state q)) start text ≡ narrowed (end_place text) f (run_over step_state finish_state (end_place text) (lexed text) s)
reading-narrowed f n text start s h e =
    ap (λ o. unless_refused o (run_over step_state (λ q. f (finish_state q)) (end_place text) (lexed text) start)) h
    ∙ run-narrowed step_state finish_state f n (end_place text) (lexed text) start
    ∙ ap (λ q. narrowed (end_place text) f (run_over step_state finish_state (end_place text) (lexed text) q)) (sym e)

-- A refusal stays.
pub narrowed-err : {A B T U : Type 0} (view : T → A) (view' : U → B) (f : Option A → Option B) (end : Place) (x : Result A ReadNo) (y : Result B ReadNo) → y ≡ narrowed end f x → (why : ReadNo) →
    IsAnswer view x (Err why) → IsAnswer view' y (Err why)
narrowed-err view view' f end x y e ReadNo.NoMemory h = tt
narrowed-err view view' f end x y e (ReadNo.BadByte p) h = e ∙ ap (narrowed end f) h
narrowed-err view view' f end x y e (ReadNo.WideNumber p) h = e ∙ ap (narrowed end f) h
narrowed-err view view' f end x y e (ReadNo.Unsupported p) h = e ∙ ap (narrowed end f) h
narrowed-err view view' f end x y e (ReadNo.TooDeep p) h = e ∙ ap (narrowed end f) h
narrowed-err view view' f end x y e (ReadNo.Syntax p) h = e ∙ ap (narrowed end f) h

-- A tree stays, or is a syntax error at the end.
pub narrowed-ok : {A B : Type 0} (f : Option A → Option B) (end : Place) (x : Result A ReadNo) (y : Result B ReadNo) → y ≡ narrowed end f x → (a : A) (o : Option B) → x ≡ Ok a → f (Some a) ≡ o → y ≡ ended end o
narrowed-ok f end x y e a o h k = e ∙ ap (narrowed end f) h ∙ ap (ended end) k

-- The same of what `?` makes of the refusal.
pub residual : {A B T U : Type 0} (view : T → A) (view' : U → B) (f : Option A → Option B) (end : Place) (x : Result A ReadNo) (y : Result B ReadNo) → y ≡ narrowed end f x → (why : ReadNo) →
    IsAnswer view x (Err why) → (r : Result U ReadNo) → IsErrAnd r (λ other. other ≡ why) → IsAnswer view' y r
residual view view' f end x y e why h (Ok u) k = absurd k
residual view view' f end x y e why h (Err other) k = narrowed-err view view' f end x y e other (subst (λ w. IsAnswer view x (Err w)) (sym k) h)
