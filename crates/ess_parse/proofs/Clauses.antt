-- The clauses of a reader that runs a machine, from the laws of the machine.
use Rattle.std.proofs.Common.{◌≡◌, refl, sym, ap, ◌∙◌, subst, true, false, inl, inr, List, [], ◌∷◌, ◌++◌, append_assoc, Option, Some, None, Ok, Err}
use Rattle.std.specs.declared.result.Result.{Result}
use Rattle.ess_rows.specs.declared.place.Place.{Place}
use Rattle.ess_semantics.specs.Values.{Text}
use Rattle.ess_grammar.specs.Words.{Token}
use Rattle.ess_grammar.specs.Tokens.{lexed, tokens, first_outside}
use Rattle.ess_grammar.specs.Load.{too_deep}
use Rattle.ess_grammar.specs.Places.{end_place}
use Rattle.ess_grammar.specs.Texts.{Reads, IsWithinLimits}
use Rattle.ess_lex.specs.Lexing.{refusal}
use Rattle.ess_parse.specs.declared.refusal.ReadNo.{ReadNo}
use Rattle.ess_parse.specs.Refusals.{refused_first}
use Rattle.ess_parse.specs.Readers.{first_tokens, IsWholeBeforeStatements, IsWrongToken, IsCutShort, IsRefusedFirst, IsDerived, IsThisTree, IsAnswered, IsUnread, IsPlaced}
use Rattle.ess_parse.specs.Runs.{run_over, unless_refused, reading, IsAnswer, IsReading}
use Rattle.ess_parse.proofs.FirstRefusals.{is_first, none-first, first-none, some-first}
use Rattle.ess_parse.proofs.Runs.{from_state, state_behind, tree_of, IsMachineFor, behind-more, all_tokens, all-these, these-all, ok-tree, tree-ok, StopsAt, EndsShort, err-place, late}

-- ---- the answer and the first refusal

-- The text isn't refused first, and this is the answer of its run.
record Passed {A : Type 0} (o : Option ReadNo) (x : Result A ReadNo) (r : Result A ReadNo) : Type 0 where
  passed : o ≡ None
  answered : x ≡ r

ok-passed : {A : Type 0} (o : Option ReadNo) (x : Result A ReadNo) (a : A) → unless_refused o x ≡ Ok a → Passed o x (Ok a)
ok-passed None x a h = record { passed = refl; answered = h }
ok-passed (Some why) x a h = cc

err-passed : {A : Type 0} (o : Option ReadNo) (x : Result A ReadNo) (why : ReadNo) → unless_refused o x ≡ Err why → is_first why ≡ false → ((w : ReadNo) → o ≡ Some w → is_first w ≡ true) → Passed o x (Err why)
err-passed None x why h n f = record { passed = refl; answered = h }
err-passed {A = A} (Some w) x why h n f = let e : w ≡ why = cc in let k : is_first why ≡ true = ap is_first (sym e) ∙ f w refl in cc

err-refused : {A : Type 0} (o : Option ReadNo) (x : Result A ReadNo) (why : ReadNo) → unless_refused o x ≡ Err why → is_first why ≡ true → (o ≡ None → x ≡ Err why → is_first why ≡ false) → o ≡ Some why
err-refused None x why h n f = let k = f refl h in cc
err-refused (Some w) x why h n f = cc

-- What holds of a text that isn't refused first.
record IsFree (text : Text) : Type 0 where
  unrefused : refusal (lexed text) ≡ None
  inside : first_outside (lexed text) ≡ None
  shallow : too_deep (lexed text) ≡ None

free : (text : Text) → refused_first text ≡ None → IsFree text
free text h = let x = none-first (refusal (lexed text)) (first_outside (lexed text)) (too_deep (lexed text)) h in record { unrefused = x.0; inside = x.1; shallow = x.2 }

refused-is : (text : Text) (why : ReadNo) → refused_first text ≡ Some why → is_first why ≡ true
refused-is text why h = some-first (refusal (lexed text)) (first_outside (lexed text)) (too_deep (lexed text)) why h

-- The tokens of such a text.
free-tokens : (text : Text) → refused_first text ≡ None → tokens text ≡ Some (all_tokens (lexed text))
free-tokens text h = all-these (lexed text) (free text h).unrefused

-- ---- the clauses

reading-refused : {S A : Type 0} (step : Token → S → Option S) (finish : S → Option A) (start : S) (text : Text) (why : ReadNo) → reading step finish start text ≡ Err why → is_first why ≡ true → refused_first text ≡ Some why
reading-refused step finish start text why h f =
    err-refused (refused_first text) (run_over step finish (end_place text) (lexed text) start) why h f
    (λ n k. late step finish (end_place text) (lexed text) start why (free text n).unrefused k)

reading-passed : {S A : Type 0} (step : Token → S → Option S) (finish : S → Option A) (start : S) (text : Text) (p : Place) → reading step finish start text ≡ Err (ReadNo.Syntax p) →
    Passed (refused_first text) (run_over step finish (end_place text) (lexed text) start) (Err (ReadNo.Syntax p))
reading-passed step finish start text p h =
    err-passed (refused_first text) (run_over step finish (end_place text) (lexed text) start) (ReadNo.Syntax p) h refl (λ w k. refused-is text w k)

-- The first four refusals.
pub refused : {S A T : Type 0} (step : Token → S → Option S) (finish : S → Option A) (start : S) (view : T → A) (text : Text) (r : Result T ReadNo) → IsReading step finish start view text r → IsRefusedFirst text r
refused step finish start view text (Ok t) h = (ok-passed (refused_first text) (run_over step finish (end_place text) (lexed text) start) (view t) h).passed
refused step finish start view text (Err (ReadNo.Syntax p)) h = (reading-passed step finish start text p h).passed
refused step finish start view text (Err ReadNo.NoMemory) h = tt
refused step finish start view text (Err (ReadNo.BadByte p)) h = reading-refused step finish start text (ReadNo.BadByte p) h refl
refused step finish start view text (Err (ReadNo.WideNumber p)) h = reading-refused step finish start text (ReadNo.WideNumber p) h refl
refused step finish start view text (Err (ReadNo.Unsupported p)) h = reading-refused step finish start text (ReadNo.Unsupported p) h refl
refused step finish start view text (Err (ReadNo.TooDeep p)) h = reading-refused step finish start text (ReadNo.TooDeep p) h refl

-- A tree that is answered is derived.
pub derived : {S A T : Type 0} (step : Token → S → Option S) (finish : S → Option A) (start : S) (Derives : A → List Token → Type 0) → IsMachineFor step finish start Derives →
    (view : T → A) (text : Text) (r : Result T ReadNo) → IsReading step finish start view text r → IsDerived Derives view text r
derived step finish start Derives laws view text (Ok t) h =
    let x = ok-passed (refused_first text) (run_over step finish (end_place text) (lexed text) start) (view t) h in (
      all_tokens (lexed text),
      free-tokens text x.passed,
      laws.derives (all_tokens (lexed text)) (view t) (ok-tree step finish (end_place text) (lexed text) start (view t) (free text x.passed).unrefused x.answered),
    )
derived step finish start Derives laws view text (Err why) h = tt

-- The run over a text that is derived.
run-derived : {S A : Type 0} (step : Token → S → Option S) (finish : S → Option A) (start : S) (Derives : A → List Token → Type 0) → IsMachineFor step finish start Derives →
    (text : Text) (a : A) → Reads text (Derives a) → (refusal (lexed text) ≡ None) × (run_over step finish (end_place text) (lexed text) start ≡ Ok a)
run-derived step finish start Derives laws text a d =
    let x = these-all (lexed text) d.0 d.1 in
    (x.unrefused, tree-ok step finish (end_place text) (lexed text) start a x.unrefused (ap (λ ts. tree_of step finish ts start) x.these ∙ laws.reads d.0 a d.2))

-- The answer to a text that is derived.
reading-derived : {S A : Type 0} (step : Token → S → Option S) (finish : S → Option A) (start : S) (Derives : A → List Token → Type 0) → IsMachineFor step finish start Derives →
    (text : Text) (a : A) → Reads text (Derives a) → IsWithinLimits text → reading step finish start text ≡ Ok a
reading-derived step finish start Derives laws text a d w =
    let x = run-derived step finish start Derives laws text a d in
    ap (λ o. unless_refused o (run_over step finish (end_place text) (lexed text) start)) (first-none (refusal (lexed text)) (first_outside (lexed text)) (too_deep (lexed text)) x.0 w.0 w.1)
    ∙ x.1

this-tree : {A T : Type 0} (view : T → A) (x : Result A ReadNo) (a : A) (r : Result T ReadNo) → x ≡ Ok a → IsAnswer view x r → IsThisTree view a r
this-tree view x a (Ok t) e h = cc
this-tree view x a (Err ReadNo.NoMemory) e h = tt
this-tree view x a (Err (ReadNo.Syntax p)) e h = cc
this-tree view x a (Err (ReadNo.BadByte p)) e h = cc
this-tree view x a (Err (ReadNo.WideNumber p)) e h = cc
this-tree view x a (Err (ReadNo.Unsupported p)) e h = cc
this-tree view x a (Err (ReadNo.TooDeep p)) e h = cc

-- A tree that is derived is answered.
pub answered : {S A T : Type 0} (step : Token → S → Option S) (finish : S → Option A) (start : S) (Derives : A → List Token → Type 0) → IsMachineFor step finish start Derives →
    (view : T → A) (text : Text) (r : Result T ReadNo) → IsReading step finish start view text r → IsAnswered Derives view text r
answered step finish start Derives laws view text r h a d w = this-tree view (reading step finish start text) a r (reading-derived step finish start Derives laws text a d w) h

-- A syntax error comes only where no tree is derived.
pub unread : {S A T : Type 0} (step : Token → S → Option S) (finish : S → Option A) (start : S) (Derives : A → List Token → Type 0) → IsMachineFor step finish start Derives →
    (view : T → A) (text : Text) (r : Result T ReadNo) → IsReading step finish start view text r → IsUnread Derives text r
unread step finish start Derives laws view text (Err (ReadNo.Syntax p)) h =
    λ a d. let x = reading-passed step finish start text p h in let y = run-derived step finish start Derives laws text a d in let k : Err (ReadNo.Syntax p) ≡ Ok a = sym x.answered ∙ y.1 in cc
unread step finish start Derives laws view text (Ok t) h = tt
unread step finish start Derives laws view text (Err ReadNo.NoMemory) h = tt
unread step finish start Derives laws view text (Err (ReadNo.BadByte p)) h = tt
unread step finish start Derives laws view text (Err (ReadNo.WideNumber p)) h = tt
unread step finish start Derives laws view text (Err (ReadNo.Unsupported p)) h = tt
unread step finish start Derives laws view text (Err (ReadNo.TooDeep p)) h = tt

-- ---- places

whole-before : {S A : Type 0} (step : Token → S → Option S) (finish : S → Option A) (start : S) (Derives : A → List Token → Type 0) → IsMachineFor step finish start Derives →
    (ts : List Token) (s : S) → state_behind step ts start ≡ Some s → IsWholeBeforeStatements Derives ts
whole-before step finish start Derives laws ts s h xs ys w e b = laws.whole xs ys w s b (ap (λ us. state_behind step us start) (sym e) ∙ h)

wrong-token : {S A : Type 0} (step : Token → S → Option S) (finish : S → Option A) (start : S) (Derives : A → List Token → Type 0) → IsMachineFor step finish start Derives →
    (text : Text) (p : Place) → StopsAt step (lexed text) start p → IsWrongToken Derives text p
wrong-token step finish start Derives laws text p x =
    let ts = first_tokens x.before (lexed text) in
    let stopped : state_behind step (ts ++ x.wrong ∷ []) start ≡ None = behind-more step ts (x.wrong ∷ []) start x.state x.reached ∙ ap (from_state (state_behind step [])) x.stopped in
    record {
      before = x.before;
      wrong = x.wrong;
      there = x.there;
      for_good = λ a us d. laws.stops (ts ++ x.wrong ∷ []) us a stopped (subst (λ vs. Derives a vs) (sym (append_assoc ts (x.wrong ∷ []) us)) d);
      whole = whole-before step finish start Derives laws ts x.state x.reached;
    }

cut-short : {S A : Type 0} (step : Token → S → Option S) (finish : S → Option A) (start : S) (Derives : A → List Token → Type 0) → IsMachineFor step finish start Derives →
    (text : Text) (p : Place) → tokens text ≡ Some (all_tokens (lexed text)) → ((a : A) → Reads text (Derives a) → ⊥) → EndsShort step finish (end_place text) (lexed text) start p → IsCutShort Derives text p
cut-short step finish start Derives laws text p these not x =
    record {
      all = all_tokens (lexed text);
      these = these;
      there = x.there;
      unread = λ a d. not a (all_tokens (lexed text), these, d);
      whole = whole-before step finish start Derives laws (all_tokens (lexed text)) x.state x.reached;
    }

-- The place of a syntax error.
pub placed : {S A T : Type 0} (step : Token → S → Option S) (finish : S → Option A) (start : S) (Derives : A → List Token → Type 0) → IsMachineFor step finish start Derives →
    (view : T → A) (text : Text) (r : Result T ReadNo) → IsReading step finish start view text r → IsPlaced Derives text r
placed step finish start Derives laws view text (Err (ReadNo.Syntax p)) h =
    let x = reading-passed step finish start text p h in
    elim (err-place step finish (end_place text) (lexed text) start p (free text x.passed).unrefused x.answered) [
      | inl y ↦ inl (wrong-token step finish start Derives laws text p y)
      | inr y ↦ inr (cut-short step finish start Derives laws text p (free-tokens text x.passed) (unread step finish start Derives laws view text (Err (ReadNo.Syntax p)) h) y)
    ]
placed step finish start Derives laws view text (Ok t) h = tt
placed step finish start Derives laws view text (Err ReadNo.NoMemory) h = tt
placed step finish start Derives laws view text (Err (ReadNo.BadByte p)) h = tt
placed step finish start Derives laws view text (Err (ReadNo.WideNumber p)) h = tt
placed step finish start Derives laws view text (Err (ReadNo.Unsupported p)) h = tt
placed step finish start Derives laws view text (Err (ReadNo.TooDeep p)) h = tt
