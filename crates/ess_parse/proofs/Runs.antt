-- Runs of machines over texts, and the laws of a machine from which the clauses of its reader follow.
use Rattle.std.proofs.Common.{◌≡◌, refl, sym, ap, ◌∙◌, ℕ, zero, suc, true, false, ◌⊎◌, inl, inr, List, [], ◌∷◌, ◌++◌, Option, Some, None, Ok, Err}
use Rattle.std.specs.Option.{option_map}
use Rattle.std.specs.declared.result.Result.{Result}
use Rattle.ess_rows.specs.declared.place.Place.{Place}
use Rattle.ess_grammar.specs.Words.{Token, Word, word}
use Rattle.ess_grammar.specs.Tokens.{Lexed, the_end, bad_byte, wide_number, next_token, tokens_in}
use Rattle.ess_parse_laws.specs.StatementEnds.{begins_statement}
use Rattle.ess_lex.specs.Lexing.{refusal}
use Rattle.ess_parse.specs.declared.refusal.ReadNo.{ReadNo}
use Rattle.ess_parse.specs.Readers.{first_tokens, token_behind}
use Rattle.ess_parse.specs.Runs.{ended, then_run, run_over, narrowed}
use Rattle.ess_parse.proofs.FirstRefusals.{is_first}

-- ---- runs over lists of tokens

-- What a run gives from a state, if there is one.
abbrev pub from_state : {S B : Type 0} → (S → Option B) → Option S → Option B
from_state k None = None
from_state k (Some s) = k s

-- The state behind these tokens. None: the machine has stopped at one of them.
abbrev pub state_behind : {S : Type 0} → (Token → S → Option S) → List Token → S → Option S
state_behind step [] s = Some s
state_behind step (t ∷ ts) s = from_state (state_behind step ts) (step t s)

-- The tree of these tokens, if there is one.
abbrev pub tree_of : {S A : Type 0} → (Token → S → Option S) → (S → Option A) → List Token → S → Option A
tree_of step finish [] s = finish s
tree_of step finish (t ∷ ts) s = from_state (tree_of step finish ts) (step t s)

-- The machine answers exactly what the rules derive, stops for good, and has a whole text before each word that begins a
-- statement.
pub record IsMachineFor {S A : Type 0} (step : Token → S → Option S) (finish : S → Option A) (start : S) (Derives : A → List Token → Type 0) : Type 0 where
  pub derives : (ts : List Token) (a : A) → tree_of step finish ts start ≡ Some a → Derives a ts
  pub reads : (ts : List Token) (a : A) → Derives a ts → tree_of step finish ts start ≡ Some a
  pub stops : (ts us : List Token) (a : A) → state_behind step ts start ≡ None → Derives a (ts ++ us) → ⊥
  pub whole : (ts us : List Token) (w : Word) (s : S) → begins_statement w ≡ true → state_behind step (ts ++ word w ∷ us) start ≡ Some s → (a : A) × Derives a ts

some-same : {S : Type 0} (s q : S) → Some s ≡ Some q → s ≡ q
some-same s q h = cc

from-more : {S : Type 0} (step : Token → S → Option S) (ts us : List Token) (q : S) (r : Option S) → from_state (state_behind step ts) r ≡ Some q →
    ((s : S) → state_behind step ts s ≡ Some q → state_behind step (ts ++ us) s ≡ state_behind step us q) → from_state (state_behind step (ts ++ us)) r ≡ state_behind step us q
from-more step ts us q None h f = cc
from-more step ts us q (Some s) h f = f s h

-- A run over two lists goes on with the second from the state behind the first.
pub behind-more : {S : Type 0} (step : Token → S → Option S) (ts us : List Token) (s q : S) → state_behind step ts s ≡ Some q → state_behind step (ts ++ us) s ≡ state_behind step us q
behind-more step [] us s q h = ap (state_behind step us) (some-same s q h)
behind-more step (t ∷ ts) us s q h = from-more step ts us q (step t s) h (λ r k. behind-more step ts us r q k)

-- ---- the tokens of a text

-- All tokens, up to the end or a refusal.
abbrev pub all_tokens : Lexed → List Token
all_tokens the_end = []
all_tokens (bad_byte p) = []
all_tokens (wide_number p) = []
all_tokens (next_token t bytes p more) = t ∷ all_tokens more

-- Where nothing is refused, these are the tokens.
pub all-these : (l : Lexed) → refusal l ≡ None → tokens_in l ≡ Some (all_tokens l)
all-these the_end h = refl
all-these (bad_byte p) h = cc
all-these (wide_number p) h = cc
all-these (next_token t bytes p more) h = ap (option_map (λ ts. t ∷ ts)) (all-these more h)

-- Nothing is refused, and these are the tokens.
pub record AreTokens (l : Lexed) (ts : List Token) : Type 0 where
  pub unrefused : refusal l ≡ None
  pub these : all_tokens l ≡ ts

these-behind : (t : Token) (more : Lexed) (o : Option (List Token)) (ts : List Token) → option_map (λ us. t ∷ us) o ≡ Some ts →
    ((us : List Token) → o ≡ Some us → AreTokens more us) → (refusal more ≡ None) × (t ∷ all_tokens more ≡ ts)
these-behind t more None ts h f = cc
these-behind t more (Some us) ts h f = let x = f us refl in (x.unrefused, ap (λ vs. t ∷ vs) x.these ∙ some-same (t ∷ us) ts h)

pub these-all : (l : Lexed) (ts : List Token) → tokens_in l ≡ Some ts → AreTokens l ts
these-all the_end ts h = record { unrefused = refl; these = some-same [] ts h }
these-all (bad_byte p) ts h = cc
these-all (wide_number p) ts h = cc
these-all (next_token t bytes p more) ts h = let x = these-behind t more (tokens_in more) ts h (λ us k. these-all more us k) in record { unrefused = x.0; these = x.1 }

-- ---- a run over a text that answers a tree

ended-ok : {A : Type 0} (end : Place) (o : Option A) (a : A) → ended end o ≡ Ok a → o ≡ Some a
ended-ok end None a h = cc
ended-ok end (Some b) a h = cc

then-ok : {S A : Type 0} (p : Place) (k : S → Result A ReadNo) (j : S → Option A) (a : A) (r : Option S) → then_run p k r ≡ Ok a → ((s : S) → k s ≡ Ok a → j s ≡ Some a) → from_state j r ≡ Some a
then-ok p k j a None h f = cc
then-ok p k j a (Some s) h f = f s h

-- It is the tree of all tokens.
pub ok-tree : {S A : Type 0} (step : Token → S → Option S) (finish : S → Option A) (end : Place) (l : Lexed) (s : S) (a : A) → refusal l ≡ None → run_over step finish end l s ≡ Ok a →
    tree_of step finish (all_tokens l) s ≡ Some a
ok-tree step finish end the_end s a u h = ended-ok end (finish s) a h
ok-tree step finish end (bad_byte p) s a u h = cc
ok-tree step finish end (wide_number p) s a u h = cc
ok-tree step finish end (next_token t bytes p more) s a u h =
    then-ok p (run_over step finish end more) (tree_of step finish (all_tokens more)) a (step t s) h (λ q k. ok-tree step finish end more q a u k)

some-then : {S A : Type 0} (p : Place) (k : S → Result A ReadNo) (j : S → Option A) (a : A) (r : Option S) → from_state j r ≡ Some a → ((s : S) → j s ≡ Some a → k s ≡ Ok a) → then_run p k r ≡ Ok a
some-then p k j a None h f = cc
some-then p k j a (Some s) h f = f s h

-- The tree of all tokens is answered.
pub tree-ok : {S A : Type 0} (step : Token → S → Option S) (finish : S → Option A) (end : Place) (l : Lexed) (s : S) (a : A) → refusal l ≡ None → tree_of step finish (all_tokens l) s ≡ Some a →
    run_over step finish end l s ≡ Ok a
tree-ok step finish end the_end s a u h = ap (ended end) h
tree-ok step finish end (bad_byte p) s a u h = cc
tree-ok step finish end (wide_number p) s a u h = cc
tree-ok step finish end (next_token t bytes p more) s a u h =
    some-then p (run_over step finish end more) (tree_of step finish (all_tokens more)) a (step t s) h (λ q k. tree-ok step finish end more q a u k)

-- ---- a run over a text that answers a refusal

-- The machine stops at a token at this place.
pub record StopsAt {S : Type 0} (step : Token → S → Option S) (l : Lexed) (s : S) (p : Place) : Type 0 where
  pub before : ℕ
  pub wrong : Token
  pub there : token_behind before l ≡ Some (wrong, p)
  pub state : S
  pub reached : state_behind step (first_tokens before l) s ≡ Some state
  pub stopped : step wrong state ≡ None

-- The machine goes over all tokens, and has no tree at the end.
pub record EndsShort {S A : Type 0} (step : Token → S → Option S) (finish : S → Option A) (end : Place) (l : Lexed) (s : S) (p : Place) : Type 0 where
  pub state : S
  pub reached : state_behind step (all_tokens l) s ≡ Some state
  pub unfinished : finish state ≡ None
  pub there : p ≡ end

ended-err : {S A : Type 0} (step : Token → S → Option S) (finish : S → Option A) (end : Place) (s : S) (p : Place) (o : Option A) → finish s ≡ o → ended end o ≡ Err (ReadNo.Syntax p) →
    EndsShort step finish end the_end s p
ended-err step finish end s p None e h = record { state = s; reached = refl; unfinished = e; there = cc }
ended-err step finish end s p (Some a) e h = cc

then-err : {S A : Type 0} (step : Token → S → Option S) (finish : S → Option A) (end : Place) (t : Token) (bytes : List ℕ) (at : Place) (more : Lexed) (s : S) (p : Place) (r : Option S) → step t s ≡ r →
    then_run at (run_over step finish end more) r ≡ Err (ReadNo.Syntax p) →
    ((q : S) → run_over step finish end more q ≡ Err (ReadNo.Syntax p) → StopsAt step more q p ⊎ EndsShort step finish end more q p) →
    StopsAt step (next_token t bytes at more) s p ⊎ EndsShort step finish end (next_token t bytes at more) s p
then-err {A = A} step finish end t bytes at more s p None e h f =
    let same : at ≡ p = cc in
    inl (record { before = zero; wrong = t; there = ap (λ q. Some (t, q)) same; state = s; reached = refl; stopped = e })
then-err step finish end t bytes at more s p (Some q) e h f =
    elim (f q h) [
      | inl x ↦ inl (record { before = suc x.before; wrong = x.wrong; there = x.there; state = x.state; reached = ap (from_state (state_behind step (first_tokens x.before more))) e ∙ x.reached; stopped = x.stopped })
      | inr x ↦ inr (record { state = x.state; reached = ap (from_state (state_behind step (all_tokens more))) e ∙ x.reached; unfinished = x.unfinished; there = x.there })
    ]

-- A syntax error is at the token at which the machine stops, or at the end.
pub err-place : {S A : Type 0} (step : Token → S → Option S) (finish : S → Option A) (end : Place) (l : Lexed) (s : S) (p : Place) → refusal l ≡ None → run_over step finish end l s ≡ Err (ReadNo.Syntax p) →
    StopsAt step l s p ⊎ EndsShort step finish end l s p
err-place step finish end the_end s p u h = inr (ended-err step finish end s p (finish s) refl h)
err-place step finish end (bad_byte q) s p u h = cc
err-place step finish end (wide_number q) s p u h = cc
err-place step finish end (next_token t bytes q more) s p u h =
    then-err step finish end t bytes q more s p (step t s) refl h (λ r k. err-place step finish end more r p u k)

ended-late : {A : Type 0} (end : Place) (o : Option A) (why : ReadNo) → ended end o ≡ Err why → is_first why ≡ false
ended-late end None why h = let k : ReadNo.Syntax end ≡ why = cc in ap is_first (sym k)
ended-late end (Some a) why h = cc

then-late : {S A : Type 0} (p : Place) (k : S → Result A ReadNo) (why : ReadNo) (r : Option S) → then_run p k r ≡ Err why → ((s : S) → k s ≡ Err why → is_first why ≡ false) → is_first why ≡ false
then-late p k why None h f = let e : ReadNo.Syntax p ≡ why = cc in ap is_first (sym e)
then-late p k why (Some s) h f = f s h

-- Where nothing is refused, it is a syntax error.
pub late : {S A : Type 0} (step : Token → S → Option S) (finish : S → Option A) (end : Place) (l : Lexed) (s : S) (why : ReadNo) → refusal l ≡ None → run_over step finish end l s ≡ Err why → is_first why ≡ false
late step finish end the_end s why u h = ended-late end (finish s) why h
late step finish end (bad_byte p) s why u h = cc
late step finish end (wide_number p) s why u h = cc
late step finish end (next_token t bytes p more) s why u h = then-late p (run_over step finish end more) why (step t s) h (λ q k. late step finish end more q why u k)

-- ---- tokens that no state takes

never-from : {S : Type 0} (step : Token → S → Option S) (s : S) (ts : List Token) (r : Option S) → from_state (state_behind step ts) r ≡ Some s → ((q : S) → state_behind step ts q ≡ Some s → ⊥) → ⊥
never-from step s ts None h f = cc
never-from step s ts (Some q) h f = f q h

-- Where no state takes the token, no run goes past it.
pub never-behind : {S : Type 0} (step : Token → S → Option S) (t : Token) → ((s : S) → step t s ≡ None) → (ts us : List Token) (q s : S) → state_behind step (ts ++ t ∷ us) q ≡ Some s → ⊥
never-behind step t n [] us q s h = let k : None ≡ Some s = sym (ap (from_state (state_behind step us)) (n q)) ∙ h in cc
never-behind step t n (u ∷ ts) us q s h = never-from step s (ts ++ t ∷ us) (step u q) h (λ r k. never-behind step t n ts us r s k)

-- ---- runs where only some trees count

ended-narrowed : {A B : Type 0} (end : Place) (f : Option A → Option B) → f None ≡ None → (o : Option A) → ended end (f o) ≡ narrowed end f (ended end o)
ended-narrowed end f n None = ap (ended end) n
ended-narrowed end f n (Some a) = refl

then-narrowed : {S A B : Type 0} (end p : Place) (f : Option A → Option B) (j : S → Result B ReadNo) (k : S → Result A ReadNo) → ((s : S) → j s ≡ narrowed end f (k s)) → (r : Option S) →
    then_run p j r ≡ narrowed end f (then_run p k r)
then-narrowed end p f j k h None = refl
then-narrowed end p f j k h (Some s) = h s

-- The run that counts only some trees, from the run that counts all.
pub run-narrowed : {S A B : Type 0} (step : Token → S → Option S) (finish : S → Option A) (f : Option A → Option B) → f None ≡ None → (end : Place) (l : Lexed) (s : S) →
    run_over step (λ q. f (finish q)) end l s ≡ narrowed end f (run_over step finish end l s)
run-narrowed step finish f n end the_end s = ended-narrowed end f n (finish s)
run-narrowed step finish f n end (bad_byte p) s = refl
run-narrowed step finish f n end (wide_number p) s = refl
run-narrowed step finish f n end (next_token t bytes p more) s =
    then-narrowed end p f (run_over step (λ q. f (finish q)) end more) (run_over step finish end more) (run-narrowed step finish f n end more) (step t s)
