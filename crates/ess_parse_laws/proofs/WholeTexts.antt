-- Runs in two parts, and what stands before words that begin statements.
use Rattle.std.proofs.Common.{◌≡◌, refl, sym, ap, ◌∙◌, subst, Bool, true, false, ◌&&◌, List, [], ◌∷◌, ◌++◌, Option, Some, None}
use Rattle.ess_semantics.specs.Trees.{Stm}
use Rattle.ess_grammar.specs.Words.{Token, Word, word}
use Rattle.ess_grammar.specs.Statements.{IsSpecification, IsLettingsFile}
use Rattle.ess_parse_laws.specs.Frames.{Frame}
use Rattle.ess_parse_laws.specs.Modes.{Mode, State, nothing_read}
use Rattle.ess_parse_laws.specs.StatementEnds.{begins_statement}
use Rattle.ess_parse_laws.specs.Machine.{step, finish, then_run, run, then_state_after, state_after}
use Rattle.ess_parse_laws.specs.Lettings.{is_type_word, may_stand, all_may_stand, lettings_step, lettings_state_after}
use Rattle.ess_parse_laws.proofs.Booleans.{by_bool}
use Rattle.ess_parse_laws.proofs.BeforeStatements.{before-statement}
use Rattle.ess_parse_laws.proofs.Sound.{IsSound, sound-specification}
use Rattle.ess_parse_laws.proofs.LettingsRuns.{step-stands, step-stops, specification-lettings}

-- The state behind the first of two lists, from which the second goes on to the state q.
pub record Between (ts us : List Token) (m : Mode) (fs : List Frame) (q : State) : Type 0 where
  pub state : State
  pub before : state_after ts m fs ≡ Some state
  pub behind : state_after us state.mode state.frames ≡ Some q

from-some : {B : Type 0} (r q : State) (f : State → B) → Some r ≡ Some q → f r ≡ f q
from-some r q f h = cc

-- ---- a run in two parts

then-reaches : (ts us : List Token) (q : State) (r : Option State) → then_state_after r (state_after (ts ++ us)) ≡ Some q →
    ((m : Mode) (fs : List Frame) → state_after (ts ++ us) m fs ≡ Some q → Between ts us m fs q) → (p : State) × (then_state_after r (state_after ts) ≡ Some p) × (state_after us p.mode p.frames ≡ Some q)
then-reaches ts us q None h f = cc
then-reaches ts us q (Some r) h f = let b = f r.mode r.frames h in (b.state, b.before, b.behind)

-- Where a run goes over two lists, it goes over the first.
pub between : (ts us : List Token) (m : Mode) (fs : List Frame) (q : State) → state_after (ts ++ us) m fs ≡ Some q → Between ts us m fs q
between [] us m fs q h = record { state = record { mode = m; frames = fs }; before = refl; behind = h }
between (t ∷ ts) us m fs q h =
    let b = then-reaches ts us q (step t m fs) h (λ n gs k. between ts us n gs q k) in record { state = b.0; before = b.1; behind = b.2 }

then-goes-on : (ts us : List Token) (q : State) (r : Option State) → then_state_after r (state_after ts) ≡ Some q →
    ((m : Mode) (fs : List Frame) → state_after ts m fs ≡ Some q → run (ts ++ us) m fs ≡ run us q.mode q.frames) → then_run r (run (ts ++ us)) ≡ run us q.mode q.frames
then-goes-on ts us q None h f = cc
then-goes-on ts us q (Some r) h f = f r.mode r.frames h

-- A run over two lists goes on with the second from the state behind the first.
pub run-goes-on : (ts us : List Token) (m : Mode) (fs : List Frame) (q : State) → state_after ts m fs ≡ Some q → run (ts ++ us) m fs ≡ run us q.mode q.frames
run-goes-on [] us m fs q h = from-some (record { mode = m; frames = fs }) q (λ r. run us r.mode r.frames) h
run-goes-on (t ∷ ts) us m fs q h = then-goes-on ts us q (step t m fs) h (λ n gs k. run-goes-on ts us n gs q k)

then-state-goes-on : (ts us : List Token) (q : State) (r : Option State) → then_state_after r (state_after ts) ≡ Some q →
    ((m : Mode) (fs : List Frame) → state_after ts m fs ≡ Some q → state_after (ts ++ us) m fs ≡ state_after us q.mode q.frames) →
    then_state_after r (state_after (ts ++ us)) ≡ state_after us q.mode q.frames
then-state-goes-on ts us q None h f = cc
then-state-goes-on ts us q (Some r) h f = f r.mode r.frames h

-- The same of the state behind both.
pub state-goes-on : (ts us : List Token) (m : Mode) (fs : List Frame) (q : State) → state_after ts m fs ≡ Some q → state_after (ts ++ us) m fs ≡ state_after us q.mode q.frames
state-goes-on [] us m fs q h = from-some (record { mode = m; frames = fs }) q (λ r. state_after us r.mode r.frames) h
state-goes-on (t ∷ ts) us m fs q h = then-state-goes-on ts us q (step t m fs) h (λ n gs k. state-goes-on ts us n gs q k)

then-ends : (ts : List Token) (q : State) (r : Option State) → then_state_after r (state_after ts) ≡ Some q →
    ((m : Mode) (fs : List Frame) → state_after ts m fs ≡ Some q → run ts m fs ≡ finish q.mode q.frames) → then_run r (run ts) ≡ finish q.mode q.frames
then-ends ts q None h f = cc
then-ends ts q (Some r) h f = f r.mode r.frames h

-- A run answers what stands at its end.
pub run-ends : (ts : List Token) (m : Mode) (fs : List Frame) (q : State) → state_after ts m fs ≡ Some q → run ts m fs ≡ finish q.mode q.frames
run-ends [] m fs q h = from-some (record { mode = m; frames = fs }) q (λ r. finish r.mode r.frames) h
run-ends (t ∷ ts) m fs q h = then-ends ts q (step t m fs) h (λ n gs k. run-ends ts n gs q k)

-- ---- before words that begin statements

taken : (us : List Token) (q : State) (r : Option State) → then_state_after r (state_after us) ≡ Some q → (p : State) × (r ≡ Some p)
taken us q None h = cc
taken us q (Some r) h = (r, refl)

-- Before a word that begins a statement, where the machine has gone past it, stands a whole specification.
pub whole-specification : (ts us : List Token) (w : Word) (q : State) → begins_statement w ≡ true → state_after (ts ++ word w ∷ us) nothing_read [] ≡ Some q → (ss : List Stm) × IsSpecification ss ts
whole-specification ts us w q h k =
    let b = between ts (word w ∷ us) nothing_read [] q k in
    let p = taken us q (step (word w) (b.state).mode (b.state).frames) b.behind in
    let x = before-statement w h (b.state).mode (b.state).frames p.0 p.1 in
    (x.0, subst (λ r. IsSound ts r) (run-ends ts nothing_read [] b.state b.before ∙ x.1) (sound-specification ts))

-- ---- the same of lettings

then-reached : (ts : List Token) (b : Bool) (q : State) (r : Option State) → then_state_after r (lettings_state_after b ts) ≡ Some q →
    ((m : Mode) (fs : List Frame) → lettings_state_after b ts m fs ≡ Some q → (all_may_stand b ts ≡ true) × (state_after ts m fs ≡ Some q)) →
    (all_may_stand b ts ≡ true) × (then_state_after r (state_after ts) ≡ Some q)
then-reached ts b q None h f = cc
then-reached ts b q (Some r) h f = f r.mode r.frames h

no-state : (ts : List Token) (b : Bool) (q : State) (r : Option State) → r ≡ None → then_state_after r (lettings_state_after b ts) ≡ Some q → ⊥
no-state ts b q None h k = cc
no-state ts b q (Some r) h k = cc

-- Where the reader of lettings has gone over tokens, all may stand and the machine has gone over them.
reached : (b : Bool) (ts : List Token) (m : Mode) (fs : List Frame) (q : State) → lettings_state_after b ts m fs ≡ Some q → (all_may_stand b ts ≡ true) × (state_after ts m fs ≡ Some q)
reached b [] m fs q h = (refl, h)
reached b (t ∷ ts) m fs q h =
    by_bool (may_stand b t)
    (λ k. let x = then-reached ts (is_type_word t) q (step t m fs) (sym (ap (λ r. then_state_after r (lettings_state_after (is_type_word t) ts)) (step-stands b t m fs k)) ∙ h) (λ n gs p. reached (is_type_word t) ts n gs q p) in
    (ap (λ c. c && all_may_stand (is_type_word t) ts) k ∙ x.0, x.1))
    (λ k. absurd (no-state ts (is_type_word t) q (lettings_step b t m fs) (step-stops b t m fs k) h))

front : (c a b : Bool) → (c && a) ≡ true → (a ≡ true → b ≡ true) → (c && b) ≡ true
front true a b h f = f h
front false a b h f = cc

front-stands : (b : Bool) (ts us : List Token) → all_may_stand b (ts ++ us) ≡ true → all_may_stand b ts ≡ true
front-stands b [] us h = refl
front-stands b (t ∷ ts) us h = front (may_stand b t) (all_may_stand (is_type_word t) (ts ++ us)) (all_may_stand (is_type_word t) ts) h (λ k. front-stands (is_type_word t) ts us k)

-- Before a word that begins a statement, where the reader has gone past it, stands a whole file of lettings.
pub whole-file : (ts us : List Token) (w : Word) (q : State) → begins_statement w ≡ true → lettings_state_after false (ts ++ word w ∷ us) nothing_read [] ≡ Some q → (ss : List Stm) × IsLettingsFile ss ts
whole-file ts us w q h k =
    let x = reached false (ts ++ word w ∷ us) nothing_read [] q k in
    let s = whole-specification ts us w q h x.1 in
    (s.0, specification-lettings s.1 (front-stands false ts (word w ∷ us) x.0))
