-- Runs over one part: the machine goes as that of specifications does, up to the next word that begins a statement.
use Rattle.std.proofs.Common.{◌≡◌, refl, ap, ◌∙◌, Bool, true, false, not, List, [], ◌∷◌, ◌++◌, Option, Some, None}
use Rattle.ess_semantics.specs.Trees.{Stm}
use Rattle.ess_semantics.specs.ModelTrees.{Model}
use Rattle.ess_grammar.specs.Words.{Token, number, name, prime_word, word, operator, function, symbol, Word}
use Rattle.ess_parse_laws.specs.Frames.{Frame}
use Rattle.ess_parse_laws.specs.Modes.{Mode, State, Answer, specification_answer}
use Rattle.ess_parse_laws.specs.StatementEnds.{begins_statement, begin_statement}
use Rattle.ess_parse_laws.specs.Machine.{step, finish, then_run, run, then_state_after, state_after}
use Rattle.ess_parse_laws.proofs.Booleans.{and-left, and-right}
use Rattle.eprime_read_laws.proofs.PlainTokens.{is_plain, all_plain}
use Rattle.eprime_read_laws.specs.ModelMachine.{Stage, in_part, with_part, part_ended, may_follow, in_state, begin_part, statement_word, part_step, model_step, then_model, model_run}

-- ---- a run and the state behind it

-- The state behind the tokens, where a run over them answers.
record Behind (ts : List Token) (m : Mode) (fs : List Frame) (a : Answer) : Type 0 where
  state : State
  reached : state_after ts m fs ≡ Some state
  answers : finish state.mode state.frames ≡ Some a

then-behind : (ts : List Token) (a : Answer) (r : Option State) → then_run r (run ts) ≡ Some a → ((m : Mode) (fs : List Frame) → run ts m fs ≡ Some a → Behind ts m fs a) →
    (q : State) × (then_state_after r (state_after ts) ≡ Some q) × (finish q.mode q.frames ≡ Some a)
then-behind ts a None h f = cc
then-behind ts a (Some r) h f = let b = f r.mode r.frames h in (b.state, b.reached, b.answers)

behind-run : (ts : List Token) (m : Mode) (fs : List Frame) (a : Answer) → run ts m fs ≡ Some a → Behind ts m fs a
behind-run [] m fs a h = record { state = record { mode = m; frames = fs }; reached = refl; answers = h }
behind-run (t ∷ ts) m fs a h = let b = then-behind ts a (step t m fs) h (λ n gs k. behind-run ts n gs a k) in record { state = b.0; reached = b.1; answers = b.2 }

-- ---- tokens of one part

-- The word, where the test holds.
abbrev word_if : Bool → Word → Option Word
word_if true w = Some w
word_if false w = None

plain-word : (w : Word) (b : Bool) → not b ≡ true → word_if b w ≡ None
plain-word w true h = cc
plain-word w false h = refl

word-alike : (w : Word) (b : Bool) → elim b as (λ c. Option Word) [ true ↦ Some w | false ↦ None ] ≡ word_if b w
word-alike w true = refl
word-alike w false = refl

plain-none : (t : Token) → is_plain t ≡ true → statement_word t ≡ None
plain-none (word w) h = word-alike w (begins_statement w) ∙ plain-word w (begins_statement w) h
plain-none (number n) h = refl
plain-none (name a) h = refl
plain-none prime_word h = refl
plain-none (operator o) h = refl
plain-none (function f) h = refl
plain-none (symbol c) h = refl

from-some : {X : Type 0} (r q : State) (f : State → X) → Some r ≡ Some q → f r ≡ f q
from-some r q f h = cc

then-goes-on : (x : Word) (k : Model) (us : List Token) (ts : List Token) (q : State) (r : Option State) → then_state_after r (state_after ts) ≡ Some q →
    ((m : Mode) (fs : List Frame) → state_after ts m fs ≡ Some q → model_run (ts ++ us) (in_part x k m fs) ≡ model_run us (in_part x k q.mode q.frames)) →
    then_model (in_state x k r) (model_run (ts ++ us)) ≡ model_run us (in_part x k q.mode q.frames)
then-goes-on x k us ts q None h f = cc
then-goes-on x k us ts q (Some r) h f = f r.mode r.frames h

-- Over tokens that begin no statement the machine goes as the one inside it.
plain-run : (x : Word) (k : Model) (us ts : List Token) (m : Mode) (fs : List Frame) (q : State) → all_plain ts ≡ true → state_after ts m fs ≡ Some q →
    model_run (ts ++ us) (in_part x k m fs) ≡ model_run us (in_part x k q.mode q.frames)
plain-run x k us [] m fs q p h = from-some (record { mode = m; frames = fs }) q (λ r. model_run us (in_part x k r.mode r.frames)) h
plain-run x k us (t ∷ ts) m fs q p h =
    ap (λ o. then_model (part_step t o x k m fs) (model_run (ts ++ us))) (plain-none t (and-left (is_plain t) (all_plain ts) p))
    ∙ then-goes-on x k us ts q (step t m fs) h (λ n gs j. plain-run x k us ts n gs q (and-right (is_plain t) (all_plain ts) p) j)

-- ---- the next part

-- At this stage a part of the word x ends, and with it the model is m.
pub record Ended (x : Word) (m : Model) (s : Stage) : Type 0 where
  pub before : Model
  pub mode : Mode
  pub frames : List Frame
  pub is : s ≡ in_part x before mode frames
  pub ended : part_ended x before (finish mode frames) ≡ Some m

part-begins : (x w : Word) (k m : Model) (i : Mode) (fs : List Frame) → begins_statement w ≡ true → may_follow x w ≡ true → part_ended x k (finish i fs) ≡ Some m →
    model_step (word w) (in_part x k i fs) ≡ in_state w m (begin_statement w [])
part-begins x w k m i fs b f e =
    ap (λ b. part_step (word w) (elim b [ true ↦ Some w | false ↦ None ]) x k i fs) b
    ∙ ap (begin_part x w) e
    ∙ ap (λ b. elim b [ true ↦ in_state w m (begin_statement w []) | false ↦ None ]) f

-- The run over a part with the tokens us behind it, from the stage s.
pub record PartRun (w : Word) (n : Model) (ts us : List Token) (s : Stage) : Type 0 where
  pub stage : Stage
  pub ended : Ended w n stage
  pub is : model_run ts s ≡ model_run us stage

begun-run : (w : Word) (m n : Model) (own us : List Token) (ss : List Stm) (r : Option State) → all_plain own ≡ true → then_run r (run own) ≡ Some (specification_answer ss) → with_part w m ss ≡ Some n →
    (s : Stage) × (Ended w n s × (then_model (in_state w m r) (model_run (own ++ us)) ≡ model_run us s))
begun-run w m n own us ss None p h k = cc
begun-run w m n own us ss (Some r) p h k =
    let b = behind-run own r.mode r.frames (specification_answer ss) h in
    let q : State = b.state in
    (in_part w m q.mode q.frames, (record { before = m; mode = q.mode; frames = q.frames; is = refl; ended = ap (part_ended w m) b.answers ∙ k }, plain-run w m us own r.mode r.frames q p b.reached))

-- A part that is read as these statements.
pub part-run : (x w : Word) (m n : Model) (s : Stage) (own us : List Token) (ss : List Stm) → Ended x m s → begins_statement w ≡ true → may_follow x w ≡ true → all_plain own ≡ true →
    then_run (begin_statement w []) (run own) ≡ Some (specification_answer ss) → with_part w m ss ≡ Some n → PartRun w n (word w ∷ own ++ us) us s
part-run x w m n s own us ss e b f p h k =
    let g = begun-run w m n own us ss (begin_statement w []) p h k in
    record {
      stage = g.0;
      ended = (g.1).0;
      is = ap (λ s. model_run (word w ∷ own ++ us) s) e.is ∙ ap (λ o. then_model o (model_run (own ++ us))) (part-begins x w e.before m e.mode e.frames b f e.ended) ∙ (g.1).1;
    }
