-- A run as a list of parts, each read by the machine of specifications, and the rules for models that derive such a list.
use Rattle.std.proofs.Common.{◌≡◌, refl, sym, ap, ◌∙◌, subst, Bool, true, false, ◌&&◌, not, List, [], ◌∷◌, ◌++◌, Option, Some, None, append-nil}
use Rattle.ess_semantics.specs.Values.{Text}
use Rattle.ess_semantics.specs.Names.{Names}
use Rattle.ess_semantics.specs.Trees.{Ex, Dom}
use Rattle.ess_semantics.specs.ModelTrees.{Goal, no_goal, least, greatest, Model}
use Rattle.ess_grammar.specs.Words.{Token, number, name, prime_word, word, operator, function, symbol, Word, language_word, given_word, find_word, letting_word, where_word, such_word, minimising_word, maximising_word, comma, dot}
use Rattle.ess_grammar.specs.ModelTexts.{Declarations, no_declarations, more_declarations, Objective, no_objective, minimising, maximising, SuchThat, no_constraints, model_parts, IsModel}
use Rattle.ess_parse_laws.specs.Frames.{Frame}
use Rattle.ess_parse_laws.specs.Modes.{Mode, State, Answer, statement_read}
use Rattle.ess_parse_laws.specs.StatementEnds.{begins_statement, begin_statement}
use Rattle.ess_parse_laws.specs.StatementSteps.{step_nothing_read, step_statement_read}
use Rattle.ess_parse_laws.specs.Machine.{step, finish, then_run, run, read_specification}
use Rattle.ess_parse_laws.proofs.Booleans.{and-left}
use Rattle.eprime_read_laws.proofs.PlainTokens.{is_plain, all_plain}
use Rattle.eprime_read_laws.proofs.OwnTokens.{before-others, expression-own, domain-own}
use Rattle.eprime_read_laws.proofs.Growing.{with_givens, with_finds, grown-is, Fresh, no-constraints, no-objective, IsReadable}
use Rattle.eprime_read_laws.proofs.Sound.{DeclaredPart, GivenPart, FindPart, LeastPart, GreatestPart, ConstraintsPart, given-part, find-part, least-part, greatest-part, constraints-part, is-readable}
use Rattle.eprime_read_laws.specs.ModelMachine.{Stage, in_part, empty_model, more_given, more_find, with_objective, with_constraints, part_ended, may_follow, in_state, begin_part, statement_word, part_step, first_part, then_model, model_run, read_model}
use Rattle.eprime_read_laws.proofs.LanguageLine.{line-read}

-- ---- a run as a list of parts

-- Parts to the end behind one of the word x, with which the model m becomes n.
pub data Tail : Word → Model → List Token → Model → Type 0 where
  tail_end : {x : Word} {m : Model} → Tail x m [] m
  tail_part : {x w : Word} {m n k : Model} {us : List Token} {a : Answer} (own : List Token) → may_follow x w ≡ true → all_plain own ≡ true → read_specification (word w ∷ own) ≡ Some a → part_ended w m (Some a) ≡ Some k →
      Tail w k us n → Tail x m (word w ∷ own ++ us) n

-- The rest of a part behind a state, if there is one, and the parts behind it.
record RestOf (x : Word) (m n : Model) (ts : List Token) (r : Option State) : Type 0 where
  own : List Token
  us : List Token
  a : Answer
  k : Model
  is : ts ≡ own ++ us
  plain : all_plain own ≡ true
  answered : then_run r (run own) ≡ Some a
  ended : part_ended x m (Some a) ≡ Some k
  tail : Tail x k us n

some-word : {v w : Word} → Some v ≡ Some w → v ≡ w
some-word h = cc

none-plain-word : (w : Word) (b : Bool) → elim b as (λ b. Option Word) [ true ↦ Some w | false ↦ None ] ≡ None → not b ≡ true
none-plain-word w true h = cc
none-plain-word w false h = refl

word-found : (v w : Word) (b : Bool) → begins_statement v ≡ b → elim b as (λ b. Option Word) [ true ↦ Some v | false ↦ None ] ≡ Some w → (word v ≡ word w) × (begins_statement w ≡ true)
word-found v w true q h = let e : v ≡ w = some-word h in (ap (λ w. word w) e, sym (ap begins_statement e) ∙ q)
word-found v w false q h = cc

none-plain : (t : Token) → statement_word t ≡ None → is_plain t ≡ true
none-plain (word w) h = none-plain-word w (begins_statement w) h
none-plain (number n) h = refl
none-plain (name a) h = refl
none-plain prime_word h = refl
none-plain (operator o) h = refl
none-plain (function f) h = refl
none-plain (symbol c) h = refl

word-is : (t : Token) (w : Word) → statement_word t ≡ Some w → (t ≡ word w) × (begins_statement w ≡ true)
word-is (word v) w h = word-found v w (begins_statement v) refl h
word-is (number n) w h = cc
word-is (name a) w h = cc
word-is prime_word w h = cc
word-is (operator o) w h = cc
word-is (function f) w h = cc
word-is (symbol c) w h = cc

answer-of : (x : Word) (m k : Model) (o : Option Answer) → part_ended x m o ≡ Some k → (a : Answer) × (o ≡ Some a)
answer-of x m k None h = cc
answer-of x m k (Some a) h = (a, refl)

both-plain : (t : Token) (ts : List Token) → is_plain t ≡ true → all_plain ts ≡ true → all_plain (t ∷ ts) ≡ true
both-plain t ts h k = ap (λ b. b && all_plain ts) h ∙ k

begins-alone : (w : Word) → begins_statement w ≡ true → step_nothing_read (word w) ≡ begin_statement w []
begins-alone language_word h = cc
begins-alone _ h = refl

-- What a run answers behind a state, if there is one.
abbrev Goes : List Token → Model → Type 0
Goes ts n = (x : Word) (m : Model) (i : Mode) (fs : List Frame) → model_run ts (in_part x m i fs) ≡ Some n → RestOf x m n ts (Some (record { mode = i; frames = fs }))

goes-on : (ts : List Token) (n : Model) (x : Word) (m : Model) (r : Option State) → Goes ts n → then_model (in_state x m r) (model_run ts) ≡ Some n → RestOf x m n ts r
goes-on ts n x m None f h = cc
goes-on ts n x m (Some r) f h = f x m r.mode r.frames h

begun-part : (ts : List Token) (n : Model) (x w : Word) (k : Model) (b : Bool) → may_follow x w ≡ b → begins_statement w ≡ true → Goes ts n →
    then_model (elim b as (λ b. Option Stage) [ true ↦ in_state w k (begin_statement w []) | false ↦ None ]) (model_run ts) ≡ Some n → Tail x k (word w ∷ ts) n
begun-part ts n x w k false q p f h = cc
begun-part ts n x w k true q p f h =
    let r = goes-on ts n w k (begin_statement w []) f h in
    subst (λ ts. Tail x k (word w ∷ ts) n) (sym r.is) (tail_part r.own q r.plain (ap (λ s. then_run s (run r.own)) (begins-alone w p) ∙ r.answered) r.ended r.tail)

-- Behind the end of a part another begins.
next-part : (ts : List Token) (n : Model) (x w : Word) (o : Option Model) → begins_statement w ≡ true → Goes ts n → then_model (begin_part x w o) (model_run ts) ≡ Some n → (k : Model) × ((o ≡ Some k) × Tail x k (word w ∷ ts) n)
next-part ts n x w None p f h = cc
next-part ts n x w (Some k) p f h = (k, (refl, begun-part ts n x w k (may_follow x w) refl p f h))

one-step : (t : Token) (ts : List Token) (n : Model) (x : Word) (m : Model) (i : Mode) (fs : List Frame) (o : Option Word) → statement_word t ≡ o → Goes ts n → then_model (part_step t o x m i fs) (model_run ts) ≡ Some n →
    RestOf x m n (t ∷ ts) (Some (record { mode = i; frames = fs }))
one-step t ts n x m i fs None q f h =
    let r = goes-on ts n x m (step t i fs) f h in
    record { own = t ∷ r.own; us = r.us; a = r.a; k = r.k; is = ap (λ ts. t ∷ ts) r.is; plain = both-plain t r.own (none-plain t q) r.plain; answered = r.answered; ended = r.ended; tail = r.tail }
one-step t ts n x m i fs (Some w) q f h =
    let v = word-is t w q in
    let r = next-part ts n x w (part_ended x m (finish i fs)) v.1 f h in
    let a = answer-of x m r.0 (finish i fs) (r.1).0 in
    record {
      own = [];
      us = t ∷ ts;
      a = a.0;
      k = r.0;
      is = refl;
      plain = refl;
      answered = a.1;
      ended = sym (ap (part_ended x m) a.1) ∙ (r.1).0;
      tail = subst (λ t. Tail x r.0 (t ∷ ts) n) (sym v.0) (r.1).1;
    }

rest-of : (ts : List Token) (n : Model) → Goes ts n
rest-of [] n x m i fs h =
    let a = answer-of x m n (finish i fs) h in
    record { own = []; us = []; a = a.0; k = n; is = refl; plain = refl; answered = a.1; ended = sym (ap (part_ended x m) a.1) ∙ h; tail = tail_end }
rest-of (t ∷ ts) n x m i fs h = one-step t ts n x m i fs (statement_word t) refl (rest-of ts n) h

-- Behind the language line only a word that begins a part may stand.
no-first-step : (t : Token) → is_plain t ≡ true → step_statement_read t language_word [] ≡ None
no-first-step (symbol comma) h = refl
no-first-step (symbol _) h = refl
no-first-step (word given_word) h = cc
no-first-step (word find_word) h = cc
no-first-step (word letting_word) h = cc
no-first-step (word where_word) h = cc
no-first-step (word such_word) h = cc
no-first-step (word minimising_word) h = cc
no-first-step (word maximising_word) h = cc
no-first-step (word _) h = refl
no-first-step (number n) h = refl
no-first-step (name a) h = refl
no-first-step prime_word h = refl
no-first-step (operator o) h = refl
no-first-step (function f) h = refl

some-answer : {a b : Answer} → Some a ≡ Some b → a ≡ b
some-answer h = cc

some-model : {m n : Model} → Some m ≡ Some n → m ≡ n
some-model h = cc

first-plain : (t : Token) (ts : List Token) → all_plain (t ∷ ts) ≡ true → is_plain t ≡ true
first-plain t ts h = and-left (is_plain t) (all_plain ts) h

nothing-first : (own us : List Token) (a : Answer) (k n : Model) → all_plain own ≡ true → run own (statement_read language_word []) [] ≡ Some a → part_ended language_word empty_model (Some a) ≡ Some k → Tail language_word k us n →
    Tail language_word empty_model (own ++ us) n
nothing-first [] us a k n p h e t = subst (λ k. Tail language_word k us n) (sym (some-model (ap (λ a. part_ended language_word empty_model (Some a)) (some-answer h) ∙ e))) t
nothing-first (u ∷ own) us a k n p h e t =
    let g : None ≡ Some a = sym (ap (λ r. then_run r (run own)) (no-first-step u (first-plain u own p))) ∙ h in cc

first-tail : (ts : List Token) (n : Model) → model_run ts first_part ≡ Some n → Tail language_word empty_model ts n
first-tail ts n h =
    let r = rest-of ts n language_word empty_model (statement_read language_word []) [] h in subst (λ ts. Tail language_word empty_model ts n) (sym r.is) (nothing-first r.own r.us r.a r.k n r.plain r.answered r.ended r.tail)

-- ---- the rules derive such a list

-- Constraints to the end.
record RulesTail (m : Model) (ts : List Token) (n : Model) : Type 0 where
  es : List Ex
  such : SuchThat es ts
  is : with_constraints m es ≡ n
  fine : IsReadable n

-- An objective, or none, then constraints.
record GoalTail (m : Model) (ts : List Token) (n : Model) : Type 0 where
  o : Goal
  us : List Token
  objective : Objective o ts us
  rest : RulesTail (with_objective m o) us n

-- Finds, then an objective.
record FindsTail (m : Model) (ts : List Token) (n : Model) : Type 0 where
  fs : Names Dom
  us : List Token
  finds : Declarations find_word fs ts us
  rest : GoalTail (with_finds m fs) us n

-- Givens, then finds.
record GivensTail (m : Model) (ts : List Token) (n : Model) : Type 0 where
  gs : Names Dom
  us : List Token
  givens : Declarations given_word gs ts us
  rest : FindsTail (with_givens m gs) us n

such-tail : {m n k : Model} {own us : List Token} → ConstraintsPart m k own → Tail such_word k us n → RulesTail m (word such_word ∷ own ++ us) n
such-tail {m = m} {k = k} {own = own} c tail_end =
    let r = is-readable (with_constraints m c.es) k c.is in
    record { es = c.es; such = subst (λ ts. SuchThat c.es (word such_word ∷ ts)) (sym (append-nil own)) c.part; is = r.0; fine = subst IsReadable r.0 r.1 }
such-tail c (tail_part own f p h e t) = cc

no-rules : {m n : Model} → m ≡ n → m.rules ≡ [] → IsReadable n → RulesTail m [] n
no-rules {m = m} q h r = record { es = []; such = no_constraints; is = no-constraints m h ∙ q; fine = r }

without-objective : {m n : Model} {ts : List Token} → Fresh m → RulesTail m ts n → GoalTail m ts n
without-objective {m = m} {n = n} {ts = ts} h t = record { o = no_goal; us = ts; objective = no_objective; rest = subst (λ m. RulesTail m ts n) (sym (no-objective m h.no_objective)) t }

without-finds : {m n : Model} {ts : List Token} → GoalTail m ts n → FindsTail m ts n
without-finds {ts = ts} t = record { fs = []; us = ts; finds = no_declarations; rest = t }

without-givens : {m n : Model} {ts : List Token} → FindsTail m ts n → GivensTail m ts n
without-givens {ts = ts} t = record { gs = []; us = ts; givens = no_declarations; rest = t }

behind-least : {m n : Model} {ts : List Token} → Tail minimising_word m ts n → m.rules ≡ [] → IsReadable m → RulesTail m ts n
behind-least tail_end h r = no-rules refl h r
behind-least {m = m} (tail_part {w = such_word} {k = k} {a = a} own f p g e t) h r = such-tail (constraints-part m k own a p g e) t
behind-least (tail_part {w = _} own f p g e t) h r = cc

behind-greatest : {m n : Model} {ts : List Token} → Tail maximising_word m ts n → m.rules ≡ [] → IsReadable m → RulesTail m ts n
behind-greatest tail_end h r = no-rules refl h r
behind-greatest {m = m} (tail_part {w = such_word} {k = k} {a = a} own f p g e t) h r = such-tail (constraints-part m k own a p g e) t
behind-greatest (tail_part {w = _} own f p g e t) h r = cc

least-tail : {m n k : Model} {own us : List Token} → LeastPart m k own → Tail minimising_word k us n → Fresh m → GoalTail m (word minimising_word ∷ own ++ us) n
least-tail {m = m} {n = n} {k = k} {us = us} c t h =
    let r = is-readable (with_objective m (least c.e)) k c.is in
    record { o = least c.e; us = us; objective = minimising (before-others (expression-own (c.part).derivation) us); rest = behind-least (subst (λ k. Tail minimising_word k us n) (sym r.0) t) h.no_rules r.1 }

greatest-tail : {m n k : Model} {own us : List Token} → GreatestPart m k own → Tail maximising_word k us n → Fresh m → GoalTail m (word maximising_word ∷ own ++ us) n
greatest-tail {m = m} {n = n} {k = k} {us = us} c t h =
    let r = is-readable (with_objective m (greatest c.e)) k c.is in
    record { o = greatest c.e; us = us; objective = maximising (before-others (expression-own (c.part).derivation) us); rest = behind-greatest (subst (λ k. Tail maximising_word k us n) (sym r.0) t) h.no_rules r.1 }

declared-before : {w : Word} {a : Text} {d : Dom} {ds : Names Dom} {own us vs : List Token} → DeclaredPart a d own → Declarations w ds us vs → Declarations w ((a, d) ∷ ds) (word w ∷ own ++ us) vs
declared-before {w = w} {a = a} {d = d} {ds = ds} {us = us} {vs = vs} c k =
    subst (λ ts. Declarations w ((a, d) ∷ ds) (word w ∷ ts ++ us) vs) (sym c.is) (more_declarations (before-others (domain-own c.derivation) us) k)

one-find-more : {m n k : Model} {own us : List Token} → FindPart m k own → ((f : Fresh k) → IsReadable k → FindsTail k us n) → Fresh m → FindsTail m (word find_word ∷ own ++ us) n
one-find-more {m = m} {n = n} {k = k} {us = us} c f h =
    let r = is-readable (more_find m c.a c.d) k c.is in
    let t : FindsTail (more_find m c.a c.d) us n = subst (λ k. FindsTail k us n) (sym r.0) (f (subst Fresh r.0 (record { no_objective = h.no_objective; no_rules = h.no_rules })) (subst IsReadable r.0 r.1)) in
    record { fs = (c.a, c.d) ∷ t.fs; us = t.us; finds = declared-before c.part t.finds; rest = t.rest }

one-given-more : {m n k : Model} {own us : List Token} → GivenPart m k own → ((f : Fresh k) → IsReadable k → GivensTail k us n) → Fresh m → GivensTail m (word given_word ∷ own ++ us) n
one-given-more {m = m} {n = n} {k = k} {us = us} c f h =
    let r = is-readable (more_given m c.a c.d) k c.is in
    let t : GivensTail (more_given m c.a c.d) us n = subst (λ k. GivensTail k us n) (sym r.0) (f (subst Fresh r.0 (record { no_objective = h.no_objective; no_rules = h.no_rules })) (subst IsReadable r.0 r.1)) in
    record { gs = (c.a, c.d) ∷ t.gs; us = t.us; givens = declared-before c.part t.givens; rest = t.rest }

finds-tail : {m n : Model} {ts : List Token} → Tail find_word m ts n → Fresh m → IsReadable m → FindsTail m ts n
finds-tail tail_end h r = without-finds (without-objective h (no-rules refl h.no_rules r))
finds-tail {m = m} (tail_part {w = find_word} {k = k} {a = a} own f p g e t) h r = one-find-more (find-part m k own a g e) (λ i j. finds-tail t i j) h
finds-tail {m = m} (tail_part {w = minimising_word} {k = k} {a = a} own f p g e t) h r = without-finds (least-tail (least-part m k own a g e) t h)
finds-tail {m = m} (tail_part {w = maximising_word} {k = k} {a = a} own f p g e t) h r = without-finds (greatest-tail (greatest-part m k own a g e) t h)
finds-tail {m = m} (tail_part {w = such_word} {k = k} {a = a} own f p g e t) h r = without-finds (without-objective h (such-tail (constraints-part m k own a p g e) t))
finds-tail (tail_part {w = _} own f p g e t) h r = cc

givens-tail : {m n : Model} {ts : List Token} → Tail given_word m ts n → Fresh m → IsReadable m → GivensTail m ts n
givens-tail tail_end h r = without-givens (without-finds (without-objective h (no-rules refl h.no_rules r)))
givens-tail {m = m} (tail_part {w = given_word} {k = k} {a = a} own f p g e t) h r = one-given-more (given-part m k own a g e) (λ i j. givens-tail t i j) h
givens-tail (tail_part {w = find_word} own f p g e t) h r = without-givens (finds-tail (tail_part {x = find_word} own refl p g e t) h r)
givens-tail (tail_part {w = minimising_word} own f p g e t) h r = without-givens (finds-tail (tail_part {x = find_word} own refl p g e t) h r)
givens-tail (tail_part {w = maximising_word} own f p g e t) h r = without-givens (finds-tail (tail_part {x = find_word} own refl p g e t) h r)
givens-tail (tail_part {w = such_word} own f p g e t) h r = without-givens (finds-tail (tail_part {x = find_word} own refl p g e t) h r)
givens-tail (tail_part {w = _} own f p g e t) h r = cc

as-given : {m n : Model} {ts : List Token} → Tail language_word m ts n → Tail given_word m ts n
as-given tail_end = tail_end
as-given (tail_part own f p g e t) = tail_part own f p g e t

-- ---- the whole

model-read : (us : List Token) (n : Model) → GivensTail empty_model us n → IsModel n (word language_word ∷ prime_word ∷ number 1 ∷ symbol dot ∷ number 0 ∷ us)
model-read us n t =
    let f = t.rest in
    let g = f.rest in
    let r = g.rest in
    record {
      parts = record { givens = t.gs; finds = f.fs; goal = g.o; rules = r.es };
      read = model_parts t.givens f.finds g.objective r.such;
      is = sym r.is ∙ grown-is t.gs f.fs g.o r.es;
      readable = r.fine;
    }

-- A model that is read is derived.
pub sound-model : (ts : List Token) (m : Model) → read_model ts ≡ Some m → IsModel m ts
sound-model ts m h =
    let l = line-read ts m h in
    subst (λ ts. IsModel m ts) (sym l.is) (model-read l.us m (givens-tail (as-given (first-tail l.us m l.run)) (record { no_objective = refl; no_rules = refl }) refl))
