-- What the rules derive as a model, the machine reads.
use Rattle.std.proofs.Common.{◌≡◌, refl, sym, ap, ◌∙◌, subst, ℕ, Bool, true, false, List, [], ◌∷◌, map, Some, None, append-nil}
use Rattle.ess_semantics.specs.Values.{Text}
use Rattle.ess_semantics.specs.Names.{Names}
use Rattle.ess_semantics.specs.Trees.{Ex, Dom, given, find, such_that, minimise, maximise}
use Rattle.ess_semantics.specs.ModelTrees.{Goal, least, greatest, Model}
use Rattle.ess_grammar.specs.Words.{Token, name, word, symbol, Word, language_word, given_word, find_word, such_word, that_word, minimising_word, maximising_word, colon}
use Rattle.ess_grammar.specs.Patterns.{Shape}
use Rattle.ess_grammar.specs.Grammar.{Expression, Domain}
use Rattle.ess_grammar.specs.Statements.{Parts, IsSpecification, no_language_line, specification, more_statements, no_statements, parts_statement, minimising_statement, maximising_statement, begins_given, begins_find, begins_such_that, last_part, next_part, given_part, find_part, such_that_part, last_name}
use Rattle.ess_grammar.specs.Models.{ReadModel, model_of}
use Rattle.ess_grammar.specs.ModelTexts.{Declarations, no_declarations, more_declarations, Objective, no_objective, minimising, maximising, Constraints, last_constraint, next_constraint, SuchThat, no_constraints, constraints, HasModelParts, model_parts, IsModel}
use Rattle.ess_parse_laws.proofs.CompleteStatements.{complete-specification}
use Rattle.eprime_read_laws.proofs.PlainTokens.{all_plain}
use Rattle.eprime_read_laws.proofs.OwnTokens.{own-part, plain-tokens, expression-own, domain-own}
use Rattle.eprime_read_laws.proofs.Growing.{with_givens, with_finds, grown, grown-is, Fresh, fresh-givens, fresh-finds, no-constraints, no-objective, IsReadable, drop-rules, drop-objective, drop-finds, drop-givens}
use Rattle.eprime_read_laws.proofs.PartRuns.{Ended, part-run}
use Rattle.eprime_read_laws.specs.ModelMachine.{Stage, empty_model, more_given, more_find, with_objective, with_constraints, readable, constraints_of, constraint_before, constrained, may_follow, first_part, model_run, model_finish, read_model}

-- ---- parts as specifications

given-alone : {a : Text} {d : Dom} {own : List Token} → Domain d own [] → IsSpecification (given a d ∷ []) (word given_word ∷ name a ∷ symbol colon ∷ own)
given-alone k = specification no_language_line (more_statements {rs = []} (parts_statement begins_given (last_part (given_part last_name k))) no_statements)

find-alone : {a : Text} {d : Dom} {own : List Token} → Domain d own [] → IsSpecification (find a d ∷ []) (word find_word ∷ name a ∷ symbol colon ∷ own)
find-alone k = specification no_language_line (more_statements {rs = []} (parts_statement begins_find (last_part (find_part last_name k))) no_statements)

least-alone : {w : Bool} {s : Shape} {l : ℕ} {e : Ex} {own : List Token} → Expression w s l e own [] → IsSpecification (minimise e ∷ []) (word minimising_word ∷ own)
least-alone d = specification no_language_line (more_statements {rs = []} (minimising_statement d) no_statements)

greatest-alone : {w : Bool} {s : Shape} {l : ℕ} {e : Ex} {own : List Token} → Expression w s l e own [] → IsSpecification (maximise e ∷ []) (word maximising_word ∷ own)
greatest-alone d = specification no_language_line (more_statements {rs = []} (maximising_statement d) no_statements)

constraint-parts : {es : List Ex} {ts : List Token} → Constraints es ts → Parts such_word (map (λ e. such_that e) es) ts []
constraint-parts (last_constraint d) = last_part (such_that_part d)
constraint-parts (next_constraint d ds) = next_part (such_that_part d) (constraint-parts ds)

constraints-alone : {es : List Ex} {ts : List Token} → Constraints es ts → IsSpecification (map (λ e. such_that e) es) (word such_word ∷ word that_word ∷ ts)
constraints-alone {es = es} {ts = ts} d =
    subst (λ ss. IsSpecification ss (word such_word ∷ word that_word ∷ ts)) (append-nil (map (λ e. such_that e) es))
    (specification no_language_line (more_statements (parts_statement begins_such_that (constraint-parts d)) no_statements))

constraints-plain : {es : List Ex} {ts : List Token} → Constraints es ts → all_plain ts ≡ true
constraints-plain (last_constraint d) = plain-tokens (expression-own d)
constraints-plain (next_constraint d ds) = plain-tokens (expression-own d) ∙ constraints-plain ds

are-constraints : (es : List Ex) → constraints_of (map (λ e. such_that e) es) ≡ Some es
are-constraints [] = refl
are-constraints (e ∷ es) = ap (constraint_before e) (are-constraints es)

readable-some : (m : Model) → IsReadable m → readable m ≡ Some m
readable-some m h = ap (λ b. elim b [ true ↦ Some m | false ↦ None ]) h

-- ---- what may follow

-- Constraints, or an objective or constraints, or finds or what may follow them, or givens or what may follow them, may
-- stand behind a part of this word.
abbrev MayConstrain : Word → Type 0
MayConstrain x = may_follow x such_word ≡ true

abbrev MayAim : Word → Type 0
MayAim x = (may_follow x minimising_word ≡ true) × (may_follow x maximising_word ≡ true) × MayConstrain x

record MayFind (x : Word) : Type 0 where
  find_follows : may_follow x find_word ≡ true
  aims : MayAim x

record MayGive (x : Word) : Type 0 where
  given_follows : may_follow x given_word ≡ true
  finds : MayFind x

-- ---- runs

-- Behind some parts the machine stands at a stage s, at whose end the model is m, and may go on as P says.
record Reached (P : Word → Type 0) (m : Model) (ts us : List Token) (s : Stage) : Type 0 where
  x : Word
  may : P x
  stage : Stage
  ended : Ended x m stage
  is : model_run ts s ≡ model_run us stage

givens-run : {gs : Names Dom} {ts us : List Token} → Declarations given_word gs ts us → (x : Word) → MayGive x → (m : Model) (s : Stage) → Ended x m s → m.finds ≡ [] → Fresh m → IsReadable (with_givens m gs) →
    Reached MayFind (with_givens m gs) ts us s
givens-run no_declarations x p m s e f h r = record { x = x; may = p.finds; stage = s; ended = e; is = refl }
givens-run (more_declarations {a = a} {d = d} {ds = ds} {ts = ts} {us = us} {vs = vs} k ks) x p m s e f h r =
    let o = own-part (domain-own k) in
    let n : Model = more_given m a d in
    let g : Fresh n = record { no_objective = h.no_objective; no_rules = h.no_rules } in
    let b = part-run x given_word m n s (name a ∷ symbol colon ∷ o.own) us (given a d ∷ []) e refl p.given_follows o.plain (complete-specification (given-alone o.alone)) (readable-some n (drop-givens n ds f g r)) in
    let c = givens-run ks given_word (record { given_follows = refl; finds = record { find_follows = refl; aims = (refl, refl, refl) } }) n b.stage b.ended f g r in
    record { x = c.x; may = c.may; stage = c.stage; ended = c.ended; is = ap (λ ts. model_run (word given_word ∷ name a ∷ symbol colon ∷ ts) s) o.is ∙ b.is ∙ c.is }

finds-run : {fs : Names Dom} {ts us : List Token} → Declarations find_word fs ts us → (x : Word) → MayFind x → (m : Model) (s : Stage) → Ended x m s → Fresh m → IsReadable (with_finds m fs) →
    Reached MayAim (with_finds m fs) ts us s
finds-run no_declarations x p m s e h r = record { x = x; may = p.aims; stage = s; ended = e; is = refl }
finds-run (more_declarations {a = a} {d = d} {ds = ds} {ts = ts} {us = us} {vs = vs} k ks) x p m s e h r =
    let o = own-part (domain-own k) in
    let n : Model = more_find m a d in
    let g : Fresh n = record { no_objective = h.no_objective; no_rules = h.no_rules } in
    let b = part-run x find_word m n s (name a ∷ symbol colon ∷ o.own) us (find a d ∷ []) e refl p.find_follows o.plain (complete-specification (find-alone o.alone)) (readable-some n (drop-finds n ds g r)) in
    let c = finds-run ks find_word (record { find_follows = refl; aims = (refl, refl, refl) }) n b.stage b.ended g r in
    record { x = c.x; may = c.may; stage = c.stage; ended = c.ended; is = ap (λ ts. model_run (word find_word ∷ name a ∷ symbol colon ∷ ts) s) o.is ∙ b.is ∙ c.is }

objective-run : {o : Goal} {ts us : List Token} → Objective o ts us → (x : Word) → MayAim x → (m : Model) (s : Stage) → Ended x m s → Fresh m → IsReadable (with_objective m o) →
    Reached MayConstrain (with_objective m o) ts us s
objective-run no_objective x p m s e h r = record { x = x; may = p.2; stage = s; ended = subst (λ m. Ended x m s) (sym (no-objective m h.no_objective)) e; is = refl }
objective-run (minimising {e = a} {us = us} d) x p m s e h r =
    let o = own-part (expression-own d) in
    let n : Model = with_objective m (least a) in
    let b = part-run x minimising_word m n s o.own us (minimise a ∷ []) e refl p.0 o.plain (complete-specification (least-alone o.alone)) (readable-some n r) in
    record { x = minimising_word; may = refl; stage = b.stage; ended = b.ended; is = ap (λ ts. model_run (word minimising_word ∷ ts) s) o.is ∙ b.is }
objective-run (maximising {e = a} {us = us} d) x p m s e h r =
    let o = own-part (expression-own d) in
    let n : Model = with_objective m (greatest a) in
    let b = part-run x maximising_word m n s o.own us (maximise a ∷ []) e refl p.1 o.plain (complete-specification (greatest-alone o.alone)) (readable-some n r) in
    record { x = maximising_word; may = refl; stage = b.stage; ended = b.ended; is = ap (λ ts. model_run (word maximising_word ∷ ts) s) o.is ∙ b.is }

ended-run : {x : Word} {m : Model} {s : Stage} → Ended x m s → model_run [] s ≡ Some m
ended-run e = ap model_finish e.is ∙ e.ended

constraints-run : {es : List Ex} {ts : List Token} → SuchThat es ts → (x : Word) → MayConstrain x → (m : Model) (s : Stage) → Ended x m s → m.rules ≡ [] → IsReadable (with_constraints m es) →
    model_run ts s ≡ Some (with_constraints m es)
constraints-run no_constraints x p m s e h r = ended-run e ∙ ap (λ m. Some m) (sym (no-constraints m h))
constraints-run (constraints {es = es} {ts = ts} d) x p m s e h r =
    let n : Model = with_constraints m es in
    let b = part-run x such_word m n s (word that_word ∷ ts) [] (map (λ e. such_that e) es) e refl p (constraints-plain d) (complete-specification (constraints-alone d)) (ap (constrained m) (are-constraints es) ∙ readable-some n r) in
    ap (λ ts. model_run (word such_word ∷ word that_word ∷ ts) s) (sym (append-nil ts)) ∙ b.is ∙ ended-run b.ended

-- ---- the whole

fresh-empty : Fresh empty_model
fresh-empty = record { no_objective = refl; no_rules = refl }

objective-on : {o : Goal} {es : List Ex} {ts us : List Token} → Objective o ts us → SuchThat es us → (x : Word) → MayAim x → (m : Model) (s : Stage) → Ended x m s → Fresh m →
    IsReadable (with_constraints (with_objective m o) es) → model_run ts s ≡ Some (with_constraints (with_objective m o) es)
objective-on {o = o} {es = es} g cs x p m s e h r =
    let c = objective-run g x p m s e h (drop-rules (with_objective m o) es h.no_rules r) in c.is ∙ constraints-run cs c.x c.may (with_objective m o) c.stage c.ended h.no_rules r

finds-on : {fs : Names Dom} {o : Goal} {es : List Ex} {ts us vs : List Token} → Declarations find_word fs ts us → Objective o us vs → SuchThat es vs → (x : Word) → MayFind x → (m : Model) (s : Stage) → Ended x m s → Fresh m →
    IsReadable (with_constraints (with_objective (with_finds m fs) o) es) → model_run ts s ≡ Some (with_constraints (with_objective (with_finds m fs) o) es)
finds-on {fs = fs} {o = o} {es = es} ks g cs x p m s e h r =
    let n : Model = with_finds m fs in
    let i : Fresh n = fresh-finds m fs h in
    let c = finds-run ks x p m s e h (drop-objective n o i (drop-rules (with_objective n o) es i.no_rules r)) in
    c.is ∙ objective-on g cs c.x c.may n c.stage c.ended i r

givens-on : {gs fs : Names Dom} {o : Goal} {es : List Ex} {ts us vs xs : List Token} → Declarations given_word gs ts us → Declarations find_word fs us vs → Objective o vs xs → SuchThat es xs → IsReadable (grown gs fs o es) →
    model_run ts first_part ≡ Some (grown gs fs o es)
givens-on {gs = gs} {fs = fs} {o = o} {es = es} ks ls g cs r =
    let m : Model = with_givens empty_model gs in
    let n : Model = with_finds m fs in
    let h : Fresh m = fresh-givens empty_model gs fresh-empty in
    let i : Fresh n = fresh-finds m fs h in
    let a = givens-run ks language_word (record { given_follows = refl; finds = record { find_follows = refl; aims = (refl, refl, refl) } }) empty_model first_part
    (record { before = empty_model; mode = _; frames = _; is = refl; ended = refl }) refl fresh-empty (drop-finds m fs h (drop-objective n o i (drop-rules (with_objective n o) es i.no_rules r))) in
    a.is ∙ finds-on ls g cs a.x a.may m a.stage a.ended h r

has-parts : {p : ReadModel} {ts : List Token} → HasModelParts p ts → IsReadable (model_of p) → read_model ts ≡ Some (model_of p)
has-parts (model_parts {gs = gs} {fs = fs} {o = o} {es = es} ks ls g cs) r =
    givens-on ks ls g cs (subst IsReadable (sym (grown-is gs fs o es)) r) ∙ ap (λ m. Some m) (grown-is gs fs o es)

-- A model that the rules derive is read.
pub complete-model : (ts : List Token) (m : Model) → IsModel m ts → read_model ts ≡ Some m
complete-model ts m d = has-parts d.read (subst IsReadable d.is d.readable) ∙ ap (λ m. Some m) (sym d.is)

-- Each list of tokens is at most one model.
pub one-model : (ts : List Token) (m n : Model) → IsModel m ts → IsModel n ts → m ≡ n
one-model ts m n d g = let h : Some m ≡ Some n = sym (complete-model ts m d) ∙ complete-model ts n g in cc
