-- The laws of the machine of domains and of specifications.
use Rattle.std.proofs.Common.{◌≡◌, refl, sym, ap, ◌∙◌, subst, Bool, true, false, List, [], ◌∷◌, ◌++◌, Option, Some, None}
use Rattle.ess_semantics.specs.Trees.{Dom, Stm}
use Rattle.ess_grammar.specs.Words.{Token, Word, word, language_word, given_word, find_word, letting_word, where_word, such_word, minimising_word, maximising_word}
use Rattle.ess_grammar.specs.Statements.{begins_given, begins_find, begins_letting, begins_where, begins_such_that, Statement, parts_statement, minimising_statement, maximising_statement, Statements, no_statements, more_statements, no_language_line, language_line, IsSpecification, specification, IsDomain}
use Rattle.ess_parse_laws.specs.Frames.{Frame}
use Rattle.ess_parse_laws.specs.Modes.{Answer, expression_answer, domain_answer, specification_answer, Mode, State, domain_wanted, nothing_read}
use Rattle.ess_parse_laws.specs.StatementEnds.{begins_statement}
use Rattle.ess_parse_laws.specs.Machine.{step, finish, then_run, run, then_state_after, state_after}
use Rattle.ess_parse_laws.proofs.Complete.{complete-domain}
use Rattle.ess_parse_laws.proofs.CompleteStatements.{complete-specification}
use Rattle.ess_parse_laws.proofs.Sound.{IsSound, sound-domain, sound-specification}
use Rattle.ess_parse_laws.proofs.Places.{no-domain, no-specification}
use Rattle.ess_parse_laws.proofs.BeforeStatements.{before-statement}
use Rattle.ess_parse_laws.proofs.WholeTexts.{between, run-ends, whole-specification}
use Rattle.ess_parse.specs.Machines.{step_state, domain_of, finish_domain, start_domain, statements_of, finish_specification, start_specification}
use Rattle.ess_parse.proofs.Runs.{from_state, state_behind, tree_of, IsMachineFor}

-- ---- runs

then-tree : {A : Type 0} (f : Option Answer → Option A) → f None ≡ None → (r : Option State) (j : State → Option A) (k : Mode → List Frame → Option Answer) → ((s : State) → j s ≡ f (k s.mode s.frames)) → from_state j r ≡ f (then_run r k)
then-tree f n None j k h = sym n
then-tree f n (Some s) j k h = h s

-- The tree of a run is that of its answer.
pub tree-same : {A : Type 0} (f : Option Answer → Option A) → f None ≡ None → (ts : List Token) (s : State) → tree_of step_state (λ q. f (finish q.mode q.frames)) ts s ≡ f (run ts s.mode s.frames)
tree-same f n [] s = refl
tree-same f n (t ∷ ts) s = then-tree f n (step_state t s) (tree_of step_state (λ q. f (finish q.mode q.frames)) ts) (run ts) (tree-same f n ts)

then-behind : (r : Option State) (j : State → Option State) (k : Mode → List Frame → Option State) → ((s : State) → j s ≡ k s.mode s.frames) → from_state j r ≡ then_state_after r k
then-behind None j k f = refl
then-behind (Some s) j k f = f s

-- The state behind tokens is that of the machine.
pub behind-same : (ts : List Token) (s : State) → state_behind step_state ts s ≡ state_after ts s.mode s.frames
behind-same [] s = refl
behind-same (t ∷ ts) s = then-behind (step_state t s) (state_behind step_state ts) (state_after ts) (behind-same ts)

is-domain : (r : Option Answer) (d : Dom) → domain_of r ≡ Some d → r ≡ Some (domain_answer d)
is-domain None d h = cc
is-domain (Some (expression_answer e)) d h = cc
is-domain (Some (domain_answer c)) d h = cc
is-domain (Some (specification_answer ss)) d h = cc

pub is-specification : (r : Option Answer) (ss : List Stm) → statements_of r ≡ Some ss → r ≡ Some (specification_answer ss)
is-specification None ss h = cc
is-specification (Some (expression_answer e)) ss h = cc
is-specification (Some (domain_answer d)) ss h = cc
is-specification (Some (specification_answer rs)) ss h = cc

-- ---- no word that begins a statement is taken in a domain

-- Whether a specification may begin with these tokens.
abbrev begins_specification : List Token → Bool
begins_specification [] = true
begins_specification (word language_word ∷ ts) = true
begins_specification (word w ∷ ts) = begins_statement w
begins_specification _ = false

statement-first : {ss : List Stm} {ts us : List Token} → Statement ss ts us → begins_specification ts ≡ true
statement-first (parts_statement begins_given ps) = refl
statement-first (parts_statement begins_find ps) = refl
statement-first (parts_statement begins_letting ps) = refl
statement-first (parts_statement begins_where ps) = refl
statement-first (parts_statement begins_such_that ps) = refl
statement-first (minimising_statement d) = refl
statement-first (maximising_statement d) = refl

statements-first : {ss : List Stm} {ts : List Token} → Statements ss ts → begins_specification ts ≡ true
statements-first no_statements = refl
statements-first (more_statements d ds) = statement-first d

specification-first : {ss : List Stm} {ts : List Token} → IsSpecification ss ts → begins_specification ts ≡ true
specification-first (specification no_language_line d) = statements-first d
specification-first (specification language_line d) = refl

domain-refuses : (ts : List Token) → begins_specification ts ≡ true → run ts domain_wanted [] ≡ None
domain-refuses [] h = refl
domain-refuses (word language_word ∷ ts) h = refl
domain-refuses (word given_word ∷ ts) h = refl
domain-refuses (word find_word ∷ ts) h = refl
domain-refuses (word letting_word ∷ ts) h = refl
domain-refuses (word where_word ∷ ts) h = refl
domain-refuses (word such_word ∷ ts) h = refl
domain-refuses (word minimising_word ∷ ts) h = refl
domain-refuses (word maximising_word ∷ ts) h = refl
domain-refuses (word w ∷ ts) h = cc
domain-refuses (t ∷ ts) h = cc

taken : (us : List Token) (q : State) (r : Option State) → then_state_after r (state_after us) ≡ Some q → (p : State) × (r ≡ Some p)
taken us q None h = cc
taken us q (Some r) h = (r, refl)

no-statement : (ts us : List Token) (w : Word) (s : State) → begins_statement w ≡ true → state_after (ts ++ word w ∷ us) domain_wanted [] ≡ Some s → ⊥
no-statement ts us w s b h =
    let x = between ts (word w ∷ us) domain_wanted [] s h in
    let q = taken us s (step (word w) (x.state).mode (x.state).frames) x.behind in
    let y = before-statement w b (x.state).mode (x.state).frames q.0 q.1 in
    let r : run ts domain_wanted [] ≡ Some (specification_answer y.0) = run-ends ts domain_wanted [] x.state x.before ∙ y.1 in
    let d : IsSpecification y.0 ts = subst (λ o. IsSound ts o) r (sound-domain ts) in
    let n : run ts domain_wanted [] ≡ None = domain-refuses ts (specification-first d) in
    let k : None ≡ Some (specification_answer y.0) = sym n ∙ r in
    cc

-- ---- the laws

pub domain-laws : IsMachineFor step_state finish_domain start_domain IsDomain
domain-laws = record {
  derives = λ ts d h. subst (λ o. IsSound ts o) (is-domain (run ts domain_wanted []) d (sym (tree-same domain_of refl ts start_domain) ∙ h)) (sound-domain ts);
  reads = λ ts d k. tree-same domain_of refl ts start_domain ∙ ap domain_of (complete-domain k);
  stops = λ ts us d h k. no-domain ts us (sym (behind-same ts start_domain) ∙ h) k;
  whole = λ ts us w s b h. absurd (no-statement ts us w s b (sym (behind-same (ts ++ word w ∷ us) start_domain) ∙ h));
}

pub specification-laws : IsMachineFor step_state finish_specification start_specification IsSpecification
specification-laws = record {
  derives = λ ts ss h. subst (λ o. IsSound ts o) (is-specification (run ts nothing_read []) ss (sym (tree-same statements_of refl ts start_specification) ∙ h)) (sound-specification ts);
  reads = λ ts ss k. tree-same statements_of refl ts start_specification ∙ ap statements_of (complete-specification k);
  stops = λ ts us ss h k. no-specification ts us (sym (behind-same ts start_specification) ∙ h) k;
  whole = λ ts us w s b h. whole-specification ts us w s b (sym (behind-same (ts ++ word w ∷ us) start_specification) ∙ h);
}
