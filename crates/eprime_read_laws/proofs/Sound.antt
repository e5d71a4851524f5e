-- What the machine reads, the rules derive. A run is a list of parts, each of them a specification by itself; so the rules
-- derive each part, and the parts in their order are those of a model.
use Rattle.std.proofs.Common.{◌≡◌, refl, sym, ap, ◌∙◌, subst, ℕ, Bool, true, false, List, [], ◌∷◌, ◌++◌, Option, Some, None, append-nil, append_assoc}
use Rattle.ess_semantics.specs.Values.{Text}
use Rattle.ess_semantics.specs.Trees.{Ex, Dom, Stm, given, find, minimise, maximise}
use Rattle.ess_semantics.specs.ModelTrees.{least, greatest, Model}
use Rattle.ess_grammar.specs.Words.{Token, name, word, symbol, Word, language_word, given_word, find_word, such_word, minimising_word, maximising_word, colon}
use Rattle.ess_grammar.specs.Patterns.{Shape}
use Rattle.ess_grammar.specs.Grammar.{Expression, Domain}
use Rattle.ess_grammar.specs.Statements.{Part, Parts, Statements, IsSpecification, last_name, next_name, no_language_line, language_line, specification, more_statements, no_statements, parts_statement, minimising_statement, maximising_statement, begins_given, begins_find, begins_letting, begins_where, begins_such_that, last_part, next_part, given_part, given_enum_part, find_part, plain_letting_part, domain_letting_part, unnamed_letting_part, where_part, such_that_part}
use Rattle.ess_grammar.specs.ModelTexts.{Constraints, last_constraint, next_constraint, SuchThat, constraints}
use Rattle.ess_parse_laws.specs.Modes.{Answer, expression_answer, domain_answer, specification_answer}
use Rattle.ess_parse_laws.specs.Machine.{read_specification}
use Rattle.ess_parse_laws.proofs.Sound.{IsSound, sound-specification}
use Rattle.eprime_read_laws.proofs.PlainTokens.{all_plain}
use Rattle.eprime_read_laws.proofs.OwnTokens.{plain-tokens, expression-own}
use Rattle.eprime_read_laws.proofs.Growing.{IsReadable}
use Rattle.eprime_read_laws.specs.ModelMachine.{more_given, more_find, with_objective, with_constraints, readable, constraints_of, constraint_before, constrained, part_ended}

-- ---- specifications of one part

-- The tokens behind the word are the part of a declared name.
pub record DeclaredPart (a : Text) (d : Dom) (own : List Token) : Type 0 where
  pub tokens : List Token
  pub is : own ≡ name a ∷ symbol colon ∷ tokens
  pub derivation : Domain d tokens []

-- The tokens are an expression, to the end.
pub record WholeExpression (e : Ex) (own : List Token) : Type 0 where
  pub ends_in_body : Bool
  pub shape : Shape
  pub level : ℕ
  pub derivation : Expression ends_in_body shape level e own []

part-some : {x : Word} {ps : List Stm} {ts us : List Token} → Part x ps ts us → (rs : List Stm) → ps ++ rs ≡ [] → ⊥
part-some (given_part last_name k) rs h = cc
part-some (given_part (next_name ns) k) rs h = cc
part-some given_enum_part rs h = cc
part-some (find_part last_name k) rs h = cc
part-some (find_part (next_name ns) k) rs h = cc
part-some (plain_letting_part l) rs h = cc
part-some (domain_letting_part k) rs h = cc
part-some (unnamed_letting_part d) rs h = cc
part-some (where_part d) rs h = cc
part-some (such_that_part d) rs h = cc

parts-some : {x : Word} {ps : List Stm} {ts us : List Token} → Parts x ps ts us → (rs : List Stm) → ps ++ rs ≡ [] → ⊥
parts-some (last_part p) rs h = part-some p rs h
parts-some (next_part {ss = ss} {rs = qs} p ps) rs h = part-some p (qs ++ rs) (sym (append_assoc ss qs rs) ∙ h)

-- Without statements there are no tokens.
no-tokens : {rs : List Stm} {us : List Token} → Statements rs us → rs ≡ [] → us ≡ []
no-tokens no_statements h = refl
no-tokens (more_statements {rs = rs} (parts_statement b ps) r) h = absurd (parts-some ps rs h)
no-tokens (more_statements (minimising_statement d) r) h = cc
no-tokens (more_statements (maximising_statement d) r) h = cc

given-is : {a b : Text} {c d : Dom} {rs : List Stm} → given a c ∷ rs ≡ given b d ∷ [] → (a ≡ b) × (c ≡ d) × (rs ≡ [])
given-is h = (cc, cc, cc)

find-is : {a b : Text} {c d : Dom} {rs : List Stm} → find a c ∷ rs ≡ find b d ∷ [] → (a ≡ b) × (c ≡ d) × (rs ≡ [])
find-is h = (cc, cc, cc)

minimise-is : {e f : Ex} {rs : List Stm} → minimise e ∷ rs ≡ minimise f ∷ [] → (e ≡ f) × (rs ≡ [])
minimise-is h = (cc, cc)

maximise-is : {e f : Ex} {rs : List Stm} → maximise e ∷ rs ≡ maximise f ∷ [] → (e ≡ f) × (rs ≡ [])
maximise-is h = (cc, cc)

declared-alone : {a b : Text} {c d : Dom} {ts us : List Token} → a ≡ b → c ≡ d → us ≡ [] → Domain c ts us → DeclaredPart b d (name a ∷ symbol colon ∷ ts)
declared-alone {c = c} {ts = ts} ha hd hu k =
    record { tokens = ts; is = ap (λ a. name a ∷ symbol colon ∷ ts) ha; derivation = subst (λ d. Domain d ts []) hd (subst (λ us. Domain c ts us) hu k) }

givens-alone : {b : Text} {d : Dom} {ps rs : List Stm} {own us : List Token} → Parts given_word ps own us → Statements rs us → ps ++ rs ≡ given b d ∷ [] → DeclaredPart b d own
givens-alone (last_part (given_part last_name k)) r h = let e = given-is h in declared-alone e.0 e.1 (no-tokens r e.2) k
givens-alone (last_part (given_part (next_name last_name) k)) r h = cc
givens-alone (last_part (given_part (next_name (next_name ns)) k)) r h = cc
givens-alone (last_part given_enum_part) r h = cc
givens-alone {rs = rs} (next_part {rs = qs} (given_part last_name k) ps) r h = absurd (parts-some ps rs (given-is h).2)
givens-alone (next_part (given_part (next_name last_name) k) ps) r h = cc
givens-alone (next_part (given_part (next_name (next_name ns)) k) ps) r h = cc
givens-alone (next_part given_enum_part ps) r h = cc

finds-alone : {b : Text} {d : Dom} {ps rs : List Stm} {own us : List Token} → Parts find_word ps own us → Statements rs us → ps ++ rs ≡ find b d ∷ [] → DeclaredPart b d own
finds-alone (last_part (find_part last_name k)) r h = let e = find-is h in declared-alone e.0 e.1 (no-tokens r e.2) k
finds-alone (last_part (find_part (next_name last_name) k)) r h = cc
finds-alone (last_part (find_part (next_name (next_name ns)) k)) r h = cc
finds-alone {rs = rs} (next_part {rs = qs} (find_part last_name k) ps) r h = absurd (parts-some ps rs (find-is h).2)
finds-alone (next_part (find_part (next_name last_name) k) ps) r h = cc
finds-alone (next_part (find_part (next_name (next_name ns)) k) ps) r h = cc

statements-given : {b : Text} {d : Dom} {ss : List Stm} {own : List Token} → Statements ss (word given_word ∷ own) → ss ≡ given b d ∷ [] → DeclaredPart b d own
statements-given (more_statements (parts_statement begins_given ps) r) h = givens-alone ps r h

statements-find : {b : Text} {d : Dom} {ss : List Stm} {own : List Token} → Statements ss (word find_word ∷ own) → ss ≡ find b d ∷ [] → DeclaredPart b d own
statements-find (more_statements (parts_statement begins_find ps) r) h = finds-alone ps r h

whole-expression : {e f : Ex} {w : Bool} {s : Shape} {l : ℕ} {ts us : List Token} → e ≡ f → us ≡ [] → Expression w s l e ts us → WholeExpression f ts
whole-expression {e = a} {w = w} {s = s} {l = l} {ts = ts} he hu d =
    record { ends_in_body = w; shape = s; level = l; derivation = subst (λ e. Expression w s l e ts []) he (subst (λ us. Expression w s l a ts us) hu d) }

statements-least : {f : Ex} {ss : List Stm} {own : List Token} → Statements ss (word minimising_word ∷ own) → ss ≡ minimise f ∷ [] → WholeExpression f own
statements-least (more_statements (parts_statement b ps) r) h = elim b [ ]
statements-least (more_statements (minimising_statement d) r) h = let e = minimise-is h in whole-expression e.0 (no-tokens r e.1) d

statements-greatest : {f : Ex} {ss : List Stm} {own : List Token} → Statements ss (word maximising_word ∷ own) → ss ≡ maximise f ∷ [] → WholeExpression f own
statements-greatest (more_statements (parts_statement b ps) r) h = elim b [ ]
statements-greatest (more_statements (maximising_statement d) r) h = let e = maximise-is h in whole-expression e.0 (no-tokens r e.1) d

-- ---- the part of the constraints

plain-parts : {ss : List Stm} {ts us : List Token} → Parts such_word ss ts us → all_plain ts ≡ all_plain us
plain-parts (last_part (such_that_part d)) = plain-tokens (expression-own d)
plain-parts (next_part (such_that_part d) ps) = plain-tokens (expression-own d) ∙ plain-parts ps

-- Behind tokens of one part stand no statements.
plain-end : {rs : List Stm} {us : List Token} → Statements rs us → all_plain us ≡ true → (us ≡ []) × (rs ≡ [])
plain-end no_statements h = (refl, refl)
plain-end (more_statements (parts_statement begins_given ps) r) h = cc
plain-end (more_statements (parts_statement begins_find ps) r) h = cc
plain-end (more_statements (parts_statement begins_letting ps) r) h = cc
plain-end (more_statements (parts_statement begins_where ps) r) h = cc
plain-end (more_statements (parts_statement begins_such_that ps) r) h = cc
plain-end (more_statements (minimising_statement d) r) h = cc
plain-end (more_statements (maximising_statement d) r) h = cc

-- Parts of constraints are constraints.
record AsConstraints (ss : List Stm) (ts : List Token) : Type 0 where
  es : List Ex
  is : constraints_of ss ≡ Some es
  derivation : Constraints es ts

as-constraints : {ss : List Stm} {ts us : List Token} → Parts such_word ss ts us → us ≡ [] → AsConstraints ss ts
as-constraints (last_part (such_that_part {w = w} {s = s} {l = l} {e = e} {ts = ts} d)) h = record { es = e ∷ []; is = refl; derivation = last_constraint (subst (λ us. Expression w s l e ts us) h d) }
as-constraints (next_part (such_that_part {e = e} d) ps) h =
    let c = as-constraints ps h in record { es = e ∷ c.es; is = ap (constraint_before e) c.is; derivation = next_constraint d c.derivation }

some-is : {es fs : List Ex} → Some es ≡ Some fs → es ≡ fs
some-is h = cc

statements-constraints : {es : List Ex} {ss : List Stm} {own : List Token} → Statements ss (word such_word ∷ own) → all_plain own ≡ true → constraints_of ss ≡ Some es → SuchThat es (word such_word ∷ own)
statements-constraints {es = es} {own = own} (more_statements {ss = ss} {rs = rs} (parts_statement begins_such_that ps) r) p h =
    let e = plain-end r (sym (plain-parts ps) ∙ p) in
    let c = as-constraints ps e.0 in
    let g : constraints_of (ss ++ rs) ≡ Some c.es = ap (λ rs. constraints_of (ss ++ rs)) e.1 ∙ ap constraints_of (append-nil ss) ∙ c.is in
    subst (λ es. SuchThat es (word such_word ∷ own)) (some-is (sym g ∙ h)) (constraints c.derivation)

-- ---- what the machine of specifications answers of a part

readable-is : (m k : Model) (b : Bool) → elim b as (λ b. Option Model) [ true ↦ Some m | false ↦ None ] ≡ Some k → (m ≡ k) × (b ≡ true)
readable-is m k true h = (cc, refl)
readable-is m k false h = cc

-- It is a given.
pub record GivenPart (m k : Model) (own : List Token) : Type 0 where
  pub a : Text
  pub d : Dom
  pub part : DeclaredPart a d own
  pub is : readable (more_given m a d) ≡ Some k

-- It is a find.
pub record FindPart (m k : Model) (own : List Token) : Type 0 where
  pub a : Text
  pub d : Dom
  pub part : DeclaredPart a d own
  pub is : readable (more_find m a d) ≡ Some k

-- It is an objective.
pub record LeastPart (m k : Model) (own : List Token) : Type 0 where
  pub e : Ex
  pub part : WholeExpression e own
  pub is : readable (with_objective m (least e)) ≡ Some k

pub record GreatestPart (m k : Model) (own : List Token) : Type 0 where
  pub e : Ex
  pub part : WholeExpression e own
  pub is : readable (with_objective m (greatest e)) ≡ Some k

-- It is the constraints.
pub record ConstraintsPart (m k : Model) (own : List Token) : Type 0 where
  pub es : List Ex
  pub part : SuchThat es (word such_word ∷ own)
  pub is : readable (with_constraints m es) ≡ Some k

-- The statements of a specification without a language line.
statements-of : {ss : List Stm} {w : Word} {own : List Token} → IsSpecification ss (word w ∷ own) → (w ≡ language_word → ⊥) → Statements ss (word w ∷ own)
statements-of (specification no_language_line s) h = s
statements-of (specification language_line s) h = absurd (h refl)

specification-of : {ss : List Stm} (ts : List Token) → read_specification ts ≡ Some (specification_answer ss) → IsSpecification ss ts
specification-of ts h = subst (λ r. IsSound ts r) h (sound-specification ts)

pub given-part : (m k : Model) (own : List Token) (x : Answer) → read_specification (word given_word ∷ own) ≡ Some x → part_ended given_word m (Some x) ≡ Some k → GivenPart m k own
given-part m k own (specification_answer (given a d ∷ [])) h e =
    record { a = a; d = d; part = statements-given (statements-of (specification-of (word given_word ∷ own) h) (λ q. cc)) refl; is = e }
given-part m k own _ h e = cc

pub find-part : (m k : Model) (own : List Token) (x : Answer) → read_specification (word find_word ∷ own) ≡ Some x → part_ended find_word m (Some x) ≡ Some k → FindPart m k own
find-part m k own (specification_answer (find a d ∷ [])) h e =
    record { a = a; d = d; part = statements-find (statements-of (specification-of (word find_word ∷ own) h) (λ q. cc)) refl; is = e }
find-part m k own _ h e = cc

pub least-part : (m k : Model) (own : List Token) (x : Answer) → read_specification (word minimising_word ∷ own) ≡ Some x → part_ended minimising_word m (Some x) ≡ Some k → LeastPart m k own
least-part m k own (specification_answer (minimise f ∷ [])) h e =
    record { e = f; part = statements-least (statements-of (specification-of (word minimising_word ∷ own) h) (λ q. cc)) refl; is = e }
least-part m k own _ h e = cc

pub greatest-part : (m k : Model) (own : List Token) (x : Answer) → read_specification (word maximising_word ∷ own) ≡ Some x → part_ended maximising_word m (Some x) ≡ Some k → GreatestPart m k own
greatest-part m k own (specification_answer (maximise f ∷ [])) h e =
    record { e = f; part = statements-greatest (statements-of (specification-of (word maximising_word ∷ own) h) (λ q. cc)) refl; is = e }
greatest-part m k own _ h e = cc

constraints-found : (m k : Model) (own : List Token) (ss : List Stm) (o : Option (List Ex)) → constraints_of ss ≡ o → all_plain own ≡ true → Statements ss (word such_word ∷ own) → constrained m o ≡ Some k → ConstraintsPart m k own
constraints-found m k own ss None c p d h = cc
constraints-found m k own ss (Some es) c p d h = record { es = es; part = statements-constraints d p c; is = h }

pub constraints-part : (m k : Model) (own : List Token) (x : Answer) → all_plain own ≡ true → read_specification (word such_word ∷ own) ≡ Some x → part_ended such_word m (Some x) ≡ Some k → ConstraintsPart m k own
constraints-part m k own (specification_answer ss) p h e =
    constraints-found m k own ss (constraints_of ss) refl p (statements-of (specification-of (word such_word ∷ own) h) (λ q. cc)) e
constraints-part m k own (expression_answer f) p h e = cc
constraints-part m k own (domain_answer d) p h e = cc

-- A model that is readable is the model itself.
pub is-readable : (m k : Model) → readable m ≡ Some k → (m ≡ k) × IsReadable m
is-readable m k h = readable-is m k _ h
