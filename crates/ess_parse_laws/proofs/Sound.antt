-- What the machine reads, the rules derive: each step keeps the invariant, and at the end it is a derivation.
use Rattle.std.proofs.Common.{◌++◌, Bool, List, None, Option, Some, [], false, le_trans, lit≤, refl, subst, sym, ℕ, ◌∷◌}
use Rattle.ess_semantics.specs.Trees.{Dom, Ex, Stm, given_enum, int_dom, no_exs}
use Rattle.ess_grammar.specs.Grammar.{Domain, Expression, atom_expression, int_domain}
use Rattle.ess_grammar.specs.Statements.{IsSpecification, begins_such_that, given_enum_part, more_statements, no_statements, parts_statement}
use Rattle.ess_grammar.specs.Patterns.{Shape, atom_shape}
use Rattle.ess_grammar.specs.Words.{Token, be_word, by_word, dot, enum_word, indexed_word, int_word, name, number, of_word, open_curly, open_round, open_square, symbol, that_word, type_word, word}
use Rattle.ess_parse_laws.specs.Modes.{Answer, Mode, State, attribute_read, attribute_wanted, axes_read, be_read, by_read, domain_answer, domain_read, domain_wanted, enum_read, expression_answer, field_name_read, field_name_wanted, field_read, field_wanted, first_number_read, function_begun, function_bracket_read, function_literal_begun, function_word_read, given_new_read, given_type_read, indexed_read, inner_begun, int_read, joining_wanted, language_dot_read, language_name_read, language_read, letting_name_read, letting_new_read, letting_type_read, letting_wanted, literal_begun, matrix_begun, name_read, names_wanted, nothing_read, of_read, operand_read, operand_wanted, record_begun, record_literal_begun, relation_begun, relation_of_read, relation_of_wanted, specification_answer, statement_read, such_read, tuple_begun, value_name_read, value_name_wanted}
use Rattle.ess_parse_laws.proofs.Contexts.{DomainContext, OperandContext, axes_before, field_domains_before, fields_before, no_domain_before, nothing_before, pairs_begun_before, such_that_before, tuple_before}
use Rattle.ess_parse_laws.proofs.ReducingSound.{DomainReduced, reduce-atom-keeps, reduce-domain-keeps}
use Rattle.ess_parse_laws.specs.Frames.{Frame}
use Rattle.ess_parse_laws.proofs.Invariant.{Invariant, Keeps, StatedBy}
use Rattle.ess_parse_laws.specs.Laws.{IsExpression}
use Rattle.ess_parse_laws.specs.Machine.{whole_expression, as_specification, finish, read_domain, read_expression, read_specification, run, step, then_run, whole_operand, whole_reduced_domain}
use Rattle.ess_parse_laws.proofs.DomainsWantedSound.{attribute-read-keeps, attribute-wanted-keeps, axes-read-keeps, domain-wanted-keeps, field-name-read-keeps, function-begun-keeps, function-bracket-keeps, inner-begun-keeps, int-read-keeps, joining-wanted-keeps, relation-begun-keeps, relation-of-read-keeps, relation-of-wanted-keeps}
use Rattle.ess_parse_laws.proofs.StatementsSound.{be-read-keeps, language-line-before, language-read-keeps, name-read-keeps, names-wanted-keeps, nothing-before-statements, nothing-read-keeps, of-read-keeps, statement-read-keeps, value-name-read-keeps}
use Rattle.ess_parse_laws.proofs.Booleans.{by_elim}
use Rattle.ess_parse_laws.proofs.OperandsWantedSound.{continue-atom-keeps, field-read-keeps, function-word-keeps, literal-begun-keeps, operand-wanted-keeps}
use Rattle.ess_parse_laws.specs.Operands.{continue_atom, continues_atom}
use Rattle.ess_parse_laws.specs.StatementEnds.{declared, stated}
use Rattle.ess_parse_laws.proofs.DomainEndsSound.{declared-keeps, reduced-domain-then-keeps}
use Rattle.ess_parse_laws.proofs.StatementContexts.{enum_value_read, part-read}
use Rattle.ess_parse_laws.proofs.OperandsSound.{operand-then-keeps, stated-keeps}
use Rattle.ess_parse_laws.specs.AfterOperands.{operand_then}
use Rattle.ess_parse_laws.specs.Reducing.{precedence, reduce, reduce_domain, reduced}

step-keeps : (t0 : List Token) (t : Token) (m : Mode) (fs : List Frame) (ts : List Token) → Invariant t0 m fs (t ∷ ts) → Keeps t0 (step t m fs) ts
step-keeps t0 t operand_wanted fs ts x = operand-wanted-keeps t fs ts x
step-keeps t0 t (operand_read p e) fs ts x =
    by_elim (continues_atom t) (λ r. Keeps t0 r ts) (continue_atom t e fs) (operand_then t (reduce (precedence t) fs false p 10 e)) (λ h. continue-atom-keeps t p e fs ts x)
    (λ h. operand-then-keeps t ts (reduce (precedence t) fs false p 10 e) (reduce-atom-keeps t0 (t ∷ ts) (precedence t) fs p e x.us x.context x.derivation))
step-keeps t0 t (function_word_read f) fs ts x = function-word-keeps t f fs ts x
step-keeps t0 t (literal_begun o) fs ts x = literal-begun-keeps t o fs ts x
step-keeps t0 (symbol open_round) function_literal_begun fs ts x = pairs_begun_before x
step-keeps t0 _ function_literal_begun fs ts x = tt
step-keeps t0 (symbol open_curly) record_literal_begun fs ts x = fields_before (λ bs es xs ds. ds) x
step-keeps t0 _ record_literal_begun fs ts x = tt
step-keeps t0 (name a) field_wanted fs ts x = x
step-keeps t0 _ field_wanted fs ts x = tt
step-keeps t0 t (field_read a) fs ts x = field-read-keeps t a fs ts x
step-keeps t0 t domain_wanted fs ts x = domain-wanted-keeps t fs ts x
step-keeps t0 t (domain_read d) fs ts x = reduced-domain-then-keeps t ts (reduce_domain fs d) (reduce-domain-keeps fs d x.us (t ∷ ts) x.context x.derivation)
step-keeps t0 t int_read fs ts x = int-read-keeps t fs ts x
step-keeps t0 (word indexed_word) matrix_begun fs ts x = x
step-keeps t0 _ matrix_begun fs ts x = tt
step-keeps t0 (word by_word) indexed_read fs ts x = x
step-keeps t0 _ indexed_read fs ts x = tt
step-keeps t0 (symbol open_square) by_read fs ts x = axes_before (λ es xs ks. ks) x
step-keeps t0 _ by_read fs ts x = tt
step-keeps t0 t axes_read fs ts x = axes-read-keeps t fs ts x
step-keeps t0 (symbol open_round) tuple_begun fs ts x = tuple_before {b = false} (λ ds xs ks. ks) x
step-keeps t0 _ tuple_begun fs ts x = tt
step-keeps t0 (symbol open_curly) record_begun fs ts x = field_domains_before (λ ns ds xs ks. ks) x
step-keeps t0 _ record_begun fs ts x = tt
step-keeps t0 (name a) field_name_wanted fs ts x = x
step-keeps t0 _ field_name_wanted fs ts x = tt
step-keeps t0 t (field_name_read a) fs ts x = field-name-read-keeps t a fs ts x
step-keeps t0 t (inner_begun k) fs ts x = inner-begun-keeps t k fs ts x
step-keeps t0 t (joining_wanted k) fs ts x = joining-wanted-keeps t k fs ts x
step-keeps t0 t relation_begun fs ts x = relation-begun-keeps t fs ts x
step-keeps t0 t relation_of_wanted fs ts x = relation-of-wanted-keeps t fs ts x
step-keeps t0 t relation_of_read fs ts x = relation-of-read-keeps t fs ts x
step-keeps t0 t function_begun fs ts x = function-begun-keeps t fs ts x
step-keeps t0 t function_bracket_read fs ts x = function-bracket-keeps t fs ts x
step-keeps t0 t attribute_wanted fs ts x = attribute-wanted-keeps t fs ts x
step-keeps t0 t (attribute_read k) fs ts x = attribute-read-keeps t k fs ts x
step-keeps t0 t nothing_read fs ts x = nothing-read-keeps t ts x
step-keeps t0 t language_read fs ts x = language-read-keeps t ts x
step-keeps t0 (number n) language_name_read fs ts x = (n, x)
step-keeps t0 _ language_name_read fs ts x = tt
step-keeps t0 (symbol dot) first_number_read fs ts x = x
step-keeps t0 _ first_number_read fs ts x = tt
step-keeps t0 (number n) language_dot_read fs ts x = language-line-before x.0 n x.1
step-keeps t0 _ language_dot_read fs ts x = tt
step-keeps t0 t (names_wanted g ns ss) fs ts x = names-wanted-keeps t g ns ss ts x
step-keeps t0 t (name_read g ns ss) fs ts x = name-read-keeps t g ns ss ts x
step-keeps t0 (word type_word) (given_new_read a ss) fs ts x = x
step-keeps t0 _ (given_new_read a ss) fs ts x = tt
step-keeps t0 (word enum_word) (given_type_read a ss) fs ts x = part-read ss (given_enum a ∷ []) x given_enum_part
step-keeps t0 _ (given_type_read a ss) fs ts x = tt
step-keeps t0 (name a) (letting_wanted ss) fs ts x = x
step-keeps t0 _ (letting_wanted ss) fs ts x = tt
step-keeps t0 (word be_word) (letting_name_read a ss) fs ts x = x
step-keeps t0 _ (letting_name_read a ss) fs ts x = tt
step-keeps t0 t (be_read a ss) fs ts x = be-read-keeps t a ss ts x
step-keeps t0 (word type_word) (letting_new_read a ss) fs ts x = x
step-keeps t0 _ (letting_new_read a ss) fs ts x = tt
step-keeps t0 (word enum_word) (letting_type_read a ss) fs ts x = x
step-keeps t0 (word of_word) (letting_type_read a ss) fs ts x = x
step-keeps t0 _ (letting_type_read a ss) fs ts x = tt
step-keeps t0 (symbol open_curly) (enum_read a ss) fs ts x = record { us = ts; names = λ ms xs d. d; parts = x }
step-keeps t0 _ (enum_read a ss) fs ts x = tt
step-keeps t0 t (of_read a ss) fs ts x = of-read-keeps t a ss ts x
step-keeps t0 (name b) (value_name_wanted a bs ss) fs ts x = enum_value_read x
step-keeps t0 _ (value_name_wanted a bs ss) fs ts x = tt
step-keeps t0 t (value_name_read a bs ss) fs ts x = value-name-read-keeps t a bs ss ts x
step-keeps t0 (word that_word) (such_read ss) fs ts x = such_that_before (λ rs qs us d q. x (rs ++ qs) (more_statements (parts_statement begins_such_that d) q))
step-keeps t0 _ (such_read ss) fs ts x = tt
step-keeps t0 t (statement_read y ss) fs ts x = statement-read-keeps t y ss ts x

-- The rules derive the answer for these tokens.
abbrev pub IsDerived : List Token → Answer → Type 0
IsDerived t0 (expression_answer e) = IsExpression e t0
IsDerived t0 (domain_answer d) = Domain d t0 []
IsDerived t0 (specification_answer ss) = IsSpecification ss t0

-- The same of an answer, if there is one.
abbrev pub IsSound : List Token → Option Answer → Type 0
IsSound t0 None = Unit {0}
IsSound t0 (Some x) = IsDerived t0 x

whole-expression : {t0 us : List Token} {w : Bool} {s : Shape} {l : ℕ} {e : Ex} → OperandContext t0 [] us → Expression w s l e us [] → IsExpression e t0
whole-expression {w = w} {s = s} {l = l} nothing_before d = record { ends_in_body = w; shape = s; level = l; derivation = d }

whole-domain : {t0 us : List Token} {d : Dom} → DomainContext t0 [] us → Domain d us [] → Domain d t0 []
whole-domain no_domain_before k = k

specification-sound : (t0 : List Token) (o : Option (List Stm)) → StatedBy t0 o [] → IsSound t0 (as_specification o)
specification-sound t0 None h = tt
specification-sound t0 (Some ss) h = h [] no_statements

operand-sound : {t0 : List Token} (fs : List Frame) (w : Bool) (s : Shape) (l : ℕ) (e : Ex) (us : List Token) → OperandContext t0 fs us → Expression w s l e us [] → IsSound t0 (whole_expression fs e)
operand-sound [] w s l e us x d = whole-expression x d
operand-sound {t0 = t0} (f ∷ fs) w s l e us x d = specification-sound t0 (stated (f ∷ fs) e) (stated-keeps (f ∷ fs) w s l e us [] x d)

domain-sound : {t0 : List Token} (fs : List Frame) (d : Dom) (us : List Token) → DomainContext t0 fs us → Domain d us [] → IsSound t0 (whole_reduced_domain (record { mode = domain_read d; frames = fs }))
domain-sound [] d us x k = whole-domain x k
domain-sound {t0 = t0} (f ∷ fs) d us x k = specification-sound t0 (declared (f ∷ fs) d) (declared-keeps (f ∷ fs) d us [] x k)

reduced-domain-sound : {t0 : List Token} (r : State) → DomainReduced t0 r [] → IsSound t0 (whole_reduced_domain r)
reduced-domain-sound {t0 = t0} r g = subst (λ m. IsSound t0 (whole_reduced_domain (record { mode = m; frames = r.frames }))) (sym g.is) (domain-sound r.frames g.d (g.read).us (g.read).context (g.read).derivation)

finish-sound : (t0 : List Token) (m : Mode) (fs : List Frame) → Invariant t0 m fs [] → IsSound t0 (finish m fs)
finish-sound t0 (operand_read p e) fs x =
    let r = reduce 0 fs false p 10 e in
    let g = reduce-atom-keeps t0 [] 0 fs p e x.us x.context x.derivation in
    operand-sound r.frames r.ends_in_body g.shape r.level r.operand g.us g.context g.ex
finish-sound t0 (domain_read d) fs x = reduced-domain-sound (reduce_domain fs d) (reduce-domain-keeps fs d x.us [] x.context x.derivation)
finish-sound t0 int_read fs x = reduced-domain-sound (reduce_domain fs (int_dom [] no_exs)) (reduce-domain-keeps fs (int_dom [] no_exs) (word int_word ∷ []) [] x int_domain)
finish-sound t0 (statement_read y ss) fs x = x.stop [] no_statements
finish-sound t0 nothing_read fs x = (nothing-before-statements x).stop [] no_statements
finish-sound t0 _ fs x = tt

step-sound : (t0 ts : List Token) (r : Option State) → Keeps t0 r ts → ((m : Mode) (fs : List Frame) → Invariant t0 m fs ts → IsSound t0 (run ts m fs)) → IsSound t0 (then_run r (run ts))
step-sound t0 ts None k f = tt
step-sound t0 ts (Some r) k f = f r.mode r.frames k

run-sound : (t0 ts : List Token) (m : Mode) (fs : List Frame) → Invariant t0 m fs ts → IsSound t0 (run ts m fs)
run-sound t0 [] m fs x = finish-sound t0 m fs x
run-sound t0 (t ∷ ts) m fs x = step-sound t0 ts (step t m fs) (step-keeps t0 t m fs ts x) (λ n gs y. run-sound t0 ts n gs y)

-- An expression that is read is derived.
pub sound : (ts : List Token) → IsSound ts (read_expression ts)
sound ts = run-sound ts ts operand_wanted [] nothing_before

-- A domain that is read is derived.
pub sound-domain : (ts : List Token) → IsSound ts (read_domain ts)
sound-domain ts = run-sound ts ts domain_wanted [] no_domain_before

-- A specification that is read is derived.
pub sound-specification : (ts : List Token) → IsSound ts (read_specification ts)
sound-specification ts = run-sound ts ts nothing_read [] refl
