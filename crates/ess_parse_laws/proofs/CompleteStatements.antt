-- What the rules derive as a specification, the machine reads.
use Rattle.std.proofs.Common.{List, Option, Some, [], ap, false, not, refl, true, ◌∙◌, ◌∷◌, ◌≡◌}
use Rattle.ess_semantics.specs.Trees.{Stm}
use Rattle.ess_grammar.specs.Statements.{Begins, IsSpecification, Part, Parts, Statement, Statements, begins_find, begins_given, begins_letting, begins_such_that, begins_where, domain_letting_part, enum_letting, find_part, given_enum_part, given_part, language_line, last_part, maximising_statement, minimising_statement, more_statements, next_part, no_language_line, no_statements, parts_statement, plain_letting_part, specification, such_that_part, unnamed_letting_part, value_letting, where_part}
use Rattle.ess_grammar.specs.Words.{Token, Word, find_word, given_word, language_word, maximising_word, minimising_word}
use Rattle.ess_grammar.proofs.FirstTokens.{expression-first}
use Rattle.ess_parse_laws.specs.Modes.{Answer, nothing_read, specification_answer, statement_read}
use Rattle.ess_parse_laws.proofs.StatementRuns.{EndsPart, comma_follows, declarations-find, declarations-given, enum-run, find-ends, given-ends, letting-begins, letting-domain-ends, letting-ends, maximising-ends, minimising-ends, names-run, part-no-bracket, part-stops, part_done, reverse-append, reverse-twice, such-that-ends, text_ends, unnamed-ends, where-ends, word_follows}
use Rattle.ess_parse_laws.specs.StatementSteps.{another_part}
use Rattle.ess_parse_laws.specs.Frames.{declaration_frame, letting_domain_frame, letting_frame, objective_frame, such_that_frame, unnamed_frame, where_frame}
use Rattle.ess_parse_laws.proofs.DerivedRuns.{domain-run, expression-run}
use Rattle.ess_parse_laws.proofs.ExpressionEnds.{fits-else}
use Rattle.ess_parse_laws.proofs.Booleans.{or-true, zero-le}
use Rattle.ess_parse_laws.specs.Machine.{read_specification, run, then_run}
use Rattle.ess_parse_laws.specs.Reversed.{reverse_list}

-- The run over the parts of a list behind its word.
abbrev part_start : Word → List Stm → List Token → Option Answer
part_start t ss ts = then_run (another_part t ss) (run ts)

part-run : {t : Word} {ss : List Stm} {ts us : List Token} → Part t ss ts us → (acc : List Stm) → EndsPart us → part_start t acc ts ≡ part_done t (reverse_list ss acc) us
part-run (given_part {ns = as'} {d = d} {vs = vs} ns k) acc z =
    names-run ns true [] acc ∙ domain-run k (declaration_frame true (reverse_list as' []) acc ∷ []) (part-no-bracket z) ∙ given-ends z (reverse_list as' []) acc d ∙ ap (λ ss. part_done given_word ss vs) (declarations-given as' [] d acc)
part-run given_enum_part acc z = refl
part-run (find_part {ns = as'} {d = d} {vs = vs} ns k) acc z =
    names-run ns false [] acc ∙ domain-run k (declaration_frame false (reverse_list as' []) acc ∷ []) (part-no-bracket z) ∙ find-ends z (reverse_list as' []) acc d ∙ ap (λ ss. part_done find_word ss vs) (declarations-find as' [] d acc)
part-run (plain_letting_part (value_letting {w = w} {s = s} {l = l} {a = a} {e = e} {ts = ts} d)) acc z =
    letting-begins ts a acc (expression-first d) ∙ expression-run d (letting_frame a acc ∷ []) zero-le (part-stops z w l) (fits-else (letting_frame a acc ∷ []) (λ x. refl) s) (or-true (not w)) ∙ letting-ends z a acc w s l e
part-run (plain_letting_part (enum_letting {a = a} ns)) acc z = enum-run ns a [] acc
part-run (domain_letting_part {a = a} {d = d} k) acc z = domain-run k (letting_domain_frame a acc ∷ []) (part-no-bracket z) ∙ letting-domain-ends z a acc d
part-run (unnamed_letting_part {w = w} {s = s} {l = l} {a = a} {e = e} d) acc z =
    expression-run d (unnamed_frame a acc ∷ []) zero-le (part-stops z w l) (fits-else (unnamed_frame a acc ∷ []) (λ x. refl) s) (or-true (not w)) ∙ unnamed-ends z a acc w s l e
part-run (where_part {w = w} {s = s} {l = l} {e = e} d) acc z =
    expression-run d (where_frame acc ∷ []) zero-le (part-stops z w l) (fits-else (where_frame acc ∷ []) (λ x. refl) s) (or-true (not w)) ∙ where-ends z acc w s l e
part-run (such_that_part {w = w} {s = s} {l = l} {e = e} d) acc z =
    expression-run d (such_that_frame acc ∷ []) zero-le (part-stops z w l) (fits-else (such_that_frame acc ∷ []) (λ x. refl) s) (or-true (not w)) ∙ such-that-ends z acc w s l e

parts-run : {t : Word} {ss : List Stm} {ts us : List Token} → Parts t ss ts us → (acc : List Stm) → EndsPart us → part_start t acc ts ≡ part_done t (reverse_list ss acc) us
parts-run (last_part p) acc z = part-run p acc z
parts-run (next_part {x = t} {ss = ss} {rs = rs} {vs = vs} p ps) acc z = part-run p acc comma_follows ∙ parts-run ps (reverse_list ss acc) z ∙ ap (λ xs. part_done t xs vs) (reverse-append ss rs acc)

begins-run : {t : Word} {ts us : List Token} → Begins t ts us → (x : Word) (acc : List Stm) → run ts (statement_read x acc) [] ≡ part_start t acc us
begins-run begins_given x acc = refl
begins-run begins_find x acc = refl
begins-run begins_letting x acc = refl
begins-run begins_where x acc = refl
begins-run begins_such_that x acc = refl

-- The run over a statement: behind it a list of the word y may go on.
record StatementRun (x : Word) (ss acc : List Stm) (ts us : List Token) : Type 0 where
  y : Word
  is : run ts (statement_read x acc) [] ≡ part_done y (reverse_list ss acc) us

statement-run : {ss : List Stm} {ts us : List Token} → Statement ss ts us → (x : Word) (acc : List Stm) → EndsPart us → StatementRun x ss acc ts us
statement-run (parts_statement {x = t} l ps) x acc z = record { y = t; is = begins-run l x acc ∙ parts-run ps acc z }
statement-run (minimising_statement {w = w} {s = s} {l = l} {e = e} d) x acc z =
    record { y = minimising_word; is = expression-run d (objective_frame false acc ∷ []) zero-le (part-stops z w l) (fits-else (objective_frame false acc ∷ []) (λ x. refl) s) (or-true (not w)) ∙ minimising-ends z acc w s l e }
statement-run (maximising_statement {w = w} {s = s} {l = l} {e = e} d) x acc z =
    record { y = maximising_word; is = expression-run d (objective_frame true acc ∷ []) zero-le (part-stops z w l) (fits-else (objective_frame true acc ∷ []) (λ x. refl) s) (or-true (not w)) ∙ maximising-ends z acc w s l e }

statements-end : {ss : List Stm} {ts : List Token} → Statements ss ts → EndsPart ts
statements-end no_statements = text_ends
statements-end (more_statements (parts_statement begins_given ps) r) = word_follows
statements-end (more_statements (parts_statement begins_find ps) r) = word_follows
statements-end (more_statements (parts_statement begins_letting ps) r) = word_follows
statements-end (more_statements (parts_statement begins_where ps) r) = word_follows
statements-end (more_statements (parts_statement begins_such_that ps) r) = word_follows
statements-end (more_statements (minimising_statement d) r) = word_follows
statements-end (more_statements (maximising_statement d) r) = word_follows

statements-run : {ss : List Stm} {ts : List Token} → Statements ss ts → (x : Word) (acc : List Stm) → run ts (statement_read x acc) [] ≡ Some (specification_answer (reverse_list (reverse_list ss acc) []))
statements-run no_statements x acc = refl
statements-run (more_statements {ss = ss} {rs = rs} s r) x acc =
    let k = statement-run s x acc (statements-end r) in k.is ∙ statements-run r k.y (reverse_list ss acc) ∙ ap (λ xs. Some (specification_answer (reverse_list xs []))) (reverse-append ss rs acc)

first-statement : {ss : List Stm} {ts : List Token} → Statements ss ts → run ts nothing_read [] ≡ run ts (statement_read language_word []) []
first-statement no_statements = refl
first-statement (more_statements (parts_statement begins_given ps) r) = refl
first-statement (more_statements (parts_statement begins_find ps) r) = refl
first-statement (more_statements (parts_statement begins_letting ps) r) = refl
first-statement (more_statements (parts_statement begins_where ps) r) = refl
first-statement (more_statements (parts_statement begins_such_that ps) r) = refl
first-statement (more_statements (minimising_statement d) r) = refl
first-statement (more_statements (maximising_statement d) r) = refl

-- A specification that the rules derive is read.
pub complete-specification : {ss : List Stm} {ts : List Token} → IsSpecification ss ts → read_specification ts ≡ Some (specification_answer ss)
complete-specification {ss = ss} (specification no_language_line d) = first-statement d ∙ statements-run d language_word [] ∙ ap (λ xs. Some (specification_answer xs)) (reverse-twice ss [])
complete-specification {ss = ss} (specification language_line d) = statements-run d language_word [] ∙ ap (λ xs. Some (specification_answer xs)) (reverse-twice ss [])
