-- The printed tokens of a readable statement are derived for exactly that statement, whatever follows.
use Rattle.std.proofs.Common.{◌≡◌, true, ◌&&◌, List, [], ◌∷◌}
use Rattle.std.proofs.lemmas.Bool.{and_parts}
use Rattle.ess_semantics.specs.Values.{Text}
use Rattle.ess_semantics.specs.Trees.{Stm, given, given_enum, let_ex, let_dom, let_enum, let_unnamed, needs, find, such_that, minimise, maximise}
use Rattle.ess_grammar.specs.Words.{close_curly}
use Rattle.ess_grammar.specs.Statements.{NameList, last_name, next_name, value_letting, enum_letting, given_part, given_enum_part, find_part, plain_letting_part, domain_letting_part, unnamed_letting_part, where_part, such_that_part, last_part, begins_given, begins_find, begins_letting, begins_where, begins_such_that, Statement, parts_statement, minimising_statement, maximising_statement, no_statements, more_statements, no_language_line, IsSpecification, specification, last_letting, no_lettings, more_lettings, IsLettingsFile, lettings_file}
use Rattle.ess_grammar.specs.Readable.{is_name_token, some_names, are_name_tokens, is_plain_letting, ReadableStm}
use Rattle.ess_print_laws.specs.Pieces.{Piece, sign, tokens_of}
use Rattle.ess_print_laws.specs.Parts.{commas, name_printers}
use Rattle.ess_print_laws.specs.Statements.{stm_pieces}
use Rattle.ess_print_laws.proofs.Derived.{never}
use Rattle.ess_print_laws.proofs.Expressions.{ex-printed, dom-derived}

names-derived : (a : Text) (ns : List Text) (us : List Piece) → NameList (a ∷ ns) (tokens_of (commas (name_printers (a ∷ ns)) us)) (tokens_of us)
names-derived a [] us = last_name
names-derived a (b ∷ ns) us = next_name (names-derived b ns us)

enum-derived : (a : Text) (ns : List Text) → some_names ns ≡ true → (us : List Piece) → Statement (let_enum a ns ∷ []) (tokens_of (stm_pieces (let_enum a ns) us)) (tokens_of us)
enum-derived a [] h us = cc
enum-derived a (b ∷ ns) h us = parts_statement begins_letting (last_part (plain_letting_part (enum_letting (names-derived b ns (sign close_curly ∷ us)))))

pub stm-derived : (s : Stm) → ReadableStm s → (us : List Piece) → Statement (s ∷ []) (tokens_of (stm_pieces s us)) (tokens_of us)
stm-derived (given a d) h us = parts_statement begins_given (last_part (given_part last_name (dom-derived d h.1 us)))
stm-derived (given_enum a) h us = parts_statement begins_given (last_part given_enum_part)
stm-derived (let_ex a e) h us = parts_statement begins_letting (last_part (plain_letting_part (value_letting ((ex-printed e h.1).reads us).derivation)))
stm-derived (let_dom a d) h us = parts_statement begins_letting (last_part (domain_letting_part (dom-derived d h.1 us)))
stm-derived (let_enum a ns) h us =
    enum-derived a ns (and_parts (some_names ns) (are_name_tokens ns) (and_parts (is_name_token a) (some_names ns && are_name_tokens ns) h).1).0 us
stm-derived (let_unnamed a e) h us = parts_statement begins_letting (last_part (unnamed_letting_part ((ex-printed e h.1).reads us).derivation))
stm-derived (needs e) h us = parts_statement begins_where (last_part (where_part ((ex-printed e h).reads us).derivation))
stm-derived (find a d) h us = parts_statement begins_find (last_part (find_part last_name (dom-derived d h.1 us)))
stm-derived (such_that e) h us = parts_statement begins_such_that (last_part (such_that_part ((ex-printed e h).reads us).derivation))
stm-derived (minimise e) h us = minimising_statement ((ex-printed e h).reads us).derivation
stm-derived (maximise e) h us = maximising_statement ((ex-printed e h).reads us).derivation

-- Alone it is a specification.
pub stm-specification : (s : Stm) → ReadableStm s → IsSpecification (s ∷ []) (tokens_of (stm_pieces s []))
stm-specification s h = specification no_language_line (more_statements (stm-derived s h []) no_statements)

enum-file : (a : Text) (ns : List Text) → some_names ns ≡ true → IsLettingsFile (let_enum a ns ∷ []) (tokens_of (stm_pieces (let_enum a ns) []))
enum-file a [] h = never h
enum-file a (b ∷ ns) h = lettings_file no_language_line (more_lettings (last_letting (enum_letting (names-derived b ns (sign close_curly ∷ [])))) no_lettings)

-- A letting alone is a file of lettings.
pub stm-file : (s : Stm) → is_plain_letting s ≡ true → ReadableStm s → IsLettingsFile (s ∷ []) (tokens_of (stm_pieces s []))
stm-file (let_ex a e) p h = lettings_file no_language_line (more_lettings (last_letting (value_letting ((ex-printed e h.1).reads []).derivation)) no_lettings)
stm-file (let_enum a ns) p h =
    enum-file a ns (and_parts (some_names ns) (are_name_tokens ns) (and_parts (is_name_token a) (some_names ns && are_name_tokens ns) h).1).0
stm-file (given a d) p h = never p
stm-file (given_enum a) p h = never p
stm-file (let_dom a d) p h = never p
stm-file (let_unnamed a e) p h = never p
stm-file (needs e) p h = never p
stm-file (find a d) p h = never p
stm-file (such_that e) p h = never p
stm-file (minimise e) p h = never p
stm-file (maximise e) p h = never p
