-- What a token does in the part of a statement that is no expression and no domain, and in the language line.
use Rattle.std.specs.Prelude.{Bool, List, None, Option, [], codes, false, true, ◌∷◌}
use Rattle.std.specs.Str.{bytes_eq}
use Rattle.ess_semantics.specs.Trees.{Stm, given_enum, let_enum}
use Rattle.ess_semantics.specs.Values.{Text}
use Rattle.ess_grammar.specs.Words.{Token, Word, be_word, close_curly, colon, comma, domain_word, dot, enum_word, find_word, given_word, language_word, letting_word, name, new_word, number, of_word, open_curly, such_word, symbol, that_word, type_word, where_word, word}
use Rattle.ess_parse_laws.specs.Modes.{State, at_state, be_read, domain_wanted, enum_read, first_number_read, given_new_read, given_type_read, language_dot_read, language_name_read, language_read, letting_name_read, letting_new_read, letting_type_read, letting_wanted, name_read, names_wanted, of_read, operand_wanted, statement_read, value_name_read, value_name_wanted}
use Rattle.ess_parse_laws.specs.StatementEnds.{begin_statement}
use Rattle.ess_parse_laws.specs.Frames.{declaration_frame, letting_domain_frame, letting_frame, such_that_frame, unnamed_frame, where_frame}
use Rattle.ess_parse_laws.specs.Reversed.{reverse_list}
use Rattle.ess_parse_laws.specs.Operands.{step_operand_wanted}

-- Where the name of a given (true) or a find (false) is wanted.
abbrev pub step_names_wanted : Token → Bool → List Text → List Stm → Option State
step_names_wanted (name a) g as' ss = at_state (name_read g (a ∷ as') ss) []
step_names_wanted _ g as' ss = None

-- Behind that name.
abbrev pub step_name_read : Token → Bool → List Text → List Stm → Option State
step_name_read (symbol comma) g as' ss = at_state (names_wanted g as' ss) []
step_name_read (symbol colon) g as' ss = at_state domain_wanted (declaration_frame g as' ss ∷ [])
step_name_read (word new_word) true (a ∷ []) ss = at_state (given_new_read a ss) []
step_name_read _ g as' ss = None

-- Behind `given a new`.
abbrev pub step_given_new_read : Token → Text → List Stm → Option State
step_given_new_read (word type_word) a ss = at_state (given_type_read a ss) []
step_given_new_read _ a ss = None

-- Behind `given a new type`.
abbrev pub step_given_type_read : Token → Text → List Stm → Option State
step_given_type_read (word enum_word) a ss = at_state (statement_read given_word (given_enum a ∷ ss)) []
step_given_type_read _ a ss = None

-- Where the name of a letting is wanted.
abbrev pub step_letting_wanted : Token → List Stm → Option State
step_letting_wanted (name a) ss = at_state (letting_name_read a ss) []
step_letting_wanted _ ss = None

-- Behind that name.
abbrev pub step_letting_name_read : Token → Text → List Stm → Option State
step_letting_name_read (word be_word) a ss = at_state (be_read a ss) []
step_letting_name_read _ a ss = None

-- Behind `be`.
abbrev pub step_be_read : Token → Text → List Stm → Option State
step_be_read (word domain_word) a ss = at_state domain_wanted (letting_domain_frame a ss ∷ [])
step_be_read (word new_word) a ss = at_state (letting_new_read a ss) []
step_be_read t a ss = step_operand_wanted t (letting_frame a ss ∷ [])

-- Behind `be new`.
abbrev pub step_letting_new_read : Token → Text → List Stm → Option State
step_letting_new_read (word type_word) a ss = at_state (letting_type_read a ss) []
step_letting_new_read _ a ss = None

-- Behind `be new type`.
abbrev pub step_letting_type_read : Token → Text → List Stm → Option State
step_letting_type_read (word enum_word) a ss = at_state (enum_read a ss) []
step_letting_type_read (word of_word) a ss = at_state (of_read a ss) []
step_letting_type_read _ a ss = None

-- Behind `be new type enum`.
abbrev pub step_enum_read : Token → Text → List Stm → Option State
step_enum_read (symbol open_curly) a ss = at_state (value_name_wanted a [] ss) []
step_enum_read _ a ss = None

-- Where the name of a value of an enumerated type is wanted.
abbrev pub step_value_name_wanted : Token → Text → List Text → List Stm → Option State
step_value_name_wanted (name b) a bs ss = at_state (value_name_read a (b ∷ bs) ss) []
step_value_name_wanted _ a bs ss = None

-- Behind that name.
abbrev pub step_value_name_read : Token → Text → List Text → List Stm → Option State
step_value_name_read (symbol comma) a bs ss = at_state (value_name_wanted a bs ss) []
step_value_name_read (symbol close_curly) a bs ss = at_state (statement_read letting_word (let_enum a (reverse_list bs []) ∷ ss)) []
step_value_name_read _ a bs ss = None

-- Behind `be new type of`: `size` is a plain name.
abbrev pub step_of_read : Token → Text → List Stm → Option State
step_of_read (name b) a ss = elim (bytes_eq b (codes "size")) [ true ↦ at_state operand_wanted (unnamed_frame a ss ∷ []) | false ↦ None ]
step_of_read _ a ss = None

-- Behind `such`.
abbrev pub step_such_read : Token → List Stm → Option State
step_such_read (word that_word) ss = at_state operand_wanted (such_that_frame ss ∷ [])
step_such_read _ ss = None

-- Behind a comma: another part of a list of this word.
abbrev pub another_part : Word → List Stm → Option State
another_part given_word ss = at_state (names_wanted true [] ss) []
another_part find_word ss = at_state (names_wanted false [] ss) []
another_part letting_word ss = at_state (letting_wanted ss) []
another_part where_word ss = at_state operand_wanted (where_frame ss ∷ [])
another_part such_word ss = at_state operand_wanted (such_that_frame ss ∷ [])
another_part _ ss = None

-- Behind a statement that ends in no expression and no domain.
abbrev pub step_statement_read : Token → Word → List Stm → Option State
step_statement_read (symbol comma) x ss = another_part x ss
step_statement_read (word y) x ss = begin_statement y ss
step_statement_read _ x ss = None

-- At the first token.
abbrev pub step_nothing_read : Token → Option State
step_nothing_read (word language_word) = at_state language_read []
step_nothing_read t = step_statement_read t language_word []

-- Behind `language`: `Essence` is a plain name.
abbrev pub step_language_read : Token → Option State
step_language_read (name a) = elim (bytes_eq a (codes "Essence")) [ true ↦ at_state language_name_read [] | false ↦ None ]
step_language_read _ = None

-- Behind `language Essence`.
abbrev pub step_language_name_read : Token → Option State
step_language_name_read (number n) = at_state first_number_read []
step_language_name_read _ = None

-- Behind the first number of the language line.
abbrev pub step_first_number_read : Token → Option State
step_first_number_read (symbol dot) = at_state language_dot_read []
step_first_number_read _ = None

-- Behind its dot.
abbrev pub step_language_dot_read : Token → Option State
step_language_dot_read (number n) = at_state (statement_read language_word []) []
step_language_dot_read _ = None
