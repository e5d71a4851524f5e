-- The modes of the machine, its states, and what it answers.
use Rattle.std.specs.Prelude.{Bool, List, Option, Some}
use Rattle.ess_semantics.specs.declared.words.Fun.{Fun}
use Rattle.ess_semantics.specs.declared.words.Key.{Key}
use Rattle.ess_semantics.specs.Trees.{Dom, Ex, Op, Stm}
use Rattle.ess_semantics.specs.Values.{Text}
use Rattle.ess_grammar.specs.Words.{Word}
use Rattle.ess_parse_laws.specs.Frames.{Frame, Inner}

-- What is wanted next, or what was just read.
pub data Mode : Type 0 where
  operand_wanted : Mode
  -- an atom; the flag says whether it is written as a pattern
  operand_read : Bool → Ex → Mode
  -- the words of expressions
  function_word_read : Fun → Mode
  literal_begun : Op → Mode
  function_literal_begun record_literal_begun : Mode
  -- the name of a record literal's field
  field_wanted : Mode
  field_read : Text → Mode
  domain_wanted : Mode
  domain_read : Dom → Mode
  -- the words of domains
  int_read : Mode
  matrix_begun indexed_read by_read axes_read : Mode
  tuple_begun record_begun field_name_wanted : Mode
  field_name_read : Text → Mode
  inner_begun joining_wanted : Inner → Mode
  relation_begun relation_of_wanted relation_of_read : Mode
  function_begun function_bracket_read : Mode
  -- attributes
  attribute_wanted : Mode
  attribute_read : Key → Mode
  -- before the first token, and in the language line
  nothing_read language_read language_name_read first_number_read language_dot_read : Mode
  -- given (true) or found names, behind the statements before them
  names_wanted name_read : Bool → List Text → List Stm → Mode
  -- an enumerated type that is given
  given_new_read given_type_read : Text → List Stm → Mode
  -- a letting
  letting_wanted : List Stm → Mode
  letting_name_read be_read letting_new_read letting_type_read enum_read of_read : Text → List Stm → Mode
  -- the values of an enumerated type
  value_name_wanted value_name_read : Text → List Text → List Stm → Mode
  such_read : List Stm → Mode
  -- a statement that ends in no expression and no domain, of a list of this word; also behind the language line
  statement_read : Word → List Stm → Mode

-- A state: a mode, and the frames from the innermost to the outermost.
pub record State : Type 0 where
  pub mode : Mode
  pub frames : List Frame

-- This state as an answer of a step.
abbrev pub at_state : Mode → List Frame → Option State
at_state m fs = Some (record { mode = m; frames = fs })

-- What a list of tokens is read as: an expression, a domain, or the statements of a specification.
pub data Answer : Type 0 where
  expression_answer : Ex → Answer
  domain_answer : Dom → Answer
  specification_answer : List Stm → Answer
