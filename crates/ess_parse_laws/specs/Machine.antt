-- A machine that reads tokens once, from left to right, with a stack of frames: one step a token, and an answer at the
-- end. It looks at one token at a time, and its steps are structural on tokens, so reading ends. The laws say that it
-- answers exactly what the rules of `ess_grammar` derive.
use Rattle.std.specs.Prelude.{List, None, Option, Some, [], false, true, ◌∷◌}
use Rattle.ess_semantics.specs.Trees.{Dom, Ex, Stm, int_dom, no_exs}
use Rattle.ess_grammar.specs.Words.{Token}
use Rattle.ess_parse_laws.specs.Modes.{Answer, Mode, State, attribute_read, attribute_wanted, axes_read, be_read, by_read, domain_answer, domain_read, domain_wanted, enum_read, expression_answer, field_name_read, field_name_wanted, field_read, field_wanted, first_number_read, function_begun, function_bracket_read, function_literal_begun, function_word_read, given_new_read, given_type_read, indexed_read, inner_begun, int_read, joining_wanted, language_dot_read, language_name_read, language_read, letting_name_read, letting_new_read, letting_type_read, letting_wanted, literal_begun, matrix_begun, name_read, names_wanted, nothing_read, of_read, operand_read, operand_wanted, record_begun, record_literal_begun, relation_begun, relation_of_read, relation_of_wanted, specification_answer, statement_read, such_read, tuple_begun, value_name_read, value_name_wanted}
use Rattle.ess_parse_laws.specs.Frames.{Frame}
use Rattle.ess_parse_laws.specs.Reducing.{Reduced, precedence, reduce, reduce_domain}
use Rattle.ess_parse_laws.specs.Operands.{continue_atom, continues_atom, step_field_read, step_field_wanted, step_function_literal_begun, step_function_word_read, step_literal_begun, step_operand_wanted, step_record_literal_begun}
use Rattle.ess_parse_laws.specs.StatementEnds.{declared, stated}
use Rattle.ess_parse_laws.specs.AfterOperands.{operand_then}
use Rattle.ess_parse_laws.specs.AfterDomains.{reduced_domain_then}
use Rattle.ess_parse_laws.specs.Reversed.{reverse_list}
use Rattle.ess_parse_laws.specs.AttributeSteps.{step_attribute_read, step_attribute_wanted, step_function_bracket_read}
use Rattle.ess_parse_laws.specs.Domains.{step_axes_read, step_by_read, step_domain_wanted, step_field_name_read, step_field_name_wanted, step_function_begun, step_indexed_read, step_inner_begun, step_int_read, step_joining_wanted, step_matrix_begun, step_record_begun, step_relation_begun, step_relation_of_read, step_relation_of_wanted, step_tuple_begun}
use Rattle.ess_parse_laws.specs.StatementSteps.{step_be_read, step_enum_read, step_first_number_read, step_given_new_read, step_given_type_read, step_language_dot_read, step_language_name_read, step_language_read, step_letting_name_read, step_letting_new_read, step_letting_type_read, step_letting_wanted, step_name_read, step_names_wanted, step_nothing_read, step_of_read, step_statement_read, step_such_read, step_value_name_read, step_value_name_wanted}

-- One step of the machine. None: no text that begins with the tokens up to and with this one is derived.
abbrev pub step : Token → Mode → List Frame → Option State
step t operand_wanted fs = step_operand_wanted t fs
step t (operand_read p e) fs = elim (continues_atom t) [ true ↦ continue_atom t e fs | false ↦ operand_then t (reduce (precedence t) fs false p 10 e) ]
step t (function_word_read f) fs = step_function_word_read t f fs
step t (literal_begun o) fs = step_literal_begun t o fs
step t function_literal_begun fs = step_function_literal_begun t fs
step t record_literal_begun fs = step_record_literal_begun t fs
step t field_wanted fs = step_field_wanted t fs
step t (field_read a) fs = step_field_read t a fs
step t domain_wanted fs = step_domain_wanted t fs
step t (domain_read d) fs = reduced_domain_then t (reduce_domain fs d)
step t int_read fs = step_int_read t fs
step t matrix_begun fs = step_matrix_begun t fs
step t indexed_read fs = step_indexed_read t fs
step t by_read fs = step_by_read t fs
step t axes_read fs = step_axes_read t fs
step t tuple_begun fs = step_tuple_begun t fs
step t record_begun fs = step_record_begun t fs
step t field_name_wanted fs = step_field_name_wanted t fs
step t (field_name_read a) fs = step_field_name_read t a fs
step t (inner_begun k) fs = step_inner_begun t k fs
step t (joining_wanted k) fs = step_joining_wanted t k fs
step t relation_begun fs = step_relation_begun t fs
step t relation_of_wanted fs = step_relation_of_wanted t fs
step t relation_of_read fs = step_relation_of_read t fs
step t function_begun fs = step_function_begun t fs
step t function_bracket_read fs = step_function_bracket_read t fs
step t attribute_wanted fs = step_attribute_wanted t fs
step t (attribute_read k) fs = step_attribute_read t k fs
step t nothing_read fs = step_nothing_read t
step t language_read fs = step_language_read t
step t language_name_read fs = step_language_name_read t
step t first_number_read fs = step_first_number_read t
step t language_dot_read fs = step_language_dot_read t
step t (names_wanted g as' ss) fs = step_names_wanted t g as' ss
step t (name_read g as' ss) fs = step_name_read t g as' ss
step t (given_new_read a ss) fs = step_given_new_read t a ss
step t (given_type_read a ss) fs = step_given_type_read t a ss
step t (letting_wanted ss) fs = step_letting_wanted t ss
step t (letting_name_read a ss) fs = step_letting_name_read t a ss
step t (be_read a ss) fs = step_be_read t a ss
step t (letting_new_read a ss) fs = step_letting_new_read t a ss
step t (letting_type_read a ss) fs = step_letting_type_read t a ss
step t (enum_read a ss) fs = step_enum_read t a ss
step t (of_read a ss) fs = step_of_read t a ss
step t (value_name_wanted a bs ss) fs = step_value_name_wanted t a bs ss
step t (value_name_read a bs ss) fs = step_value_name_read t a bs ss
step t (such_read ss) fs = step_such_read t ss
step t (statement_read x ss) fs = step_statement_read t x ss

-- Statements as an answer, in their order.
abbrev pub as_specification : Option (List Stm) → Option Answer
as_specification None = None
as_specification (Some ss) = Some (specification_answer (reverse_list ss []))

-- The answer of an expression at the end of the tokens.
abbrev pub whole_expression : List Frame → Ex → Option Answer
whole_expression [] e = Some (expression_answer e)
whole_expression (f ∷ fs) e = as_specification (stated (f ∷ fs) e)

-- The same of a reduced expression.
abbrev pub whole_operand : Reduced → Option Answer
whole_operand r = whole_expression r.frames r.operand

-- The answer of a domain at the end of the tokens.
abbrev pub whole_domain : List Frame → Dom → Option Answer
whole_domain [] d = Some (domain_answer d)
whole_domain (f ∷ fs) d = as_specification (declared (f ∷ fs) d)

-- The same in a state that has just read a domain.
abbrev pub whole_reduced_domain : State → Option Answer
whole_reduced_domain r = elim r.mode [ domain_read d ↦ whole_domain r.frames d | _ ↦ None ]

-- The answer at the end of the tokens, where a whole text was read.
abbrev pub finish : Mode → List Frame → Option Answer
finish (operand_read p e) fs = whole_operand (reduce 0 fs false p 10 e)
finish (domain_read d) fs = whole_reduced_domain (reduce_domain fs d)
finish int_read fs = whole_reduced_domain (reduce_domain fs (int_dom [] no_exs))
finish nothing_read fs = Some (specification_answer [])
finish (statement_read x ss) fs = Some (specification_answer (reverse_list ss []))
finish _ fs = None

-- What a run answers from a state, if there is one.
abbrev pub then_run : Option State → (Mode → List Frame → Option Answer) → Option Answer
then_run None k = None
then_run (Some r) k = k r.mode r.frames

-- The answer of a run over all the tokens from a mode and frames.
abbrev pub run : List Token → Mode → List Frame → Option Answer
run [] m fs = finish m fs
run (t ∷ ts) m fs = then_run (step t m fs) (run ts)

-- The state of a run from a state, if there is one.
abbrev pub then_state_after : Option State → (Mode → List Frame → Option State) → Option State
then_state_after None k = None
then_state_after (Some r) k = k r.mode r.frames

-- The state behind these tokens, from a mode and frames. None: the machine has stopped at one of them.
abbrev pub state_after : List Token → Mode → List Frame → Option State
state_after [] m fs = Some (record { mode = m; frames = fs })
state_after (t ∷ ts) m fs = then_state_after (step t m fs) (state_after ts)

-- The expression that the tokens are.
abbrev pub read_expression : List Token → Option Answer
read_expression ts = run ts operand_wanted []

-- The statements that the tokens are.
abbrev pub read_specification : List Token → Option Answer
read_specification ts = run ts nothing_read []

-- The domain that the tokens are.
abbrev pub read_domain : List Token → Option Answer
read_domain ts = run ts domain_wanted []
