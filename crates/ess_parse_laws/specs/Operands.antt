-- What a token does where an operand is wanted, and behind the words and atoms of expressions.
use Rattle.std.specs.Prelude.{Bool, List, None, Option, Some, [], false, pos, true, ◌∷◌}
use Rattle.ess_semantics.specs.declared.words.Fun.{Fun}
use Rattle.ess_semantics.specs.declared.words.Op2.{Op2}
use Rattle.ess_semantics.specs.Trees.{Ex, Op, application, function_literal, low_end, matrix_literal, more_exs, mset_literal, name_ex, no_exs, number_ex, partition_literal, plain_node, relation_literal, set_literal, truth_ex, tuple_literal}
use Rattle.ess_semantics.specs.Values.{Text}
use Rattle.ess_grammar.specs.Words.{Token, bar, close_curly, close_round, close_square, comma, dots, exclamation, exists_word, false_word, for_all_word, function, function_word, mset_word, name, number, open_curly, open_round, open_square, operator, partition_word, record_word, relation_word, symbol, true_word, tuple_word, word}
use Rattle.ess_parse_laws.specs.Frames.{Frame, bar_frame, field_value_frame, fields_frame, high_bound_frame, index_list, list_frame, lone_high_bound_frame, minus_frame, node_list, not_frame, pair_left_frame, ranges_frame, round_list}
use Rattle.ess_parse_laws.specs.Modes.{State, at_state, field_read, field_wanted, function_literal_begun, function_word_read, literal_begun, operand_read, operand_wanted, record_literal_begun}
use Rattle.ess_parse_laws.specs.Items.{begin_quantifier}
use Rattle.ess_parse_laws.specs.AfterOperands.{end_ranges}

-- A closing round bracket where an operand is wanted: an empty list, or a range without its upper bound.
abbrev pub nothing_then_close_round : List Frame → Option State
nothing_then_close_round (list_frame (node_list mset_literal) close_round j no_exs ∷ fs) = at_state (operand_read false (plain_node mset_literal no_exs)) fs
nothing_then_close_round (list_frame (node_list relation_literal) close_round j no_exs ∷ fs) = at_state (operand_read false (plain_node relation_literal no_exs)) fs
nothing_then_close_round (list_frame (node_list partition_literal) close_round j no_exs ∷ fs) = at_state (operand_read false (plain_node partition_literal no_exs)) fs
nothing_then_close_round (pair_left_frame no_exs ∷ fs) = at_state (operand_read false (plain_node function_literal no_exs)) fs
nothing_then_close_round (high_bound_frame rs es a ∷ fs) = end_ranges (low_end ∷ rs) (more_exs a es) fs
nothing_then_close_round _ = None

-- A closing square bracket there: an empty matrix.
abbrev pub nothing_then_close_square : List Frame → Option State
nothing_then_close_square (list_frame (node_list matrix_literal) close_square j no_exs ∷ fs) = at_state (operand_read false (plain_node matrix_literal no_exs)) fs
nothing_then_close_square _ = None

-- A closing curly bracket there: an empty set.
abbrev pub nothing_then_close_curly : List Frame → Option State
nothing_then_close_curly (list_frame (node_list set_literal) close_curly j no_exs ∷ fs) = at_state (operand_read false (plain_node set_literal no_exs)) fs
nothing_then_close_curly _ = None

-- A comma there: a range without its upper bound.
abbrev pub nothing_then_comma : List Frame → Option State
nothing_then_comma (high_bound_frame rs es a ∷ fs) = at_state operand_wanted (ranges_frame (low_end ∷ rs) (more_exs a es) ∷ fs)
nothing_then_comma _ = None

-- Two dots there: a range without its lower bound.
abbrev pub nothing_then_dots : List Frame → Option State
nothing_then_dots (ranges_frame rs es ∷ fs) = at_state operand_wanted (lone_high_bound_frame rs es ∷ fs)
nothing_then_dots _ = None

-- What a token does where an operand is wanted.
abbrev pub step_operand_wanted : Token → List Frame → Option State
step_operand_wanted (number n) fs = at_state (operand_read false (number_ex (pos n))) fs
step_operand_wanted (name a) fs = at_state (operand_read true (name_ex a)) fs
step_operand_wanted (word true_word) fs = at_state (operand_read false (truth_ex true)) fs
step_operand_wanted (word false_word) fs = at_state (operand_read false (truth_ex false)) fs
step_operand_wanted (word tuple_word) fs = at_state (literal_begun tuple_literal) fs
step_operand_wanted (word mset_word) fs = at_state (literal_begun mset_literal) fs
step_operand_wanted (word relation_word) fs = at_state (literal_begun relation_literal) fs
step_operand_wanted (word partition_word) fs = at_state (literal_begun partition_literal) fs
step_operand_wanted (word function_word) fs = at_state function_literal_begun fs
step_operand_wanted (word record_word) fs = at_state record_literal_begun fs
step_operand_wanted (word for_all_word) fs = begin_quantifier Fun.And fs
step_operand_wanted (word exists_word) fs = begin_quantifier Fun.Or fs
step_operand_wanted (function f) fs = at_state (function_word_read f) fs
step_operand_wanted (operator Op2.Minus) fs = at_state operand_wanted (minus_frame ∷ fs)
step_operand_wanted (symbol exclamation) fs = at_state operand_wanted (not_frame ∷ fs)
step_operand_wanted (symbol bar) fs = at_state operand_wanted (bar_frame ∷ fs)
step_operand_wanted (symbol open_round) fs = at_state operand_wanted (list_frame round_list close_round true no_exs ∷ fs)
step_operand_wanted (symbol open_square) fs = at_state operand_wanted (list_frame (node_list matrix_literal) close_square true no_exs ∷ fs)
step_operand_wanted (symbol open_curly) fs = at_state operand_wanted (list_frame (node_list set_literal) close_curly true no_exs ∷ fs)
step_operand_wanted (symbol close_round) fs = nothing_then_close_round fs
step_operand_wanted (symbol close_square) fs = nothing_then_close_square fs
step_operand_wanted (symbol close_curly) fs = nothing_then_close_curly fs
step_operand_wanted (symbol comma) fs = nothing_then_comma fs
step_operand_wanted (symbol dots) fs = nothing_then_dots fs
step_operand_wanted _ fs = None

-- The same in a state that was just reached, if any.
abbrev pub then_operand_wanted : Token → Option State → Option State
then_operand_wanted t None = None
then_operand_wanted t (Some r) = step_operand_wanted t r.frames

-- Whether the token is an opening round bracket.
abbrev pub is_open_round : Token → Bool
is_open_round (symbol open_round) = true
is_open_round _ = false

-- Whether the function word is `sum`, which begins quantifiers too.
abbrev pub is_sum_word : Fun → Bool
is_sum_word Fun.Sum = true
is_sum_word _ = false

-- Whether the token goes on with an atom, by an index or an application.
abbrev pub continues_atom : Token → Bool
continues_atom (symbol open_round) = true
continues_atom (symbol open_square) = true
continues_atom _ = false

-- Behind that token.
abbrev pub continue_atom : Token → Ex → List Frame → Option State
continue_atom (symbol open_square) e fs = at_state operand_wanted (list_frame index_list close_square true (more_exs e no_exs) ∷ fs)
continue_atom (symbol open_round) e fs = at_state operand_wanted (list_frame (node_list application) close_round true (more_exs e no_exs) ∷ fs)
continue_atom _ e fs = None

-- Behind the word of a literal.
abbrev pub step_literal_begun : Token → Op → List Frame → Option State
step_literal_begun (symbol open_round) o fs = at_state operand_wanted (list_frame (node_list o) close_round true no_exs ∷ fs)
step_literal_begun _ o fs = None

-- Behind a function word: a call, or a quantifier with `sum`.
abbrev pub step_function_word_read : Token → Fun → List Frame → Option State
step_function_word_read t f fs =
    elim (is_open_round t) [
      | true ↦ at_state operand_wanted (list_frame (node_list (Op.word f)) close_round true no_exs ∷ fs)
      | false ↦ elim (is_sum_word f) [ true ↦ then_operand_wanted t (begin_quantifier Fun.Sum fs) | false ↦ None ]
    ]

-- Behind `function` in an expression.
abbrev pub step_function_literal_begun : Token → List Frame → Option State
step_function_literal_begun (symbol open_round) fs = at_state operand_wanted (pair_left_frame no_exs ∷ fs)
step_function_literal_begun _ fs = None

-- Behind `record` in an expression.
abbrev pub step_record_literal_begun : Token → List Frame → Option State
step_record_literal_begun (symbol open_curly) fs = at_state field_wanted (fields_frame [] no_exs ∷ fs)
step_record_literal_begun _ fs = None

-- Where the name of a record literal's field is wanted.
abbrev pub step_field_wanted : Token → List Frame → Option State
step_field_wanted (name a) fs = at_state (field_read a) fs
step_field_wanted _ fs = None

-- Behind that name.
abbrev pub step_field_read : Token → Text → List Frame → Option State
step_field_read (operator Op2.Eq) a (fields_frame as' es ∷ fs) = at_state operand_wanted (field_value_frame (a ∷ as') es ∷ fs)
step_field_read _ a fs = None
