-- A machine of its own for texts of cells: their rules are those of `ess_grammar`, CellTexts.
use Rattle.std.specs.Prelude.{ℕ, pos, true, false, List, [], ◌∷◌, ◌++◌, Option, Some, None}
use Rattle.ess_semantics.specs.declared.words.Op1.{Op1}
use Rattle.ess_semantics.specs.declared.words.Op2.{Op2}
use Rattle.ess_semantics.specs.Values.{Text}
use Rattle.ess_semantics.specs.Names.{Names}
use Rattle.ess_semantics.specs.Trees.{matrix_literal, Ends, one_value, both_ends, Ex, Exs, number_ex, truth_ex, matrix_ex, no_exs, more_exs, int_dom, plain_node}
use Rattle.ess_grammar.specs.Grammar.{unary_ex}
use Rattle.ess_grammar.specs.Words.{Token, number, name, prime_word, word, operator, symbol, language_word, letting_word, be_word, int_word, true_word, false_word, open_round, close_round, open_square, close_square, comma, semicolon, dot, dots}

-- What is wanted next, or what was just read, in the ranges of a list.
pub data RangeStage : Type 0 where
  -- the first number of a range, perhaps behind its `-`; a first number was read
  low_wanted low_digits_wanted : RangeStage
  low_read : Ex → RangeStage
  -- the second number behind `..`, perhaps behind its `-`; a range with two numbers was read
  high_wanted high_digits_wanted : Ex → RangeStage
  range_read : RangeStage
  -- `]` behind the `)` that closes the ranges
  close_wanted : RangeStage

-- What is wanted next, or what was just read, in a value.
pub data Stage : Type 0 where
  -- a value; a value or `]` behind `[`; a number behind `-`
  value_wanted first_wanted digits_wanted : Stage
  -- a value was read into the innermost list
  item_read : Stage
  -- `int` behind `;`, and `(` behind that
  int_wanted open_wanted : Stage
  -- the ranges of the innermost list, with the forms and the numbers of those that are read
  in_ranges : List Ends → List Ex → RangeStage → Stage

-- What is wanted next in a text.
pub data Mode : Type 0 where
  -- anything; then the tokens of the language line
  nothing_read prime_wanted major_wanted dot_wanted minor_wanted : Mode
  -- a letting or the end; the name and the `be` of a letting
  letting_wanted name_wanted : Mode
  be_wanted : Text → Mode
  -- a value of this name, with the items of the lists that are open, the innermost first
  in_value : Text → List (List Ex) → Stage → Mode

-- A state: the values of names that are read, and a mode.
pub record CellsState : Type 0 where
  pub done : Names Ex
  pub mode : Mode

-- This state as an answer of a step.
abbrev pub at_mode : Names Ex → Mode → Option CellsState
at_mode cs m = Some (record { done = cs; mode = m })

-- A value of the name a in this stage.
abbrev pub at_stage : Names Ex → Text → List (List Ex) → Stage → Option CellsState
at_stage cs a fs s = at_mode cs (in_value a fs s)

-- Expressions before others.
abbrev pub before_exs : List Ex → Exs → Exs
before_exs [] fs = fs
before_exs (e ∷ es) fs = more_exs e (before_exs es fs)

-- The expressions of a list.
abbrev pub listed : List Ex → Exs
listed es = before_exs es no_exs

-- A value that was read: it is that of the name, or the next item of the innermost list.
abbrev pub with_value : Names Ex → Text → List (List Ex) → Ex → Option CellsState
with_value cs a [] e = at_mode (cs ++ (a, e) ∷ []) letting_wanted
with_value cs a (es ∷ fs) e = at_stage cs a ((es ++ e ∷ []) ∷ fs) item_read

-- A list of values with its index domain.
abbrev pub indexed_list : List Ex → List Ends → List Ex → Ex
indexed_list es rs is = matrix_ex (listed es) (int_dom rs (listed is))

-- A list of values without one.
abbrev pub plain_list : List Ex → Ex
plain_list es = plain_node matrix_literal (listed es)

-- `-` before a number.
abbrev pub minus_ex : ℕ → Ex
minus_ex n = unary_ex Op1.Minus (number_ex (pos n))

-- ---- ranges

-- A token behind a whole range: another follows, or the ranges are closed.
abbrev pub step_behind_range : Token → Names Ex → Text → List (List Ex) → List Ends → List Ex → Option CellsState
step_behind_range (symbol comma) cs a fs rs is = at_stage cs a fs (in_ranges rs is low_wanted)
step_behind_range (symbol close_round) cs a fs rs is = at_stage cs a fs (in_ranges rs is close_wanted)
step_behind_range _ cs a fs rs is = None

-- A token where the first number of a range is wanted.
abbrev pub step_low_wanted : Token → Names Ex → Text → List (List Ex) → List Ends → List Ex → Option CellsState
step_low_wanted (number n) cs a fs rs is = at_stage cs a fs (in_ranges rs is (low_read (number_ex (pos n))))
step_low_wanted (operator Op2.Minus) cs a fs rs is = at_stage cs a fs (in_ranges rs is low_digits_wanted)
step_low_wanted _ cs a fs rs is = None

-- A token behind the `-` of the first number.
abbrev pub step_low_digits : Token → Names Ex → Text → List (List Ex) → List Ends → List Ex → Option CellsState
step_low_digits (number n) cs a fs rs is = at_stage cs a fs (in_ranges rs is (low_read (minus_ex n)))
step_low_digits _ cs a fs rs is = None

-- A token behind the first number: a second is wanted, or the range has one.
abbrev pub step_low_read : Token → Names Ex → Text → List (List Ex) → List Ends → List Ex → Ex → Option CellsState
step_low_read (symbol dots) cs a fs rs is low = at_stage cs a fs (in_ranges rs is (high_wanted low))
step_low_read t cs a fs rs is low = step_behind_range t cs a fs (rs ++ one_value ∷ []) (is ++ low ∷ [])

-- Behind a range with two numbers.
abbrev pub with_range : Names Ex → Text → List (List Ex) → List Ends → List Ex → Ex → Ex → Option CellsState
with_range cs a fs rs is low high = at_stage cs a fs (in_ranges (rs ++ both_ends ∷ []) (is ++ low ∷ high ∷ []) range_read)

-- A token where the second number of a range is wanted.
abbrev pub step_high_wanted : Token → Names Ex → Text → List (List Ex) → List Ends → List Ex → Ex → Option CellsState
step_high_wanted (number n) cs a fs rs is low = with_range cs a fs rs is low (number_ex (pos n))
step_high_wanted (operator Op2.Minus) cs a fs rs is low = at_stage cs a fs (in_ranges rs is (high_digits_wanted low))
step_high_wanted _ cs a fs rs is low = None

-- A token behind the `-` of the second number.
abbrev pub step_high_digits : Token → Names Ex → Text → List (List Ex) → List Ends → List Ex → Ex → Option CellsState
step_high_digits (number n) cs a fs rs is low = with_range cs a fs rs is low (minus_ex n)
step_high_digits _ cs a fs rs is low = None

-- A token behind the ranges: the list is closed.
abbrev pub step_close : Token → Names Ex → Text → List (List Ex) → List Ends → List Ex → Option CellsState
step_close (symbol close_square) cs a (es ∷ fs) rs is = with_value cs a fs (indexed_list es rs is)
step_close _ cs a fs rs is = None

-- A token in the ranges of a list.
abbrev pub step_ranges : Token → Names Ex → Text → List (List Ex) → List Ends → List Ex → RangeStage → Option CellsState
step_ranges t cs a fs rs is low_wanted = step_low_wanted t cs a fs rs is
step_ranges t cs a fs rs is low_digits_wanted = step_low_digits t cs a fs rs is
step_ranges t cs a fs rs is (low_read low) = step_low_read t cs a fs rs is low
step_ranges t cs a fs rs is (high_wanted low) = step_high_wanted t cs a fs rs is low
step_ranges t cs a fs rs is (high_digits_wanted low) = step_high_digits t cs a fs rs is low
step_ranges t cs a fs rs is range_read = step_behind_range t cs a fs rs is
step_ranges t cs a fs rs is close_wanted = step_close t cs a fs rs is

-- ---- values

-- A token where a value is wanted.
abbrev pub step_value_wanted : Token → Names Ex → Text → List (List Ex) → Option CellsState
step_value_wanted (number n) cs a fs = with_value cs a fs (number_ex (pos n))
step_value_wanted (operator Op2.Minus) cs a fs = at_stage cs a fs digits_wanted
step_value_wanted (word true_word) cs a fs = with_value cs a fs (truth_ex true)
step_value_wanted (word false_word) cs a fs = with_value cs a fs (truth_ex false)
step_value_wanted (symbol open_square) cs a fs = at_stage cs a fs first_wanted
step_value_wanted _ cs a fs = None

-- A token behind `[`: the list is empty, or its first value begins.
abbrev pub step_first_wanted : Token → Names Ex → Text → List (List Ex) → Option CellsState
step_first_wanted (symbol close_square) cs a fs = with_value cs a fs (plain_list [])
step_first_wanted t cs a fs = step_value_wanted t cs a ([] ∷ fs)

-- A token behind `-`.
abbrev pub step_digits : Token → Names Ex → Text → List (List Ex) → Option CellsState
step_digits (number n) cs a fs = with_value cs a fs (minus_ex n)
step_digits _ cs a fs = None

-- A token behind an item of a list.
abbrev pub step_item_read : Token → Names Ex → Text → List (List Ex) → Option CellsState
step_item_read (symbol comma) cs a fs = at_stage cs a fs value_wanted
step_item_read (symbol semicolon) cs a fs = at_stage cs a fs int_wanted
step_item_read (symbol close_square) cs a (es ∷ fs) = with_value cs a fs (plain_list es)
step_item_read _ cs a fs = None

-- A token behind the `;` of a list.
abbrev pub step_int_wanted : Token → Names Ex → Text → List (List Ex) → Option CellsState
step_int_wanted (word int_word) cs a fs = at_stage cs a fs open_wanted
step_int_wanted _ cs a fs = None

-- A token behind the `int` of a list.
abbrev pub step_open_wanted : Token → Names Ex → Text → List (List Ex) → Option CellsState
step_open_wanted (symbol open_round) cs a fs = at_stage cs a fs (in_ranges [] [] low_wanted)
step_open_wanted _ cs a fs = None

-- A token in a value.
abbrev pub step_value : Token → Names Ex → Text → List (List Ex) → Stage → Option CellsState
step_value t cs a fs value_wanted = step_value_wanted t cs a fs
step_value t cs a fs first_wanted = step_first_wanted t cs a fs
step_value t cs a fs digits_wanted = step_digits t cs a fs
step_value t cs a fs item_read = step_item_read t cs a fs
step_value t cs a fs int_wanted = step_int_wanted t cs a fs
step_value t cs a fs open_wanted = step_open_wanted t cs a fs
step_value t cs a fs (in_ranges rs is s) = step_ranges t cs a fs rs is s

-- ---- texts

-- A token where a letting may begin.
abbrev pub step_letting_wanted : Token → Names Ex → Option CellsState
step_letting_wanted (word letting_word) cs = at_mode cs name_wanted
step_letting_wanted _ cs = None

-- The first token.
abbrev pub step_nothing_read : Token → Names Ex → Option CellsState
step_nothing_read (word language_word) cs = at_mode cs prime_wanted
step_nothing_read t cs = step_letting_wanted t cs

-- A token of the language line, which goes on with a mode.
abbrev pub step_prime : Token → Names Ex → Option CellsState
step_prime prime_word cs = at_mode cs major_wanted
step_prime _ cs = None

-- A number of the language line.
abbrev pub step_line_number : Mode → Token → Names Ex → Option CellsState
step_line_number m (number n) cs = at_mode cs m
step_line_number m _ cs = None

-- The dot of the language line.
abbrev pub step_dot : Token → Names Ex → Option CellsState
step_dot (symbol dot) cs = at_mode cs minor_wanted
step_dot _ cs = None

-- The name of a letting.
abbrev pub step_name : Token → Names Ex → Option CellsState
step_name (name a) cs = at_mode cs (be_wanted a)
step_name _ cs = None

-- The word behind the name of a letting.
abbrev pub step_be : Token → Names Ex → Text → Option CellsState
step_be (word be_word) cs a = at_stage cs a [] value_wanted
step_be _ cs a = None

-- One step of the machine, from these values of names and a mode. None: no text of cells begins with the tokens up to and
-- with this one.
abbrev pub cells_step_at : Token → Names Ex → Mode → Option CellsState
cells_step_at t cs nothing_read = step_nothing_read t cs
cells_step_at t cs prime_wanted = step_prime t cs
cells_step_at t cs major_wanted = step_line_number dot_wanted t cs
cells_step_at t cs dot_wanted = step_dot t cs
cells_step_at t cs minor_wanted = step_line_number letting_wanted t cs
cells_step_at t cs letting_wanted = step_letting_wanted t cs
cells_step_at t cs name_wanted = step_name t cs
cells_step_at t cs (be_wanted a) = step_be t cs a
cells_step_at t cs (in_value a fs s) = step_value t cs a fs s

-- One step of the machine.
abbrev pub cells_step : Token → CellsState → Option CellsState
cells_step t s = cells_step_at t s.done s.mode

-- Whether a text may end in a mode.
abbrev pub finish_at : Names Ex → Mode → Option (Names Ex)
finish_at cs nothing_read = Some cs
finish_at cs letting_wanted = Some cs
finish_at cs _ = None

-- The answer at the end of the tokens.
abbrev pub cells_finish : CellsState → Option (Names Ex)
cells_finish s = finish_at s.done s.mode

-- Before the first token.
abbrev pub cells_start : CellsState
cells_start = record { done = []; mode = nothing_read }

-- ---- runs

-- What a run gives from a state, if there is one.
abbrev pub from_cells : {B : Type 0} → (CellsState → Option B) → Option CellsState → Option B
from_cells k None = None
from_cells k (Some s) = k s

-- The answer of a run over all the tokens from a state.
abbrev pub cells_run : List Token → CellsState → Option (Names Ex)
cells_run [] s = cells_finish s
cells_run (t ∷ ts) s = from_cells (cells_run ts) (cells_step t s)

-- The state behind these tokens. None: the machine has stopped at one of them.
abbrev pub cells_state_after : List Token → CellsState → Option CellsState
cells_state_after [] s = Some s
cells_state_after (t ∷ ts) s = from_cells (cells_state_after ts) (cells_step t s)

-- The values of names that the tokens are.
abbrev pub read_cell_tokens : List Token → Option (Names Ex)
read_cell_tokens ts = cells_run ts cells_start
