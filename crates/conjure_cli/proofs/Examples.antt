-- Worked examples of the definitions.
use Rattle.std.specs.Prelude.{◌≡◌, true, false, List, [], ◌∷◌, ◌++◌, codes, refl}
use Rattle.std.specs.Fmt.{digits}
use Rattle.conjure_cli_laws.specs.Words.{language_words}
use Rattle.conjure_cli_laws.specs.SmallGrammar.{Statement, find, such_that, is_name, is_number, value_from, lines_of, SayEach}
use Rattle.conjure_cli_laws.specs.ModelText.{model_lines, free_name, cells, with_commas}

-- lines
no_lines : lines_of [] ≡ []
no_lines = refl

empty_line : lines_of (10 ∷ []) ≡ [] ∷ []
empty_line = refl

last_may_lack : lines_of (codes "a" ++ 10 ∷ codes "b") ≡ lines_of (codes "a" ++ 10 ∷ codes "b" ++ 10 ∷ [])
last_may_lack = refl

two_lines : lines_of (codes "a" ++ 10 ∷ codes "bc") ≡ codes "a" ∷ codes "bc" ∷ []
two_lines = refl

-- names and numbers
name_s : is_name (codes "s2x") ≡ true
unfolding language_words
name_s = refl

word_is_no_name : is_name (codes "find") ≡ false
unfolding language_words
word_is_no_name = refl

word_outside_is_no_name : is_name (codes "sequence") ≡ false
unfolding language_words
word_outside_is_no_name = refl

attribute_word_is_a_name : is_name (codes "size") ≡ true
unfolding language_words
attribute_word_is_a_name = refl

digit_begins_no_name : is_name (codes "2s") ≡ false
unfolding language_words
digit_begins_no_name = refl

underscore_is_in_no_name : is_name (codes "s_Occurrence") ≡ false
unfolding language_words
underscore_is_in_no_name = refl

zeros_in_front : value_from 0 (codes "007") ≡ 7
zeros_in_front = refl

largest_number : is_number (codes "9223372036854775807") ≡ true
largest_number = refl

one_more : is_number (codes "9223372036854775808") ≡ false
one_more = refl

no_digit : is_number [] ≡ false
no_digit = refl

-- the text with a set of the numbers 1 to 3 and a member
two_statements : List Statement
two_statements = find (codes "s") 1 3 ∷ such_that 2 (codes "s") ∷ []

they_are_said : SayEach (lines_of (codes "find s : set of int(1..3)" ++ 10 ∷ codes "such that 2 in s" ++ 10 ∷ [])) two_statements
unfolding two_statements language_words
they_are_said = (
  record {
    lows = codes "1";
    highs = codes "3";
    named = refl;
    lowest = record { number = refl; value = refl };
    highest = record { number = refl; value = refl };
    pieces = refl;
  },
  (record { digits = codes "2"; numeral = record { number = refl; value = refl }; named = refl; pieces = refl }, tt),
)

their_model : model_lines two_statements ≡
    codes "language ESSENCE' 1.0" ∷
    codes "$ conjure-header 1" ∷
    codes "$ find s : set of int(1..3)" ∷
    codes "$ repr s Occurrence" ∷
    codes "$ end-header" ∷
    codes "find s_Occurrence : matrix indexed by [int(1..3)] of bool" ∷
    codes "such that" ∷
    codes "    s_Occurrence[2]" ∷ []
unfolding two_statements digits
their_model = refl

-- the model of a text of 0 bytes
empty_model : model_lines [] ≡ codes "language ESSENCE' 1.0" ∷ codes "$ conjure-header 1" ∷ codes "$ end-header" ∷ []
empty_model = refl

-- a name that is taken gets `_`, as often as it needs
taken_twice : free_name (codes "c_" ∷ codes "c" ∷ []) 2 (codes "c") ≡ codes "c__"
taken_twice = refl

first_come : cells (find (codes "s") 1 2 ∷ find (codes "s_Occurrence") 1 2 ∷ [])
    ≡ (codes "s", codes "s_Occurrence_") ∷ (codes "s_Occurrence", codes "s_Occurrence_Occurrence") ∷ []
first_come = refl

-- three constraints: a comma at the end of each but the last
commas : with_commas (codes "a" ∷ codes "b" ∷ codes "c" ∷ []) ≡ codes "a," ∷ codes "b," ∷ codes "c" ∷ []
commas = refl
