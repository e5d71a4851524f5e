-- Worked examples of the machine of models.
use Rattle.std.proofs.Common.{◌≡◌, refl, Bool, true, false, List, [], ◌∷◌, ◌++◌, Option, Some, None, codes, pos}
use Rattle.std.specs.Option.{is_some}
use Rattle.ess_semantics.specs.Values.{Text}
use Rattle.ess_semantics.specs.Trees.{both_ends, one_value, number_ex, cell_ex, name_ex, no_exs, more_exs, bool_dom, int_dom}
use Rattle.ess_semantics.specs.ModelTrees.{no_goal, least, Model}
use Rattle.ess_grammar.proofs.ExamplesGrammar.{read}
use Rattle.eprime_read_laws.specs.ModelMachine.{at_begin, stage_after, empty_model, read_model}

abbrev line : Text → Text
line text = text ++ (10 ∷ [])

-- A matrix of truth values and one constraint.
occurrences : read_model (read (line (codes "language ESSENCE' 1.0") ++ line (codes "find s_Occurrence : matrix indexed by [int(1..3)] of bool") ++ line (codes "such that") ++ line (codes "    s_Occurrence[2]")))
    ≡ Some (record {
      givens = [];
      finds = record { name = codes "s_Occurrence"; axes = int_dom (both_ends ∷ []) (more_exs (number_ex (pos 1)) (more_exs (number_ex (pos 3)) no_exs)) ∷ []; cell = bool_dom } ∷ [];
      goal = no_goal;
      rules = cell_ex true (codes "s_Occurrence") (more_exs (number_ex (pos 2)) no_exs) ∷ [];
    })
occurrences = refl

-- A given stands in the domain of a find, and as a cell in the objective.
objective : read_model (read (codes "language ESSENCE' 1.0 given n : int find x : int(n) minimising x"))
    ≡ Some (record {
      givens = record { name = codes "n"; axes = []; cell = int_dom [] no_exs } ∷ [];
      finds = record { name = codes "x"; axes = []; cell = int_dom (one_value ∷ []) (more_exs (cell_ex false (codes "n") no_exs) no_exs) } ∷ [];
      goal = least (cell_ex false (codes "x") no_exs);
      rules = [];
    })
objective = refl

-- The language line alone.
line_alone : read_model (read (codes "language ESSENCE' 1.0")) ≡ Some empty_model
line_alone = refl

-- Whether the tokens of the text are a model.
abbrev is_read : Text → Bool
is_read text = is_some (read_model (read text))

-- Whether the machine goes over the tokens of the text.
abbrev goes_over : Text → Bool
goes_over text = is_some (stage_after (read text) at_begin)

several_constraints : is_read (codes "language ESSENCE' 1.0 find a : bool find x : int(1..3) such that a, or([x = i | i : int(1..2)]), [a] <lex [true], x = 1 -> a") ≡ true
several_constraints = refl

other_version : is_read (codes "language ESSENCE' 1.1") ≡ false
other_version = refl

no_line : is_read (codes "find x : bool") ≡ false
no_line = refl

-- One line declares one name.
two_names : is_read (codes "language ESSENCE' 1.0 find x, y : bool") ≡ false
two_names = refl

two_domains : is_read (codes "language ESSENCE' 1.0 find x : bool, y : bool") ≡ false
two_domains = refl

-- A name stands in one line.
double_name : is_read (codes "language ESSENCE' 1.0 given x : int find x : bool") ≡ false
double_name = refl

-- No other statement stands in a model, and the machine stops at its word.
a_letting : goes_over (codes "language ESSENCE' 1.0 find x : bool letting") ≡ false
a_letting = refl

-- Givens stand before finds, and constraints behind one `such that`.
late_given : goes_over (codes "language ESSENCE' 1.0 find x : bool given") ≡ false
late_given = refl

late_constraints : goes_over (codes "language ESSENCE' 1.0 find x : bool such that x such") ≡ false
late_constraints = refl

-- A domain that no model has is refused before the next line.
abstract_domain : goes_over (codes "language ESSENCE' 1.0 given s : set of bool") ≡ true
abstract_domain = refl

behind_abstract_domain : goes_over (codes "language ESSENCE' 1.0 given s : set of bool find") ≡ false
behind_abstract_domain = refl

-- A lex sign stands between lists, and no find stands in a generator's domain.
bare_lex : is_read (codes "language ESSENCE' 1.0 find a : bool find b : bool such that a <lex b") ≡ false
bare_lex = refl

find_in_generator : is_read (codes "language ESSENCE' 1.0 find x : int(1..3) such that and([i = 1 | i : int(1..x)])") ≡ false
find_in_generator = refl

open_constraint : is_read (codes "language ESSENCE' 1.0 find s : matrix indexed by [int(1..3)] of bool such that s[") ≡ false
open_constraint = refl
