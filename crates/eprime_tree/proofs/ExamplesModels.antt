-- Texts of models, and the trees as they are read of their expressions.
use Rattle.std.specs.Prelude.{ℕ, ◌≡◌, refl, true, false, List, [], ◌∷◌, pos, codes}
use Rattle.std.specs.Fmt.{digits}
use Rattle.ess_semantics.specs.declared.words.Op2.{Op2}
use Rattle.ess_semantics.specs.declared.words.Fun.{Fun}
use Rattle.ess_semantics.specs.Values.{Text}
use Rattle.ess_semantics.specs.Trees.{word, both_ends, name_pat, Ex, number_ex, name_ex, comp_ex, cell_ex, no_exs, no_gens, over, cond, Dom, bool_dom, int_dom, plain_node}
use Rattle.ess_semantics.specs.ModelTrees.{no_goal, least, Model}
use Rattle.ess_grammar.specs.Grammar.{one_ex, two_exs, binary_ex, indexed}
use Rattle.ess_grammar.specs.Models.{is_readable_model}
use Rattle.eprime_tree.specs.Written.{written}
use Rattle.eprime_tree.specs.ModelText.{model_text}

abbrev num : ℕ → Ex
num k = number_ex (pos k)

abbrev int_to : ℕ → Dom
int_to n = int_dom (both_ends ∷ []) (two_exs (num 1) (num n))

-- an access to a table is read as an index, and a declared name as a name
an_index : written (cell_ex true (codes "m") (two_exs (cell_ex false (codes "x") no_exs) (num 2))) ≡ indexed (name_ex (codes "m")) (two_exs (name_ex (codes "x")) (num 2))
an_index = refl

-- a set of numbers in its table of truth values
a_set : Model
a_set = record {
  givens = [];
  finds = record { name = codes "s_Occurrence"; axes = int_to 3 ∷ []; cell = bool_dom } ∷ [];
  goal = no_goal;
  rules = cell_ex true (codes "s_Occurrence") (one_ex (num 2)) ∷ [];
}

abbrev its_header : List Text
its_header = codes "conjure-header 1" ∷ codes "find s : set of int(1..3)" ∷ codes "repr s Occurrence" ∷ codes "end-header" ∷ []

the_text_of_a_set : model_text its_header a_set ≡ codes "language ESSENCE' 1.0\n$ conjure-header 1\n$ find s : set of int(1..3)\n$ repr s Occurrence\n$ end-header\nfind s_Occurrence : matrix indexed by [int(1..3)] of bool\nsuch that\n    s_Occurrence[2]\n"
unfolding digits a_set
the_text_of_a_set = refl

it_is_readable : is_readable_model a_set ≡ true
unfolding a_set
it_is_readable = refl

-- a model of nothing
nothing : model_text (codes "conjure-header 1" ∷ codes "end-header" ∷ []) (record { givens = []; finds = []; goal = no_goal; rules = [] }) ≡ codes "language ESSENCE' 1.0\n$ conjure-header 1\n$ end-header\n"
unfolding digits
nothing = refl

-- givens stand before finds, then the objective, and constraints with commas between
abbrev x : Ex
x = cell_ex false (codes "x") no_exs

two_constraints :
    model_text [] (record {
      givens = record { name = codes "n"; axes = []; cell = int_dom [] no_exs } ∷ [];
      finds = record { name = codes "x"; axes = []; cell = int_to 9 } ∷ [];
      goal = least x;
      rules = binary_ex Op2.Lt (binary_ex Op2.Plus x (num 1)) (cell_ex false (codes "n") no_exs)
          ∷ plain_node (word Fun.And) (one_ex (comp_ex (binary_ex Op2.Ne (name_ex (codes "q1")) x) (over (name_pat (codes "q1")) (int_to 3) (cond (name_ex (codes "b")) (over (name_pat (codes "b")) bool_dom no_gens))))) ∷ [];
    }) ≡ codes "language ESSENCE' 1.0\ngiven n : int\nfind x : int(1..9)\nminimising x\nsuch that\n    (x + 1) < n,\n    and([q1 != x | q1 : int(1..3), (b), b : bool])\n"
unfolding digits
two_constraints = refl
