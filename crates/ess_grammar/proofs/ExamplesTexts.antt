-- Texts of models, of cells and of values.
use Rattle.std.specs.Prelude.{ℕ, ◌≡◌, refl, Bool, true, false, [], ◌∷◌, ◌++◌, pos, negsuc, codes}
use Rattle.std.specs.Fmt.{digits}
use Rattle.ess_semantics.specs.declared.words.Op1.{Op1}
use Rattle.ess_semantics.specs.declared.words.Op2.{Op2}
use Rattle.ess_semantics.specs.declared.words.Fun.{Fun}
use Rattle.ess_semantics.specs.Values.{Text, a_set, a_mset, a_function, a_relation, a_partition, a_record, Value, Values, number, truth, item, node, nil, cons, tuple, pair, matrix}
use Rattle.ess_semantics.specs.Trees.{Op, matrix_literal, both_ends, truth_ex, name_ex, matrix_ex, Ex, comp_ex, cell_ex, no_exs, Gens, no_gens, over, cond, name_pat, bool_dom, int_dom, set_dom, repr, no_reprs, find, plain_node}
use Rattle.ess_semantics.specs.ModelTrees.{no_goal, Model}
use Rattle.ess_grammar.specs.Grammar.{one_ex, two_exs, unary_ex, binary_ex, indexed, number_atom, name_atom, index_atom, atom_expression, last_expression, bool_domain, ranges_domain, set_domain, no_attributes, matrix_domain, last_domain, last_range, both_range}
use Rattle.ess_semantics.specs.declared.words.ReprKind.{ReprKind}
use Rattle.ess_grammar.specs.Statements.{last_name, find_part, last_part, begins_find, parts_statement}
use Rattle.ess_grammar.specs.Representations.{childless}
use Rattle.ess_grammar.specs.HeaderTexts.{last_choice, representation_line, end_line, next_representation_line, no_more_statements, next_statement_line, IsHeader, header}
use Rattle.ess_grammar.specs.Models.{Scope, with_cells, empty_scope, is_model_ex, is_readable_model}
use Rattle.ess_grammar.specs.ModelTexts.{no_declarations, more_declarations, no_objective, last_constraint, no_constraints, constraints, model_parts, IsModel, lines_under_language_line, utf8_lines, ReadsModel}
use Rattle.ess_grammar.specs.CellTexts.{plain_number, minus_number, numbers_range, last_cell_range, number_value, true_value, false_value, empty_value, indexed_value, last_value, next_value, no_cells, more_cells, prime_line, IsCells, cells}
use Rattle.ess_grammar.specs.ValueTexts.{value_text}
use Rattle.ess_grammar.proofs.ExamplesGrammar.{read, num}

abbrev feed : Text
feed = 10 ∷ []

-- ---- a model

model : Text
model = codes "language ESSENCE' 1.0" ++ feed ++ codes "$ conjure-header 1" ++ feed ++ codes "$ find s : set of int(1..3)" ++ feed
    ++ codes "$ repr s Occurrence" ++ feed ++ codes "$ end-header" ++ feed
    ++ codes "find s_Occurrence : matrix indexed by [int(1..3)] of bool" ++ feed ++ codes "such that" ++ feed
    ++ codes "    s_Occurrence[2]" ++ feed

its_header : lines_under_language_line model ≡ codes "conjure-header 1" ∷ codes "find s : set of int(1..3)" ∷ codes "repr s Occurrence"
    ∷ codes "end-header" ∷ []
unfolding model
its_header = refl

abbrev s_occurrence : Text
s_occurrence = codes "s_Occurrence"

abbrev its_tree : Model
its_tree = record {
  givens = [];
  finds = record { name = s_occurrence; axes = int_dom (both_ends ∷ []) (two_exs (num 1) (num 3)) ∷ []; cell = bool_dom } ∷ [];
  goal = no_goal;
  rules = cell_ex true s_occurrence (one_ex (num 2)) ∷ [];
}

is_its_tree : IsModel its_tree (read model)
unfolding model
is_its_tree = record {
  parts = _;
  read = model_parts no_declarations
      (more_declarations (matrix_domain (last_domain (ranges_domain
      (last_range (both_range (atom_expression number_atom) (atom_expression number_atom))))) bool_domain) no_declarations)
      no_objective (constraints (last_constraint (atom_expression (index_atom name_atom (last_expression (atom_expression number_atom))))));
  is = refl;
  readable = refl;
}

is_its_header : IsHeader (record {
  statements = find (codes "s") (set_dom [] no_exs (int_dom (both_ends ∷ []) (two_exs (num 1) (num 3)))) ∷ [];
  reprs = (codes "s", repr ReprKind.Occurrence no_reprs ∷ []) ∷ [];
})
    (codes "conjure-header 1" ∷ codes "find s : set of int(1..3)" ∷ codes "repr s Occurrence" ∷ codes "end-header" ∷ [])
is_its_header = header (next_statement_line (
  _,
  refl,
  parts_statement begins_find (last_part (find_part last_name
      (set_domain no_attributes (ranges_domain (last_range (both_range (atom_expression number_atom) (atom_expression number_atom))))))),
)
    (no_more_statements (next_representation_line (_, refl, representation_line (last_choice (childless refl))) end_line)))

-- a file without statements has a model of three lines
least_model : Text
least_model = codes "language ESSENCE' 1.0" ++ feed ++ codes "$ conjure-header 1" ++ feed ++ codes "$ end-header" ++ feed

its_parts : ReadsModel least_model (utf8_lines (codes "conjure-header 1" ∷ codes "end-header" ∷ []))
    (record { givens = []; finds = []; goal = no_goal; rules = [] })
unfolding least_model
its_parts = (
  refl,
  (
    _,
    refl,
    record {
      parts = _;
      read = model_parts no_declarations no_declarations no_objective no_constraints;
      is = refl;
      readable = refl;
    },
  ),
)

-- the header ends before a line that doesn't begin with `$ `
short_header : lines_under_language_line (codes "language ESSENCE' 1.0 $ a comment" ++ feed ++ codes "$ a line" ++ feed ++ codes "$another"
    ++ feed ++ codes "$ no line" ++ feed) ≡ codes "a line" ∷ []
short_header = refl

-- ---- expressions of models

-- `sum` of a list, and of a comprehension over a bounded range
folds : is_model_ex empty_scope true [] (plain_node (Op.word Fun.Sum) (one_ex (plain_node matrix_literal no_exs))) ≡ true
folds = refl

over_range : is_model_ex empty_scope true []
    (plain_node (Op.word Fun.And) (one_ex (comp_ex (binary_ex Op2.Lt (name_ex (codes "i")) (num 3))
    (over (name_pat (codes "i")) (int_dom (both_ends ∷ []) (two_exs (num 1) (num 2))) no_gens)))) ≡ true
over_range = refl

-- a fold of a number, `in`, a lex sign between names, and a range without bounds are none
no_fold : is_model_ex empty_scope true [] (plain_node (Op.word Fun.Sum) (one_ex (num 1))) ≡ false
no_fold = refl

no_member : is_model_ex empty_scope true [] (binary_ex Op2.Member (num 1) (num 2)) ≡ false
no_member = refl

no_lex : is_model_ex empty_scope true [] (binary_ex Op2.LexLt (name_ex (codes "a")) (name_ex (codes "b"))) ≡ false
no_lex = refl

no_bounds : is_model_ex empty_scope true [] (plain_node (Op.word Fun.And)
    (one_ex (comp_ex (truth_ex true) (over (name_pat (codes "i")) (int_dom [] no_exs) no_gens)))) ≡ false
no_bounds = refl

-- a given g and a find f, both tables of numbers with one axis
abbrev scope : Scope
scope = record { tables = (codes "g", false) ∷ (codes "f", false) ∷ []; finds = codes "f" ∷ [] }

-- the expression as it is read, with cells, is one of a model
abbrev is_read : Ex → Bool
is_read e = is_model_ex scope true [] (with_cells scope [] e)

abbrev at : Text → Ex → Ex
at a e = indexed (name_ex a) (one_ex e)

-- a declared name is a cell, and a name that a generator binds isn't
abbrev over_i : Gens → Ex
over_i gs = plain_node (Op.word Fun.Sum) (one_ex (comp_ex (at (codes "f") (name_ex (codes "i")))
    (over (name_pat (codes "i")) (int_dom (both_ends ∷ []) (two_exs (num 1) (num 2))) gs)))

with_its_cells : with_cells scope [] (over_i no_gens) ≡
    plain_node (Op.word Fun.Sum) (one_ex (comp_ex (cell_ex false (codes "f") (one_ex (name_ex (codes "i"))))
    (over (name_pat (codes "i")) (int_dom (both_ends ∷ []) (two_exs (num 1) (num 2))) no_gens)))
with_its_cells = refl

-- conditions may have givens, and no finds
a_given : is_read (over_i (cond (binary_ex Op2.Lt (at (codes "g") (name_ex (codes "i"))) (num 3)) no_gens)) ≡ true
a_given = refl

a_find : is_read (over_i (cond (binary_ex Op2.Lt (at (codes "f") (name_ex (codes "i"))) (num 3)) no_gens)) ≡ false
a_find = refl

-- no generator binds a find's name
bound_find : is_read (plain_node (Op.word Fun.Sum) (one_ex (comp_ex (num 1) (over (name_pat (codes "f")) bool_dom no_gens)))) ≡ false
bound_find = refl

-- a name is declared once
twice : is_readable_model (record {
  givens = record { name = codes "g"; axes = []; cell = bool_dom }
      ∷ record { name = codes "g"; axes = []; cell = bool_dom } ∷ [];
  finds = [];
  goal = no_goal;
  rules = [];
}) ≡ false
twice = refl

-- ---- cells

some_cells : IsCells
    ((codes "a", unary_ex Op1.Minus (num 5)) ∷ (
      codes "s",
      matrix_ex (two_exs (truth_ex false) (truth_ex true))
          (int_dom (both_ends ∷ []) (two_exs (unary_ex Op1.Minus (num 1)) (num 0))),
    )
    ∷ (codes "e", plain_node matrix_literal no_exs) ∷ [])
    (read (codes "language ESSENCE' 1.0 letting a be -5 letting s be [false, true; int(-1..0)] letting e be []"))
some_cells =
    cells prime_line (more_cells (number_value minus_number)
    (more_cells (indexed_value (next_value false_value (last_value true_value)) (last_cell_range (numbers_range minus_number plain_number)))
    (more_cells empty_value no_cells)))

-- ---- values

-- `T_k` stands for each name here
abbrev name_of : Text → ℕ → Text
name_of t k = t ++ codes "_" ++ (48 ∷ [])

abbrev n : ℕ → Value
n k = number (pos k)

abbrev two : Value → Value → Values
two a b = cons a (cons b nil)

abbrev ones : Values
ones = cons (n 1) nil

sets : value_text name_of (node a_set (two (n 1) (n 2))) ≡ codes "{1, 2}"
unfolding digits
sets = refl

msets : value_text name_of (node a_mset (two (n 1) (n 1))) ≡ codes "mset(1, 1)"
unfolding digits
msets = refl

functions : value_text name_of (node a_function (cons (pair (n 1) (n 2)) nil)) ≡ codes "function(1 --> 2)"
unfolding digits
functions = refl

relations : value_text name_of (node a_relation (cons (pair (n 1) (n 2)) nil)) ≡ codes "relation((1, 2))"
unfolding digits
relations = refl

partitions : value_text name_of (node a_partition (two (node a_set ones) (node a_set (two (n 2) (n 3))))) ≡ codes "partition({1}, {2, 3})"
unfolding digits
partitions = refl

tuples : value_text name_of (tuple ones) ≡ codes "tuple (1)"
unfolding digits
tuples = refl

records : value_text name_of (node (a_record (codes "a" ∷ [])) ones) ≡ codes "record {a = 1}"
unfolding digits
records = refl

matrices : value_text name_of (matrix (two (n 1) (n 2)) (two (n 1) (number (negsuc 1)))) ≡ codes "[1, -2; int(1..2)]"
unfolding digits
matrices = refl

-- runs that don't touch
runs : value_text name_of (matrix (cons (n 1) (two (n 2) (n 4))) (cons (truth true) (two (truth false) (truth true))))
    ≡ codes "[true, false, true; int(1..2, 4..4)]"
unfolding digits
runs = refl

over_bool : value_text name_of (matrix (two (truth false) (truth true)) (two (item (codes "c") 1) (n 2))) ≡ codes "[c_0, 2; bool]"
unfolding digits
over_bool = refl

over_type : value_text name_of (matrix (cons (item (codes "c") 1) nil) ones) ≡ codes "[1; c]"
unfolding digits
over_type = refl

no_items : value_text name_of (matrix nil nil) ≡ codes "[]"
no_items = refl
