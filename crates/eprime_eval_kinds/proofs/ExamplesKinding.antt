-- What the parts of edited models become, and the shapes by which declarations are found.
use Rattle.std.specs.Prelude.{ℕ, ◌≡◌, refl, true, false, List, [], ◌∷◌, pos, codes, Some, None}
use Rattle.ess_semantics.specs.declared.words.Op1.{Op1}
use Rattle.ess_semantics.specs.declared.words.Op2.{Op2}
use Rattle.ess_semantics.specs.declared.words.Fun.{Fun}
use Rattle.ess_semantics.specs.Values.{a_matrix}
use Rattle.ess_semantics.specs.Trees.{unary, binary, word, one_value, both_ends, low_end, name_pat, Ex, number_ex, truth_ex, name_ex, comp_ex, cell_ex, no_exs, no_gens, over, cond, Dom, bool_dom, int_dom, plain_node}
use Rattle.ess_semantics.specs.Types.{any_ty, bool_ty, int_ty, compound2}
use Rattle.ess_semantics.specs.DeclaredTables.{TableDecl}
use Rattle.ess_semantics.specs.ModelMeaning.{Kinded, kinded, kinded_dom, nothing}
use Rattle.ess_grammar.specs.Grammar.{one_ex, two_exs}
use Rattle.eprime_tree.specs.Views.{over_item, cond_item}
use Rattle.eprime_eval_kinds.specs.declared.declared.Shape.{Shape}
use Rattle.eprime_eval_kinds.specs.KindedViews.{name_at}
use Rattle.eprime_eval_kinds.specs.Shapes.{shape_of, first_place, shaped_cell}
use Rattle.eprime_eval_kinds.specs.Kinding.{with_items, ends_of, bounds_by}

abbrev num : ℕ → Ex
num k = number_ex (pos k)

abbrev int_to : ℕ → Dom
int_to n = int_dom (both_ends ∷ []) (two_exs (num 1) (num n))

-- m has an axis and cells of bool, n is a number; the second n doesn't count
abbrev tables : List TableDecl
tables =
    record { name = codes "m"; axes = int_to 3 ∷ []; cell = bool_dom } ∷ record { name = codes "n"; axes = []; cell = int_to 9 }
    ∷ record { name = codes "n"; axes = []; cell = bool_dom } ∷ []

abbrev here : Ex → Kinded
here e = kinded tables e []

abbrev the_n : Ex
the_n = cell_ex false (codes "n") no_exs

-- ---- names and tables

-- a name that is neither declared nor bound
an_unknown_name : here (name_ex (codes "q")) ≡ nothing
an_unknown_name = refl

an_unknown_table : here (cell_ex false (codes "k") (one_ex (num 1))) ≡ nothing
an_unknown_table = refl

-- the mark that the tree was read with plays no part
the_declaration_counts : here (cell_ex true (codes "n") no_exs) ≡ (the_n, int_ty)
the_declaration_counts = refl

-- another number of indices: false where the cells are truth values, nothing where they are numbers
too_many_indices : here (cell_ex true (codes "m") (two_exs (num 1) (num 2))) ≡ (truth_ex false, bool_ty)
too_many_indices = refl

an_index_too_many : here (cell_ex false (codes "n") (one_ex (num 1))) ≡ (name_ex [], int_ty)
an_index_too_many = refl

an_index_of_bool : here (cell_ex true (codes "m") (one_ex (truth_ex true))) ≡ (truth_ex false, bool_ty)
an_index_of_bool = refl

-- an index that has nothing stays, so that the cell has nothing, and is false
an_index_of_nothing : here (cell_ex true (codes "m") (one_ex (name_ex (codes "q"))))
    ≡ (cell_ex true (codes "m") (one_ex (name_ex [])), bool_ty)
an_index_of_nothing = refl

-- ---- operators

-- a number where a truth value is asked
not_of_a_number : here (plain_node (unary Op1.Not) (one_ex the_n)) ≡ (truth_ex false, bool_ty)
not_of_a_number = refl

to_int_of_a_number : here (plain_node (word Fun.ToInt) (one_ex the_n)) ≡ (name_ex [], int_ty)
to_int_of_a_number = refl

-- `toInt` of what is false is 0; a number above it then fits
a_number_of_false : here (plain_node (word Fun.ToInt) (one_ex (plain_node (unary Op1.Not) (one_ex the_n))))
    ≡ (plain_node (word Fun.ToInt) (one_ex (truth_ex false)), int_ty)
a_number_of_false = refl

-- an operand that has nothing, though it fits everywhere
a_sum_with_nothing : here (plain_node (binary Op2.Plus) (two_exs (num 1) (name_ex (codes "q")))) ≡ (name_ex [], int_ty)
a_sum_with_nothing = refl

an_equation_with_nothing : here (plain_node (binary Op2.Eq) (two_exs (num 1) (name_ex (codes "q")))) ≡ (truth_ex false, bool_ty)
an_equation_with_nothing = refl

-- a word over a comprehension asks the kind of its body, and its name has that of its domain
abbrev each_of_bool : Ex
each_of_bool = comp_ex (name_ex (codes "b")) (over (name_pat (codes "b")) bool_dom no_gens)

a_comprehension : here each_of_bool ≡ (each_of_bool, compound2 a_matrix int_ty bool_ty)
a_comprehension = refl

a_sum_of_truth_values : here (plain_node (word Fun.Sum) (one_ex each_of_bool)) ≡ (name_ex [], int_ty)
a_sum_of_truth_values = refl

-- ---- bounds

-- a bound of another kind has nothing
a_bound_of_bool : kinded_dom tables (int_dom (both_ends ∷ []) (two_exs (num 1) (truth_ex true))) []
    ≡ int_dom (both_ends ∷ []) (two_exs (num 1) (name_ex []))
a_bound_of_bool = refl

by_itself : bounds_by here (one_value, truth_ex true ∷ []) ≡ (one_value, name_ex [] ∷ [])
by_itself = refl

-- a range without bounds has bounds that have nothing
without_bounds : ends_of None None ≡ (both_ends, name_ex [] ∷ name_ex [] ∷ [])
without_bounds = refl

from_one_on : ends_of (Some (num 1)) None ≡ (low_end, num 1 ∷ [])
from_one_on = refl

-- ---- items in front

in_front : with_items (over_item (codes "i") (int_to 3) ∷ cond_item (truth_ex true) ∷ []) (comp_ex (num 1) no_gens, int_ty)
    ≡ (comp_ex (num 1) (over (name_pat (codes "i")) (int_to 3) (cond (truth_ex true) no_gens)), int_ty)
in_front = refl

-- ---- shapes

abbrev m : Shape
m = record { name = codes "m"; axes = 1; truth = true }

abbrev n : Shape
n = record { name = codes "n"; axes = 0; truth = false }

a_shape : shape_of (record { name = codes "m"; axes = int_to 3 ∷ []; cell = bool_dom }) ≡ m
a_shape = refl

the_first : first_place (m ∷ n ∷ n ∷ []) (codes "n") ≡ Some 1
the_first = refl

none : first_place (m ∷ n ∷ []) (codes "k") ≡ None
none = refl

a_cell : shaped_cell m (codes "m") (one_ex (num 2)) (any_ty ∷ []) ≡ (cell_ex true (codes "m") (one_ex (num 2)), bool_ty)
a_cell = refl

a_cell_without_index : shaped_cell m (codes "m") no_exs [] ≡ (truth_ex false, bool_ty)
a_cell_without_index = refl

a_name : name_at (codes "m" ∷ codes "n" ∷ []) 1 ≡ codes "n"
a_name = refl

a_name_beyond : name_at (codes "m" ∷ codes "n" ∷ []) 2 ≡ []
a_name_beyond = refl
