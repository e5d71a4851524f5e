-- Worked examples of texts of cells over declared tables: each shape of a value, and each failure.
use Rattle.std.specs.Prelude.{◌≡◌, refl, ℤ, true, false, List, [], ◌∷◌, pos, negsuc, codes, Option, Some, None}
use Rattle.ess_semantics.specs.Values.{Text}
use Rattle.ess_semantics.specs.Names.{Names}
use Rattle.ess_semantics.specs.Trees.{matrix_literal, one_value, both_ends, Ex, Exs, truth_ex, cell_ex, matrix_ex, no_exs, more_exs, bool_dom, int_dom, plain_node}
use Rattle.ess_semantics.specs.DeclaredTables.{TableDecl}
use Rattle.ess_semantics.specs.Tables.{Table, one_cell, row_of}
use Rattle.ess_semantics.proofs.Shorthands.{n, neg, range, from_1, any_int}
use Rattle.eprime_cells_laws.specs.TableReading.{table_of, declared_table, tables, missing_letting, extra_letting, outside_domain, cells_answer}

-- ---- texts of values

abbrev yes : Ex
yes = truth_ex true

abbrev no : Ex
no = truth_ex false

abbrev exs : List Ex → Exs
exs [] = no_exs
exs (e ∷ es) = more_exs e (exs es)

-- `[e, ..]`, and `[]`
abbrev list : List Ex → Ex
list es = plain_node matrix_literal (exs es)

-- `[e, ..; int(a..b)]`
abbrev indexed : List Ex → Ex → Ex → Ex
indexed es a b = matrix_ex (exs es) (range a b)

-- ---- one table

-- `3`, `-3` and `true`
without_axes : table_of [] false (n 3) ≡ Some (one_cell (pos 3))
without_axes = refl

below_zero : table_of [] false (neg 3) ≡ Some (one_cell (negsuc 2))
below_zero = refl

a_truth_value : table_of [] true yes ≡ Some (one_cell (pos 1))
a_truth_value = refl

-- A truth value is no number, and no number is a truth value.
no_number : table_of [] false yes ≡ None
no_number = refl

no_truth_value : table_of [] true (n 1) ≡ None
no_truth_value = refl

-- A number has no axes, and a list has one.
no_list : table_of ((pos 1 ∷ []) ∷ []) false (n 1) ≡ None
no_list = refl

no_item : table_of [] false (list (n 1 ∷ [])) ≡ None
no_item = refl

abbrev from_1_to_3 : List (List ℤ)
from_1_to_3 = (pos 1 ∷ pos 2 ∷ pos 3 ∷ []) ∷ []

abbrev three_items : Option Table
three_items = Some (row_of (pos 1 ∷ pos 2 ∷ pos 3 ∷ []) (pos 1 ∷ pos 2 ∷ pos 1 ∷ []))

-- `[1, 2, 1; int(1..3)]`, `[1, 2, 1]`, and `[1, 2, 1; int(3, 2..1, 1..2)]`, whose index domain has the same members
one_axis : table_of from_1_to_3 false (indexed (n 1 ∷ n 2 ∷ n 1 ∷ []) (n 1) (n 3)) ≡ three_items
one_axis = refl

without_index : table_of from_1_to_3 false (list (n 1 ∷ n 2 ∷ n 1 ∷ [])) ≡ three_items
without_index = refl

other_ranges :
    table_of from_1_to_3 false
    (matrix_ex (exs (n 1 ∷ n 2 ∷ n 1 ∷ [])) (int_dom (one_value ∷ both_ends ∷ both_ends ∷ []) (exs (n 3 ∷ n 2 ∷ n 1 ∷ n 1 ∷ n 2 ∷ []))))
    ≡ three_items
other_ranges = refl

-- `[1, 2, 1; int(0..2)]`, `[1, 2; int(1..3)]` and `[1, 2]` are over other axes.
other_members : table_of from_1_to_3 false (indexed (n 1 ∷ n 2 ∷ n 1 ∷ []) (n 0) (n 2)) ≡ None
other_members = refl

too_few_items : table_of from_1_to_3 false (indexed (n 1 ∷ n 2 ∷ []) (n 1) (n 3)) ≡ None
too_few_items = refl

shorter_list : table_of from_1_to_3 false (list (n 1 ∷ n 2 ∷ [])) ≡ None
shorter_list = refl

-- `[]` is a table over an axis without members, and over no other.
empty_list : table_of ([] ∷ []) false (list []) ≡ Some (row_of [] [])
empty_list = refl

not_empty : table_of from_1_to_3 false (list []) ≡ None
not_empty = refl

-- `[[], []; int(1..2)]`
of_empty_lists :
    table_of ((pos 1 ∷ pos 2 ∷ []) ∷ [] ∷ []) true (indexed (list [] ∷ list [] ∷ []) (n 1) (n 2))
    ≡ Some (record { axes = (pos 1 ∷ pos 2 ∷ []) ∷ [] ∷ []; items = [] })
of_empty_lists = refl

-- `[[false, true; int(1..2)], [true, false]; int(1..2)]`
two_axes :
    table_of ((pos 1 ∷ pos 2 ∷ []) ∷ (pos 1 ∷ pos 2 ∷ []) ∷ []) true
    (indexed (indexed (no ∷ yes ∷ []) (n 1) (n 2) ∷ list (yes ∷ no ∷ []) ∷ []) (n 1) (n 2))
    ≡ Some (record { axes = (pos 1 ∷ pos 2 ∷ []) ∷ (pos 1 ∷ pos 2 ∷ []) ∷ []; items = pos 0 ∷ pos 1 ∷ pos 1 ∷ pos 0 ∷ [] })
two_axes = refl

-- ---- declared tables

abbrev k : Text
k = codes "k"

abbrev f : Text
f = codes "f"

abbrev x : Text
x = codes "x"

-- `given k : int(1..)`
abbrev of_k : TableDecl
of_k = record { name = k; axes = []; cell = from_1 }

-- `find f : matrix indexed by [int(1..k)] of int(1..k)`
abbrev of_f : TableDecl
of_f = record { name = f; axes = range (n 1) (cell_ex false k no_exs) ∷ []; cell = range (n 1) (cell_ex false k no_exs) }

-- `find x : bool`
abbrev of_x : TableDecl
of_x = record { name = x; axes = []; cell = bool_dom }

-- where k is 2
abbrev k_is_2 : Names Table
k_is_2 = (k, one_cell (pos 2)) ∷ []

abbrev finds : List TableDecl
finds = of_f ∷ of_x ∷ []

-- `letting x be true`, `letting f be [2, 1]`: the tables stand in order of declaration.
both_are_read :
    cells_answer (of_k ∷ []) k_is_2 finds ((x, yes) ∷ (f, list (n 2 ∷ n 1 ∷ [])) ∷ [])
    ≡ tables ((f, row_of (pos 1 ∷ pos 2 ∷ []) (pos 2 ∷ pos 1 ∷ [])) ∷ (x, one_cell (pos 1)) ∷ [])
both_are_read = refl

-- What is missing comes first, in order of declaration, whatever else fails.
none_is_there : cells_answer (of_k ∷ []) k_is_2 finds ((k, n 3) ∷ []) ≡ missing_letting f
none_is_there = refl

one_is_missing : cells_answer (of_k ∷ []) k_is_2 finds ((k, n 3) ∷ (f, yes) ∷ []) ≡ missing_letting x
one_is_missing = refl

-- A name that isn't declared is one too many, and so is a second letting of a name: the first such of the text.
not_declared : cells_answer (of_k ∷ []) k_is_2 finds ((x, yes) ∷ (k, n 3) ∷ (x, no) ∷ (f, yes) ∷ []) ≡ extra_letting k
not_declared = refl

twice : cells_answer (of_k ∷ []) k_is_2 finds ((x, yes) ∷ (x, yes) ∷ (f, yes) ∷ (k, n 3) ∷ []) ≡ extra_letting x
twice = refl

-- `[2, 3]` has an item outside `int(1..2)`, `[1, 2, 1]` another shape; the first such in order of declaration is named.
item_outside : cells_answer (of_k ∷ []) k_is_2 finds ((x, n 1) ∷ (f, list (n 2 ∷ n 3 ∷ [])) ∷ []) ≡ outside_domain f
item_outside = refl

other_shape : cells_answer (of_k ∷ []) k_is_2 finds ((x, yes) ∷ (f, list (n 1 ∷ n 2 ∷ n 1 ∷ [])) ∷ []) ≡ outside_domain f
other_shape = refl

number_for_truth : cells_answer (of_k ∷ []) k_is_2 finds ((x, n 1) ∷ (f, list (n 1 ∷ n 2 ∷ [])) ∷ []) ≡ outside_domain x
number_for_truth = refl

-- Nothing declared, nothing read.
nothing : cells_answer [] [] [] [] ≡ tables []
nothing = refl

-- `find f : matrix indexed by [int(1..k)] of int(1..k)` where k isn't given: no value is over an axis without a meaning.
without_meaning : declared_table [] [] of_f (list []) ≡ None
without_meaning = refl

-- `find y : int(1..k)` where k isn't given: no number is in a domain without a meaning.
cell_without_meaning : declared_table [] [] (record { name = x; axes = []; cell = range (n 1) (cell_ex false k no_exs) }) (n 1) ≡ None
cell_without_meaning = refl

-- In `int` all numbers are.
any_number : declared_table [] [] (record { name = x; axes = []; cell = any_int }) (neg 7) ≡ Some (one_cell (negsuc 6))
any_number = refl
