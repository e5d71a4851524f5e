-- Worked examples of the text of tables: each shape of a table, and runs.
use Rattle.std.specs.Prelude.{◌≡◌, refl, ℤ, Bool, true, false, List, [], ◌∷◌, pos, negsuc, codes}
use Rattle.std.specs.Fmt.{digits}
use Rattle.ess_semantics.specs.Values.{Text}
use Rattle.ess_semantics.specs.Trees.{bool_dom}
use Rattle.ess_semantics.specs.DeclaredTables.{TableDecl}
use Rattle.ess_semantics.specs.Tables.{one_cell, row_of}
use Rattle.ess_semantics.proofs.Shorthands.{n, range, any_int}
use Rattle.ess_grammar.specs.ValueTexts.{value_text}
use Rattle.eprime_cells_laws.specs.CellsText.{table_value, no_names, cells_text}

-- What is written of items over axes.
abbrev written : Bool → List (List ℤ) → List ℤ → Text
written b as' is = value_text no_names (table_value b as' is)

one_number : written false [] (negsuc 2 ∷ []) ≡ codes "-3"
unfolding digits
one_number = refl

one_truth_value : written true [] (pos 1 ∷ []) ≡ codes "true"
one_truth_value = refl

one_axis : written false ((pos 1 ∷ pos 2 ∷ pos 3 ∷ []) ∷ []) (pos 1 ∷ pos 2 ∷ pos 1 ∷ []) ≡ codes "[1, 2, 1; int(1..3)]"
unfolding digits
one_axis = refl

-- The index domain has the maximal runs of the axis.
three_runs : written false ((negsuc 1 ∷ negsuc 0 ∷ pos 3 ∷ pos 5 ∷ pos 6 ∷ []) ∷ []) (pos 0 ∷ pos 0 ∷ pos 0 ∷ pos 0 ∷ pos 0 ∷ [])
    ≡ codes "[0, 0, 0, 0, 0; int(-2..-1, 3..3, 5..6)]"
unfolding digits
three_runs = refl

two_axes :
    written true ((pos 1 ∷ pos 2 ∷ []) ∷ (pos 1 ∷ pos 2 ∷ []) ∷ []) (pos 0 ∷ pos 1 ∷ pos 1 ∷ pos 0 ∷ [])
    ≡ codes "[[false, true; int(1..2)], [true, false; int(1..2)]; int(1..2)]"
unfolding digits
two_axes = refl

no_items : written false ([] ∷ []) [] ≡ codes "[]"
no_items = refl

of_empty_lists : written false ((pos 0 ∷ pos 1 ∷ []) ∷ [] ∷ []) [] ≡ codes "[[], []; int(0..1)]"
unfolding digits
of_empty_lists = refl

-- `given n : int`
abbrev of_n : TableDecl
of_n = record { name = codes "n"; axes = []; cell = any_int }

-- `find x : matrix indexed by [int(1..1)] of bool`
abbrev of_x : TableDecl
of_x = record { name = codes "x"; axes = range (n 1) (n 1) ∷ []; cell = bool_dom }

one_line : cells_text (of_n ∷ []) ((codes "n", one_cell (pos 3)) ∷ []) ≡ codes "language ESSENCE' 1.0\nletting n be 3\n"
unfolding digits
one_line = refl

two_lines :
    cells_text (of_n ∷ of_x ∷ []) ((codes "n", one_cell (pos 3)) ∷ (codes "x", row_of (pos 1 ∷ []) (pos 0 ∷ [])) ∷ [])
    ≡ codes "language ESSENCE' 1.0\nletting n be 3\nletting x be [false; int(1..1)]\n"
unfolding digits
two_lines = refl

no_line : cells_text [] [] ≡ codes "language ESSENCE' 1.0\n"
no_line = refl
