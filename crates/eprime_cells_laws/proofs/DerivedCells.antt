-- The printed tokens of a table's literal are those of a value in a text of cells.
use Rattle.std.proofs.Common.{ℕ, Bool, true, false, if◌then◌else◌, List, [], ◌∷◌, map, drop, ℤ, pos, negsuc, Some, None}
use Rattle.std.specs.Prelude.{◌+ℤ◌}
use Rattle.std.specs.Ordering.{int_eq}
use Rattle.ess_semantics.specs.Values.{Value, number, of_list}
use Rattle.ess_semantics.specs.Trees.{truth_ex, matrix_ex, int_dom}
use Rattle.ess_semantics.specs.Tables.{truth_of, volume}
use Rattle.ess_semantics.specs.Meaning.{cell_value}
use Rattle.ess_grammar.specs.Words.{dots, semicolon, close_round, close_square}
use Rattle.ess_grammar.specs.ValueTexts.{Run, before_runs, runs_of, number_literal, run_bounds, run_ends, literal_of, literals_of}
use Rattle.ess_grammar.specs.CellTexts.{CellNumber, plain_number, minus_number, CellRanges, numbers_range, last_cell_range, next_cell_range, CellValue, CellValues, number_value, true_value, false_value, empty_value, indexed_value, last_value, next_value}
use Rattle.ess_print_laws.specs.Pieces.{Piece, space, sign, tokens_of}
use Rattle.ess_print_laws.specs.Parts.{comma_space, commas}
use Rattle.ess_print_laws.specs.Expressions.{wholes, range_printers, ex_pieces, operands, dom_pieces}
use Rattle.eprime_cells_laws.specs.CellsText.{first_item, rows_from, table_value, no_names}

number-derived : (n : ℤ) (us : List Piece) → CellNumber (number_literal n) (tokens_of (ex_pieces (number_literal n) us)) (tokens_of us)
number-derived (pos n) us = plain_number
number-derived (negsuc n) us = minus_number

-- ---- runs

runs-derived : (r : Run) (rs : List Run) (us : List Piece) →
    CellRanges (run_ends (r ∷ rs)) (run_bounds (r ∷ rs))
    (tokens_of (commas (range_printers (run_ends (r ∷ rs)) (operands (run_bounds (r ∷ rs)))) us)) (tokens_of us)
runs-derived r [] us =
    last_cell_range (numbers_range (number-derived r.0 (sign dots ∷ ex_pieces (number_literal r.1) us)) (number-derived r.1 us))
runs-derived r (s ∷ rs) us =
    let rest = comma_space (commas (range_printers (run_ends (s ∷ rs)) (operands (run_bounds (s ∷ rs)))) us) in
    next_cell_range (numbers_range (number-derived r.0 (sign dots ∷ ex_pieces (number_literal r.1) rest)) (number-derived r.1 rest))
    (runs-derived s rs us)

-- There is one or more.
data SomeRuns : List Run → Type 0 where
  some_runs : {r : Run} {rs : List Run} → SomeRuns (r ∷ rs)

before-some : (n : ℤ) (rs : List Run) → SomeRuns (before_runs n rs)
before-some n [] = some_runs
before-some n (r ∷ rs) = go (int_eq (n +ℤ pos 1) r.0)
  where
    go : (b : Bool) → SomeRuns (if b then (n, r.1) ∷ rs else (n, n) ∷ r ∷ rs)
    go true = some_runs
    go false = some_runs

-- ---- values

-- The printed tokens of a value's literal are those of a value in a text of cells, whatever follows.
abbrev Derived : Value → Type 0
Derived v = (us : List Piece) → CellValue (literal_of no_names v) (tokens_of (ex_pieces (literal_of no_names v) us)) (tokens_of us)

-- The same of each.
abbrev AllDerived : List Value → Type 0
AllDerived [] = Unit {0}
AllDerived (v ∷ vs) = Derived v × AllDerived vs

values-derived : (v : Value) (vs : List Value) → AllDerived (v ∷ vs) → (us : List Piece) →
    CellValues (literals_of no_names (of_list (v ∷ vs)))
    (tokens_of (commas (wholes (operands (literals_of no_names (of_list (v ∷ vs))))) us)) (tokens_of us)
values-derived v [] h us = last_value (h.0 us)
values-derived v (w ∷ vs) h us =
    next_value (h.0 (comma_space (commas (wholes (operands (literals_of no_names (of_list (w ∷ vs))))) us))) (values-derived w vs h.1 us)

indexed-derived : (rs : List Run) → SomeRuns rs → (v : Value) (vs : List Value) → AllDerived (v ∷ vs) → (us : List Piece) →
    let es = literals_of no_names (of_list (v ∷ vs)) in let d = int_dom (run_ends rs) (run_bounds rs) in
    CellValue (matrix_ex es d) (tokens_of (ex_pieces (matrix_ex es d) us)) (tokens_of us)
indexed-derived rs (some_runs {r = r} {rs = ss}) v vs h us =
    indexed_value
    (values-derived v vs h (sign semicolon ∷ space ∷ dom_pieces (int_dom (run_ends rs) (run_bounds rs)) (sign close_square ∷ us)))
    (runs-derived r ss (sign close_round ∷ sign close_square ∷ us))

cell-derived : (b : Bool) (n : ℤ) → Derived (cell_value b n)
cell-derived false n us = number_value (number-derived n us)
cell-derived true n us = go (elim (truth_of n) [ Some b ↦ b | None ↦ false ])
  where
    go : (b : Bool) → CellValue (truth_ex b) (tokens_of (ex_pieces (truth_ex b) us)) (tokens_of us)
    go true = true_value
    go false = false_value

rows-derived : (f : List ℤ → Value) → ((is : List ℤ) → Derived (f is)) → (a : List ℤ) (v : ℕ) (is : List ℤ) →
    AllDerived (map f (rows_from a v is))
rows-derived f p [] v is = tt
rows-derived f p (x ∷ xs) v is = (p is, rows-derived f p xs v (drop v is))

-- A table's value.
pub table-derived : (b : Bool) (as' : List (List ℤ)) (is : List ℤ) → Derived (table_value b as' is)
table-derived b [] is = cell-derived b (first_item is)
table-derived b ([] ∷ as') is = λ us. empty_value
table-derived b ((x ∷ xs) ∷ as') is =
    let h = rows-derived (table_value b as') (table-derived b as') (x ∷ xs) (volume as') is in
    indexed-derived (runs_of (of_list (map number (x ∷ xs)))) (before-some x (runs_of (of_list (map number xs)))) (table_value b as' is)
    (map (table_value b as') (rows_from xs (volume as') (drop (volume as') is))) h
