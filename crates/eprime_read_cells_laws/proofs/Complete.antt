-- The machine reads what the rules derive, so each list of tokens is at most one text of cells.
use Rattle.std.proofs.Common.{◌≡◌, refl, sym, ap, ◌∙◌, List, [], ◌∷◌, ◌++◌, append-nil, append_assoc, Option, Some}
use Rattle.ess_semantics.specs.Values.{Text}
use Rattle.ess_semantics.specs.Names.{Names}
use Rattle.ess_semantics.specs.Trees.{Ends, both_ends, Ex, Exs, no_exs, more_exs, int_dom, matrix_ex, plain_node, matrix_literal}
use Rattle.ess_grammar.specs.Words.{Token, symbol, close_round, comma}
use Rattle.ess_grammar.specs.CellTexts.{CellNumber, plain_number, minus_number, CellRange, number_range, numbers_range, CellRanges, last_cell_range, next_cell_range, CellValue, number_value, true_value, false_value, empty_value, list_value, indexed_value, CellValues, last_value, next_value, CellLettings, no_cells, more_cells, PrimeLine, no_prime_line, prime_line, IsCells, cells}
use Rattle.eprime_read_cells_laws.specs.CellMachine.{low_wanted, low_read, high_wanted, range_read, close_wanted, Stage, value_wanted, first_wanted, item_read, in_ranges, in_value, letting_wanted, CellsState, before_exs, listed, with_value, from_cells, cells_run, cells_start, read_cell_tokens}

-- ---- lists of expressions

-- An expression put behind others.
pub before-push : (es : List Ex) (e : Ex) (fs : Exs) → before_exs (es ++ e ∷ []) fs ≡ before_exs es (more_exs e fs)
before-push [] e fs = refl
before-push (x ∷ es) e fs = ap (λ gs. more_exs x gs) (before-push es e fs)

-- Expressions put behind others.
pub before-more : (es fs : List Ex) (gs : Exs) → before_exs (es ++ fs) gs ≡ before_exs es (before_exs fs gs)
before-more [] fs gs = refl
before-more (x ∷ es) fs gs = ap (λ hs. more_exs x hs) (before-more es fs gs)

-- The expressions as a list.
abbrev items : Exs → List Ex
items no_exs = []
items (more_exs e es) = e ∷ items es

listed-items : (es : Exs) → listed (items es) ≡ es
listed-items no_exs = refl
listed-items (more_exs e es) = ap (λ gs. more_exs e gs) (listed-items es)

-- Lists of values.
abbrev plain_list_of : Exs → Ex
plain_list_of es = plain_node matrix_literal es

abbrev matrix_of : Exs → List Ends → Exs → Ex
matrix_of es rs is = matrix_ex es (int_dom rs is)

-- ---- runs

-- The state in a value of the name a.
abbrev at : Names Ex → Text → List (List Ex) → Stage → CellsState
at cs a fs s = record { done = cs; mode = in_value a fs s }

-- The run behind a value that was read.
abbrev run_behind : Names Ex → Text → List (List Ex) → Ex → List Token → Option (Names Ex)
run_behind cs a fs e us = from_cells (cells_run us) (with_value cs a fs e)

number-run : {e : Ex} {ts us : List Token} → CellNumber e ts us → (cs : Names Ex) (a : Text) (fs : List (List Ex)) → cells_run ts (at cs a fs value_wanted) ≡ run_behind cs a fs e us
number-run plain_number cs a fs = refl
number-run minus_number cs a fs = refl

low-run : {e : Ex} {ts us : List Token} → CellNumber e ts us → (cs : Names Ex) (a : Text) (fs : List (List Ex)) (rs : List Ends) (is : List Ex) →
    cells_run ts (at cs a fs (in_ranges rs is low_wanted)) ≡ cells_run us (at cs a fs (in_ranges rs is (low_read e)))
low-run plain_number cs a fs rs is = refl
low-run minus_number cs a fs rs is = refl

high-run : {e : Ex} {ts us : List Token} → CellNumber e ts us → (cs : Names Ex) (a : Text) (fs : List (List Ex)) (rs : List Ends) (is : List Ex) (low : Ex) →
    cells_run ts (at cs a fs (in_ranges rs is (high_wanted low))) ≡ cells_run us (at cs a fs (in_ranges (rs ++ both_ends ∷ []) (is ++ low ∷ e ∷ []) range_read))
high-run plain_number cs a fs rs is low = refl
high-run minus_number cs a fs rs is low = refl

-- The numbers of a range, and the run up to another behind a comma.
record Next (es fs : Exs) (r : Ends) (ts us : List Token) : Type 0 where
  bounds : List Ex
  first : items es ≡ bounds ++ items fs
  runs : (cs : Names Ex) (a : Text) (gs : List (List Ex)) (rs : List Ends) (is : List Ex) →
      cells_run ts (at cs a gs (in_ranges rs is low_wanted)) ≡ cells_run us (at cs a gs (in_ranges (rs ++ r ∷ []) (is ++ bounds) low_wanted))

next-run : {r : Ends} {es fs : Exs} {ts us : List Token} → CellRange r fs es ts (symbol comma ∷ us) → Next es fs r ts us
next-run (number_range {a = e} d) = record { bounds = e ∷ []; first = refl; runs = λ cs a gs rs is. low-run d cs a gs rs is }
next-run (numbers_range {a = e} {b = f} d g) = record { bounds = e ∷ f ∷ []; first = refl; runs = λ cs a gs rs is. low-run d cs a gs rs is ∙ high-run g cs a gs rs is e }

-- The same up to `)`.
record Last (es : Exs) (r : Ends) (ts us : List Token) : Type 0 where
  runs : (cs : Names Ex) (a : Text) (gs : List (List Ex)) (rs : List Ends) (is : List Ex) →
      cells_run ts (at cs a gs (in_ranges rs is low_wanted)) ≡ cells_run us (at cs a gs (in_ranges (rs ++ r ∷ []) (is ++ items es) close_wanted))

last-run : {r : Ends} {es : Exs} {ts us : List Token} → CellRange r no_exs es ts (symbol close_round ∷ us) → Last es r ts us
last-run (number_range {a = e} d) = record { runs = λ cs a gs rs is. low-run d cs a gs rs is }
last-run (numbers_range {a = e} {b = f} d g) = record { runs = λ cs a gs rs is. low-run d cs a gs rs is ∙ high-run g cs a gs rs is e }

ranges-run : {qs : List Ends} {es : Exs} {ts us : List Token} → CellRanges qs es ts (symbol close_round ∷ us) → (cs : Names Ex) (a : Text) (gs : List (List Ex)) (rs : List Ends) (is : List Ex) →
    cells_run ts (at cs a gs (in_ranges rs is low_wanted)) ≡ cells_run us (at cs a gs (in_ranges (rs ++ qs) (is ++ items es) close_wanted))
ranges-run (last_cell_range d) cs a gs rs is = (last-run d).runs cs a gs rs is
ranges-run {us = vs} (next_cell_range {r = r} {rs = qs} {es = es} {fs = fs} d ds) cs a gs rs is =
    let x = next-run d in
    x.runs cs a gs rs is
    ∙ ranges-run ds cs a gs (rs ++ r ∷ []) (is ++ x.bounds)
    ∙ ap (λ ps. cells_run vs (at cs a gs (in_ranges ps ((is ++ x.bounds) ++ items fs) close_wanted))) (append_assoc rs (r ∷ []) qs)
    ∙ ap (λ js. cells_run vs (at cs a gs (in_ranges (rs ++ r ∷ qs) js close_wanted))) (append_assoc is x.bounds (items fs) ∙ ap (λ js. is ++ js) (sym x.first))

-- A value begins with no `]`.
first-run : {e : Ex} {ts us : List Token} → CellValue e ts us → (cs : Names Ex) (a : Text) (fs : List (List Ex)) → cells_run ts (at cs a fs first_wanted) ≡ cells_run ts (at cs a ([] ∷ fs) value_wanted)
first-run (number_value plain_number) cs a fs = refl
first-run (number_value minus_number) cs a fs = refl
first-run true_value cs a fs = refl
first-run false_value cs a fs = refl
first-run empty_value cs a fs = refl
first-run (list_value ds) cs a fs = refl
first-run (indexed_value ds rs) cs a fs = refl

firsts-run : {es : Exs} {ts us : List Token} → CellValues es ts us → (cs : Names Ex) (a : Text) (fs : List (List Ex)) → cells_run ts (at cs a fs first_wanted) ≡ cells_run ts (at cs a ([] ∷ fs) value_wanted)
firsts-run (last_value d) cs a fs = first-run d cs a fs
firsts-run (next_value d ds) cs a fs = first-run d cs a fs

mutual
  value-run : {e : Ex} {ts us : List Token} → CellValue e ts us → (cs : Names Ex) (a : Text) (fs : List (List Ex)) → cells_run ts (at cs a fs value_wanted) ≡ run_behind cs a fs e us
  value-run (number_value d) cs a fs = number-run d cs a fs
  value-run true_value cs a fs = refl
  value-run false_value cs a fs = refl
  value-run empty_value cs a fs = refl
  value-run {us = us} (list_value {es = es} ds) cs a fs =
      firsts-run ds cs a fs ∙ values-run ds cs a [] fs ∙ ap (λ es. run_behind cs a fs (plain_list_of es) us) (listed-items es)
  value-run {us = vs} (indexed_value {es = es} {is = is} {rs = rs} ds qs) cs a fs =
      firsts-run ds cs a fs ∙ values-run ds cs a [] fs ∙ ranges-run qs cs a (items es ∷ fs) [] []
      ∙ ap (λ es. run_behind cs a fs (matrix_of es rs (listed (items is))) vs) (listed-items es)
      ∙ ap (λ is. run_behind cs a fs (matrix_of es rs is) vs) (listed-items is)

  values-run : {es : Exs} {ts us : List Token} → CellValues es ts us → (cs : Names Ex) (a : Text) (gs : List Ex) (fs : List (List Ex)) →
      cells_run ts (at cs a (gs ∷ fs) value_wanted) ≡ cells_run us (at cs a ((gs ++ items es) ∷ fs) item_read)
  values-run (last_value d) cs a gs fs = value-run d cs a (gs ∷ fs)
  values-run {us = vs} (next_value {e = e} {es = es} d ds) cs a gs fs =
      value-run d cs a (gs ∷ fs) ∙ values-run ds cs a (gs ++ e ∷ []) fs
      ∙ ap (λ xs. cells_run vs (at cs a (xs ∷ fs) item_read)) (append_assoc gs (e ∷ []) (items es))

lettings-run : {ds : Names Ex} {ts : List Token} → CellLettings ds ts → (cs : Names Ex) → cells_run ts (record { done = cs; mode = letting_wanted }) ≡ Some (cs ++ ds)
lettings-run no_cells cs = ap (λ bs. Some bs) (sym (append-nil cs))
lettings-run (more_cells {a = a} {e = e} {cs = ds} d l) cs =
    value-run d cs a [] ∙ lettings-run l (cs ++ (a, e) ∷ []) ∙ ap (λ bs. Some bs) (append_assoc cs ((a, e) ∷ []) ds)

-- Without a language line.
first-letting : {ds : Names Ex} {ts : List Token} → CellLettings ds ts → cells_run ts cells_start ≡ cells_run ts (record { done = []; mode = letting_wanted })
first-letting no_cells = refl
first-letting (more_cells d l) = refl

line-run : {ds : Names Ex} {ts us : List Token} → PrimeLine ts us → CellLettings ds us → cells_run ts cells_start ≡ Some ds
line-run no_prime_line l = first-letting l ∙ lettings-run l []
line-run prime_line l = lettings-run l []

-- What the rules derive is read.
pub cells-complete : (ts : List Token) (cs : Names Ex) → IsCells cs ts → read_cell_tokens ts ≡ Some cs
cells-complete ts cs (cells p l) = line-run p l

-- Each list of tokens is at most one text of cells.
pub one-reading : (ts : List Token) (bs cs : Names Ex) → IsCells bs ts → IsCells cs ts → bs ≡ cs
one-reading ts bs cs d g = let h : Some bs ≡ Some cs = sym (cells-complete ts bs d) ∙ cells-complete ts cs g in cc
