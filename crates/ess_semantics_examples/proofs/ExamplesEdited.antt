-- Worked examples of the meaning of edited models: names, numbers of indices and kinds of operands that do not fit.
use Rattle.std.specs.Prelude.{◌≡◌, refl, true, false, List, [], ◌∷◌, map, pos, Option, Some, None, codes}
use Rattle.ess_semantics.specs.declared.words.Op1.{Op1}
use Rattle.ess_semantics.specs.declared.words.Op2.{Op2}
use Rattle.ess_semantics.specs.declared.words.Fun.{Fun}
use Rattle.ess_semantics.specs.Values.{Value, truth}
use Rattle.ess_semantics.specs.Trees.{matrix_literal, name_pat, Ex, truth_ex, plain_node, comp_ex, no_exs, no_gens, over, bool_dom, cell_ex}
use Rattle.ess_semantics.specs.Names.{Names}
use Rattle.ess_semantics.specs.Tables.{Table, one_cell, row_of}
use Rattle.ess_semantics.specs.DeclaredTables.{TableDecl}
use Rattle.ess_semantics.specs.ModelMeaning.{model_value}
use Rattle.ess_semantics.proofs.Shorthands.{N, n, es1, es2, un, bi, fn, range, upto, v}

-- Declared are x : int(0..3), b : bool and m : matrix indexed by [int(1..2)] of int(0..9). They hold 3, true and [5, 7].
abbrev declared : List TableDecl
declared =
    record { name = codes "x"; axes = []; cell = range (n 0) (n 3) } ∷ record { name = codes "b"; axes = []; cell = bool_dom } ∷
    record { name = codes "m"; axes = upto 2 ∷ []; cell = range (n 0) (n 9) } ∷ []

abbrev tables : Names Table
tables = (codes "x", one_cell (pos 3)) ∷ (codes "b", one_cell (pos 1)) ∷ (codes "m", row_of (pos 1 ∷ pos 2 ∷ []) (pos 5 ∷ pos 7 ∷ [])) ∷ []

-- An expression of a model with its value.
abbrev Row : Type 0
Row = Ex × Option Value

abbrev Means : List Row → Type 0
Means rs = map (λ r. model_value declared tables r.0) rs ≡ map (λ r. r.1) rs

-- [e | q : int(1..0)]
abbrev nowhere : Ex → Ex
nowhere e = comp_ex e (over (name_pat (codes "q")) (range (n 1) (n 0)) no_gens)

abbrev names_and_kinds : List Row
names_and_kinds =
    -- x + b is nothing
    (bi Op2.Plus (cell_ex false (codes "x") no_exs) (cell_ex false (codes "b") no_exs), None) ∷
    -- (x + b) = 1 is false
    (bi Op2.Eq (bi Op2.Plus (cell_ex false (codes "x") no_exs) (cell_ex false (codes "b") no_exs)) (n 1), Some (truth false)) ∷
    -- !((x + b) = 1) is true
    (un Op1.Not (bi Op2.Eq (bi Op2.Plus (cell_ex false (codes "x") no_exs) (cell_ex false (codes "b") no_exs)) (n 1)), Some (truth true)) ∷
    -- x /\ b is false
    (bi Op2.And (cell_ex false (codes "x") no_exs) (cell_ex false (codes "b") no_exs), Some (truth false)) ∷
    -- !(x /\ b) is true
    (un Op1.Not (bi Op2.And (cell_ex false (codes "x") no_exs) (cell_ex false (codes "b") no_exs)), Some (truth true)) ∷
    -- !x is false
    (un Op1.Not (cell_ex false (codes "x") no_exs), Some (truth false)) ∷
    -- x = b is false
    (bi Op2.Eq (cell_ex false (codes "x") no_exs) (cell_ex false (codes "b") no_exs), Some (truth false)) ∷
    -- x != b is false
    (bi Op2.Ne (cell_ex false (codes "x") no_exs) (cell_ex false (codes "b") no_exs), Some (truth false)) ∷
    -- m is nothing
    (cell_ex false (codes "m") no_exs, None) ∷
    -- m = 1 is false
    (bi Op2.Eq (cell_ex false (codes "m") no_exs) (n 1), Some (truth false)) ∷
    -- m[1, 1] = 1 is false
    (bi Op2.Eq (cell_ex false (codes "m") (es2 (n 1) (n 1))) (n 1), Some (truth false)) ∷
    -- x[1] = 1 is false
    (bi Op2.Eq (cell_ex false (codes "x") (es1 (n 1))) (n 1), Some (truth false)) ∷
    -- y is nothing
    (N (codes "y"), None) ∷
    -- y = 1 is false
    (bi Op2.Eq (N (codes "y")) (n 1), Some (truth false)) ∷
    -- !y is false
    (un Op1.Not (N (codes "y")), Some (truth false)) ∷
    -- y \/ true is false
    (bi Op2.Or (N (codes "y")) (truth_ex true), Some (truth false)) ∷
    -- !y \/ true is true
    (bi Op2.Or (un Op1.Not (N (codes "y"))) (truth_ex true), Some (truth true)) ∷
    -- min([y]) \/ true is false
    (bi Op2.Or (fn Fun.Min (plain_node matrix_literal (es1 (N (codes "y"))))) (truth_ex true), Some (truth false)) ∷
    -- min([]) \/ true is false
    (bi Op2.Or (fn Fun.Min (plain_node matrix_literal no_exs)) (truth_ex true), Some (truth false)) ∷
    -- min([]) <-> b is false, and so is max([]) <-> false
    (bi Op2.Iff (fn Fun.Min (plain_node matrix_literal no_exs)) (cell_ex false (codes "b") no_exs), Some (truth false)) ∷
    (bi Op2.Iff (fn Fun.Max (plain_node matrix_literal no_exs)) (truth_ex false), Some (truth false)) ∷
    -- min([]) = 1 is false, and so is 1 + min([]) = 1
    (bi Op2.Eq (fn Fun.Min (plain_node matrix_literal no_exs)) (n 1), Some (truth false)) ∷
    (bi Op2.Eq (bi Op2.Plus (n 1) (fn Fun.Min (plain_node matrix_literal no_exs))) (n 1), Some (truth false)) ∷
    []

names_and_kinds_mean : Means names_and_kinds
names_and_kinds_mean = refl

abbrev lists_and_cells : List Row
lists_and_cells =
    -- !(min([])) is false
    (un Op1.Not (fn Fun.Min (plain_node matrix_literal no_exs)), Some (truth false)) ∷
    -- and([1 / true | q : int(1..0)]) is false, as and([1 | q : int(1..0)]) and and([m[1, 1] | q : int(1..0)]) are
    (fn Fun.And (nowhere (bi Op2.Div (n 1) (truth_ex true))), Some (truth false)) ∷
    (fn Fun.And (nowhere (n 1)), Some (truth false)) ∷
    (fn Fun.And (nowhere (cell_ex false (codes "m") (es2 (n 1) (n 1)))), Some (truth false)) ∷
    -- sum([1 / true | q : int(1..0)]) is 0
    (fn Fun.Sum (nowhere (bi Op2.Div (n 1) (truth_ex true))), Some (v 0)) ∷
    -- sum([b]) = 1 is false
    (bi Op2.Eq (fn Fun.Sum (plain_node matrix_literal (es1 (cell_ex false (codes "b") no_exs)))) (n 1), Some (truth false)) ∷
    -- and([x]) is false
    (fn Fun.And (plain_node matrix_literal (es1 (cell_ex false (codes "x") no_exs))), Some (truth false)) ∷
    -- allDiff([x, b]) is false
    (fn Fun.AllDiff (plain_node matrix_literal (es2 (cell_ex false (codes "x") no_exs) (cell_ex false (codes "b") no_exs))), Some (truth false)) ∷
    -- toInt(x) = 1 is false
    (bi Op2.Eq (fn Fun.ToInt (cell_ex false (codes "x") no_exs)) (n 1), Some (truth false)) ∷
    -- |b| = 1 is false
    (bi Op2.Eq (un Op1.Bar (cell_ex false (codes "b") no_exs)) (n 1), Some (truth false)) ∷
    -- m[b] = 1 is false
    (bi Op2.Eq (cell_ex false (codes "m") (es1 (cell_ex false (codes "b") no_exs))) (n 1), Some (truth false)) ∷
    -- [x] <lex [b] is false
    (bi Op2.LexLt (plain_node matrix_literal (es1 (cell_ex false (codes "x") no_exs))) (plain_node matrix_literal (es1 (cell_ex false (codes "b") no_exs))), Some (truth false)) ∷
    -- b < true is false
    (bi Op2.Lt (cell_ex false (codes "b") no_exs) (truth_ex true), Some (truth false)) ∷
    -- b -> true is true
    (bi Op2.Implies (cell_ex false (codes "b") no_exs) (truth_ex true), Some (truth true)) ∷
    -- x < 4 is true
    (bi Op2.Lt (cell_ex false (codes "x") no_exs) (n 4), Some (truth true)) ∷
    -- m[2] is 7
    (cell_ex false (codes "m") (es1 (n 2)), Some (v 7)) ∷
    -- m[3] is nothing
    (cell_ex false (codes "m") (es1 (n 3)), None) ∷
    -- m[3] = 0 \/ true is true
    (bi Op2.Or (bi Op2.Eq (cell_ex false (codes "m") (es1 (n 3))) (n 0)) (truth_ex true), Some (truth true)) ∷
    -- sum([m[i] | i : int(1..2)]) is 12
    (fn Fun.Sum (comp_ex (cell_ex false (codes "m") (es1 (N (codes "i")))) (over (name_pat (codes "i")) (range (n 1) (n 2)) no_gens)), Some (v 12)) ∷
    -- sum([y | i : int(1..0)]) is 0
    (fn Fun.Sum (comp_ex (N (codes "y")) (over (name_pat (codes "i")) (range (n 1) (n 0)) no_gens)), Some (v 0)) ∷
    -- sum([m[i] | i : int(1..b)]) is nothing
    (fn Fun.Sum (comp_ex (cell_ex false (codes "m") (es1 (N (codes "i")))) (over (name_pat (codes "i")) (range (n 1) (cell_ex false (codes "b") no_exs)) no_gens)), None) ∷
    -- and([true | i : int(1..b)]) is false
    (fn Fun.And (comp_ex (truth_ex true) (over (name_pat (codes "i")) (range (n 1) (cell_ex false (codes "b") no_exs)) no_gens)), Some (truth false)) ∷
    -- toInt(b) is 1
    (fn Fun.ToInt (cell_ex false (codes "b") no_exs), Some (v 1)) ∷
    []

lists_and_cells_mean : Means lists_and_cells
lists_and_cells_mean = refl

-- a table has as many indices as it is declared with axes, whatever it is over
abbrev wide_tables : Names Table
wide_tables = (codes "m", record { axes = (pos 1 ∷ []) ∷ (pos 1 ∷ []) ∷ []; items = pos 5 ∷ [] }) ∷ []

two_indices : model_value declared wide_tables (cell_ex false (codes "m") (es2 (n 1) (n 1))) ≡ None
two_indices = refl
