-- Worked examples of judgements, as tables: each row is a specification with its first fault.
use Rattle.std.specs.Prelude.{◌≡◌, refl, ℕ, true, List, [], ◌∷◌, map, Option, Some, None, codes}
use Rattle.ess_semantics.specs.declared.words.Op2.{Op2}
use Rattle.ess_semantics.specs.declared.words.Fun.{Fun}
use Rattle.ess_semantics.specs.declared.words.Key.{Key}
use Rattle.ess_semantics.specs.Trees.{set_literal, mset_literal, matrix_literal, low_end, high_end, flag, valued, name_pat, truth_ex, plain_node, comp_ex, no_exs, no_gens, over, from, cond, bool_dom, int_dom, name_dom, tuple_dom, record_dom, matrix_dom, set_dom, mset_dom, function_dom, relation_dom, partition_dom, no_doms, more_doms, Stm, given, let_ex, let_dom, let_enum, let_unnamed, needs, find, such_that, minimise}
use Rattle.ess_semantics.specs.Judgements.{Judgement, unknown_name, double_name, ill_typed, not_finite, not_enumerable, open_given, fault}
use Rattle.ess_semantics.proofs.Shorthands.{N, n, es1, es2, bi, fn, at, ds2, range, upto, from_1, any_int, set}

-- A specification, and the first judgement that a statement fails with the number of that statement.
abbrev Row : Type 0
Row = List Stm × Option (Judgement × ℕ)

abbrev Judged : List Row → Type 0
Judged rs = map (λ r. fault r.0) rs ≡ map (λ r. r.1) rs

abbrev domains : List Row
domains =
    -- find x : int: not finite at statement 1
    ((find (codes "x") any_int ∷ []), Some (not_finite, 1)) ∷
    -- find x : int(1..): not finite at statement 1
    ((find (codes "x") from_1 ∷ []), Some (not_finite, 1)) ∷
    -- find x : bool / such that y: unknown name at statement 2
    ((find (codes "x") bool_dom ∷ such_that (N (codes "y")) ∷ []), Some (unknown_name, 2)) ∷
    -- such that 1: ill typed at statement 1
    ((such_that (n 1) ∷ []), Some (ill_typed, 1)) ∷
    -- find x : bool / find x : bool: double name at statement 2
    ((find (codes "x") bool_dom ∷ find (codes "x") bool_dom ∷ []), Some (double_name, 2)) ∷
    -- such that forAll s : set of int(1..2) . true: not enumerable at statement 1
    ((such_that (fn Fun.And (comp_ex (truth_ex true) (over (name_pat (codes "s")) (set (upto 2)) no_gens))) ∷ []), Some (not_enumerable, 1)) ∷
    -- given s : set of int: open given at statement 1
    ((given (codes "s") (set any_int) ∷ []), Some (open_given, 1)) ∷
    -- given f : function int(1..2) --> int: Ok
    ((given (codes "f") (function_dom [] no_exs (upto 2) any_int) ∷ []), None) ∷
    -- given f : function int --> bool: open given at statement 1
    ((given (codes "f") (function_dom [] no_exs any_int bool_dom) ∷ []), Some (open_given, 1)) ∷
    -- given m : matrix indexed by [int(1..2)] of (int, bool): Ok
    ((given (codes "m") (matrix_dom (more_doms (upto 2) no_doms) (tuple_dom (ds2 any_int bool_dom))) ∷ []), None) ∷
    -- given p : partition from int: not enumerable at statement 1
    ((given (codes "p") (partition_dom [] no_exs any_int) ∷ []), Some (not_enumerable, 1)) ∷
    -- find x : int(..3): not finite at statement 1
    ((find (codes "x") (int_dom (high_end ∷ []) (es1 (n 3))) ∷ []), Some (not_finite, 1)) ∷
    -- find x : int(1.., 5..): ill typed at statement 1
    ((find (codes "x") (int_dom (low_end ∷ low_end ∷ []) (es2 (n 1) (n 5))) ∷ []), Some (ill_typed, 1)) ∷
    -- find x : set (size 2, size 3) of bool: ill typed at statement 1
    ((find (codes "x") (set_dom (valued Key.Size ∷ valued Key.Size ∷ []) (es2 (n 2) (n 3)) bool_dom) ∷ []), Some (ill_typed, 1)) ∷
    -- find x : set (total) of bool: ill typed at statement 1
    ((find (codes "x") (set_dom (flag Key.Total ∷ []) no_exs bool_dom) ∷ []), Some (ill_typed, 1)) ∷
    -- find x : set (size) of bool: ill typed at statement 1
    ((find (codes "x") (set_dom (flag Key.Size ∷ []) no_exs bool_dom) ∷ []), Some (ill_typed, 1)) ∷
    -- find x : function (total 3) bool --> bool: ill typed at statement 1
    ((find (codes "x") (function_dom (valued Key.Total ∷ []) (es1 (n 3)) bool_dom bool_dom) ∷ []), Some (ill_typed, 1)) ∷
    -- find x : relation (symmetric) of (int(1..2) * bool): ill typed at statement 1
    ((find (codes "x") (relation_dom (flag Key.Symmetric ∷ []) no_exs (ds2 (upto 2) bool_dom)) ∷ []), Some (ill_typed, 1)) ∷
    []

domains_are_judged : Judged domains
domains_are_judged = refl

abbrev domains_and_names : List Row
domains_and_names =
    -- find x : relation (symmetric) of (int(1..2) * int(3..4)): Ok
    ((find (codes "x") (relation_dom (flag Key.Symmetric ∷ []) no_exs (ds2 (upto 2) (range (n 3) (n 4)))) ∷ []), None) ∷
    -- find x : record {a : bool, a : bool}: ill typed at statement 1
    ((find (codes "x") (record_dom (codes "a" ∷ codes "a" ∷ []) (ds2 bool_dom bool_dom)) ∷ []), Some (ill_typed, 1)) ∷
    -- find x : mset of bool: not finite at statement 1
    ((find (codes "x") (mset_dom [] no_exs bool_dom) ∷ []), Some (not_finite, 1)) ∷
    -- find x : mset (maxOccur 2) of bool: Ok
    ((find (codes "x") (mset_dom (valued Key.MaxOccur ∷ []) (es1 (n 2)) bool_dom) ∷ []), None) ∷
    -- find x : mset (minOccur 2) of bool: not finite at statement 1
    ((find (codes "x") (mset_dom (valued Key.MinOccur ∷ []) (es1 (n 2)) bool_dom) ∷ []), Some (not_finite, 1)) ∷
    -- find x : function (total) set of bool --> bool: not enumerable at statement 1
    ((find (codes "x") (function_dom (flag Key.Total ∷ []) no_exs (set bool_dom) bool_dom) ∷ []), Some (not_enumerable, 1)) ∷
    -- find x : function (surjective) bool --> set of bool: not enumerable at statement 1
    ((find (codes "x") (function_dom (flag Key.Surjective ∷ []) no_exs bool_dom (set bool_dom)) ∷ []), Some (not_enumerable, 1)) ∷
    -- find x : partition from set of bool: not enumerable at statement 1
    ((find (codes "x") (partition_dom [] no_exs (set bool_dom)) ∷ []), Some (not_enumerable, 1)) ∷
    -- find x : partition from (bool, int(1..2)): Ok
    ((find (codes "x") (partition_dom [] no_exs (tuple_dom (ds2 bool_dom (upto 2)))) ∷ []), None) ∷
    -- find x : relation (reflexive) of (set of bool * set of bool): not enumerable at statement 1
    ((find (codes "x") (relation_dom (flag Key.Reflexive ∷ []) no_exs (ds2 (set bool_dom) (set bool_dom))) ∷ []), Some (not_enumerable, 1)) ∷
    -- find x : matrix indexed by [set of bool] of bool: ill typed at statement 1
    ((find (codes "x") (matrix_dom (more_doms (set bool_dom) no_doms) bool_dom) ∷ []), Some (ill_typed, 1)) ∷
    -- find x : matrix indexed by [int] of bool: ill typed at statement 1
    ((find (codes "x") (matrix_dom (more_doms any_int no_doms) bool_dom) ∷ []), Some (ill_typed, 1)) ∷
    -- find n : int(1..3) / find x : int(1..n): not enumerable at statement 2
    ((find (codes "n") (upto 3) ∷ find (codes "x") (range (n 1) (N (codes "n"))) ∷ []), Some (not_enumerable, 2)) ∷
    -- given n : int / find x : int(1..n): Ok
    ((given (codes "n") any_int ∷ find (codes "x") (range (n 1) (N (codes "n"))) ∷ []), None) ∷
    -- find x : int(1..y) / find y : bool: unknown name at statement 1
    ((find (codes "x") (range (n 1) (N (codes "y"))) ∷ find (codes "y") bool_dom ∷ []), Some (unknown_name, 1)) ∷
    -- letting n be 2 / find x : int(1..n): Ok
    ((let_ex (codes "n") (n 2) ∷ find (codes "x") (range (n 1) (N (codes "n"))) ∷ []), None) ∷
    -- letting D be domain int(1..2) / find x : set of D: Ok
    ((let_dom (codes "D") (upto 2) ∷ find (codes "x") (set (name_dom (codes "D"))) ∷ []), None) ∷
    -- letting D be 2 / find x : set of D: unknown name at statement 2
    ((let_ex (codes "D") (n 2) ∷ find (codes "x") (set (name_dom (codes "D"))) ∷ []), Some (unknown_name, 2)) ∷
    []

domains_and_names_are_judged : Judged domains_and_names
domains_and_names_are_judged = refl

abbrev names_and_indices : List Row
names_and_indices =
    -- find b : bool / where b: ill typed at statement 2
    ((find (codes "b") bool_dom ∷ needs (N (codes "b")) ∷ []), Some (ill_typed, 2)) ∷
    -- find b : bool / letting c be b / where c: ill typed at statement 3
    ((find (codes "b") bool_dom ∷ let_ex (codes "c") (N (codes "b")) ∷ needs (N (codes "c")) ∷ []), Some (ill_typed, 3)) ∷
    -- letting U be new type of size 2 / find U_1 : bool: double name at statement 2
    ((let_unnamed (codes "U") (n 2) ∷ find (codes "U_1") bool_dom ∷ []), Some (double_name, 2)) ∷
    -- find U_1 : bool / letting U be new type of size 2: double name at statement 2
    ((find (codes "U_1") bool_dom ∷ let_unnamed (codes "U") (n 2) ∷ []), Some (double_name, 2)) ∷
    -- find U_x : bool / letting U be new type of size 2: Ok
    ((find (codes "U_x") bool_dom ∷ let_unnamed (codes "U") (n 2) ∷ []), None) ∷
    -- find x : bool / such that forAll x : bool . x: double name at statement 2
    ((find (codes "x") bool_dom ∷ such_that (fn Fun.And (comp_ex (N (codes "x")) (over (name_pat (codes "x")) bool_dom no_gens))) ∷ []), Some (double_name, 2)) ∷
    -- such that forAll i : bool, i : bool . i: double name at statement 1
    ((such_that (fn Fun.And (comp_ex (N (codes "i")) (over (name_pat (codes "i")) bool_dom (over (name_pat (codes "i")) bool_dom no_gens)))) ∷ []), Some (double_name, 1)) ∷
    -- minimising 1 / minimising 1: double name at statement 2
    ((minimise (n 1) ∷ minimise (n 1) ∷ []), Some (double_name, 2)) ∷
    -- minimising true: ill typed at statement 1
    ((minimise (truth_ex true) ∷ []), Some (ill_typed, 1)) ∷
    -- find t : (bool, bool) / such that t[3]: ill typed at statement 2
    ((find (codes "t") (tuple_dom (ds2 bool_dom bool_dom)) ∷ such_that (at (N (codes "t")) (n 3)) ∷ []), Some (ill_typed, 2)) ∷
    -- find t : (bool, bool) / letting k be 1 / such that t[k]: ill typed at statement 3
    ((find (codes "t") (tuple_dom (ds2 bool_dom bool_dom)) ∷ let_ex (codes "k") (n 1) ∷ such_that (at (N (codes "t")) (N (codes "k"))) ∷ []), Some (ill_typed, 3)) ∷
    -- find t : (bool, bool) / such that t[1]: Ok
    ((find (codes "t") (tuple_dom (ds2 bool_dom bool_dom)) ∷ such_that (at (N (codes "t")) (n 1)) ∷ []), None) ∷
    -- find r : record {a : bool} / such that r[a]: Ok
    ((find (codes "r") (record_dom (codes "a" ∷ []) (more_doms bool_dom no_doms)) ∷ such_that (at (N (codes "r")) (N (codes "a"))) ∷ []), None) ∷
    -- find r : record {a : bool} / such that r[b]: ill typed at statement 2
    ((find (codes "r") (record_dom (codes "a" ∷ []) (more_doms bool_dom no_doms)) ∷ such_that (at (N (codes "r")) (N (codes "b"))) ∷ []), Some (ill_typed, 2)) ∷
    -- letting U be new type of size 2 / find x, y : U / such that x < y: ill typed at statement 4
    ((let_unnamed (codes "U") (n 2) ∷ find (codes "x") (name_dom (codes "U")) ∷ find (codes "y") (name_dom (codes "U")) ∷ such_that (bi Op2.Lt (N (codes "x")) (N (codes "y"))) ∷ []), Some (ill_typed, 4)) ∷
    -- letting C be new type enum {a, b} / find x, y : C / such that x < y: Ok
    ((let_enum (codes "C") (codes "a" ∷ codes "b" ∷ []) ∷ find (codes "x") (name_dom (codes "C")) ∷ find (codes "y") (name_dom (codes "C")) ∷ such_that (bi Op2.Lt (N (codes "x")) (N (codes "y"))) ∷ []), None) ∷
    -- letting C be new type enum {a, b} / find x : C / such that max({x, a}) = b: Ok
    ((let_enum (codes "C") (codes "a" ∷ codes "b" ∷ []) ∷ find (codes "x") (name_dom (codes "C")) ∷ such_that (bi Op2.Eq (fn Fun.Max (plain_node set_literal (es2 (N (codes "x")) (N (codes "a"))))) (N (codes "b"))) ∷ []), None) ∷
    -- find s : set of int(1..2) / such that [x | x <- s] = [1]: ill typed at statement 2
    ((find (codes "s") (set (upto 2)) ∷ such_that (bi Op2.Eq (comp_ex (N (codes "x")) (from (name_pat (codes "x")) (N (codes "s")) no_gens)) (plain_node matrix_literal (es1 (n 1)))) ∷ []), Some (ill_typed, 2)) ∷
    []

names_and_indices_are_judged : Judged names_and_indices
names_and_indices_are_judged = refl

abbrev orders_and_types : List Row
orders_and_types =
    -- find s : set of int(1..2) / such that sum([x | x <- s]) = 1: Ok
    ((find (codes "s") (set (upto 2)) ∷ such_that (bi Op2.Eq (fn Fun.Sum (comp_ex (N (codes "x")) (from (name_pat (codes "x")) (N (codes "s")) no_gens))) (n 1)) ∷ []), None) ∷
    -- find s : set of int(1..2) / letting l be [x | x <- s] / such that sum(l) = 1: Ok
    ((find (codes "s") (set (upto 2)) ∷ let_ex (codes "l") (comp_ex (N (codes "x")) (from (name_pat (codes "x")) (N (codes "s")) no_gens)) ∷ such_that (bi Op2.Eq (fn Fun.Sum (N (codes "l"))) (n 1)) ∷ []), None) ∷
    -- find s : set of int(1..2) / letting l be [x | x <- s] / such that l[1] = 1: ill typed at statement 3
    ((find (codes "s") (set (upto 2)) ∷ let_ex (codes "l") (comp_ex (N (codes "x")) (from (name_pat (codes "x")) (N (codes "s")) no_gens)) ∷ such_that (bi Op2.Eq (at (N (codes "l")) (n 1)) (n 1)) ∷ []), Some (ill_typed, 3)) ∷
    -- find s : set of int(1..2) / such that allDiff([x | x <- [y | y <- s]]): Ok
    ((find (codes "s") (set (upto 2)) ∷ such_that (fn Fun.AllDiff (comp_ex (N (codes "x")) (from (name_pat (codes "x")) (comp_ex (N (codes "y")) (from (name_pat (codes "y")) (N (codes "s")) no_gens)) no_gens))) ∷ []), None) ∷
    -- find s : set of int(1..2) / such that [x | x : int(1..2), x in s] = [1]: ill typed at statement 2
    ((find (codes "s") (set (upto 2)) ∷ such_that (bi Op2.Eq (comp_ex (N (codes "x")) (over (name_pat (codes "x")) (upto 2) (cond (bi Op2.Member (N (codes "x")) (N (codes "s"))) no_gens))) (plain_node matrix_literal (es1 (n 1)))) ∷ []), Some (ill_typed, 2)) ∷
    -- find s : set of int(1..2) / such that sum([1 | x <- s, y : int(1..x)]) = 1: not enumerable at statement 2
    ((find (codes "s") (set (upto 2)) ∷ such_that (bi Op2.Eq (fn Fun.Sum (comp_ex (n 1) (from (name_pat (codes "x")) (N (codes "s")) (over (name_pat (codes "y")) (range (n 1) (N (codes "x"))) no_gens)))) (n 1)) ∷ []), Some (not_enumerable, 2)) ∷
    -- such that sum([1 | x : int(1..2), y : int(1..x)]) = 3: Ok
    ((such_that (bi Op2.Eq (fn Fun.Sum (comp_ex (n 1) (over (name_pat (codes "x")) (upto 2) (over (name_pat (codes "y")) (range (n 1) (N (codes "x"))) no_gens)))) (n 3)) ∷ []), None) ∷
    -- such that {1} = {true}: ill typed at statement 1
    ((such_that (bi Op2.Eq (plain_node set_literal (es1 (n 1))) (plain_node set_literal (es1 (truth_ex true)))) ∷ []), Some (ill_typed, 1)) ∷
    -- such that {} = {1}: Ok
    ((such_that (bi Op2.Eq (plain_node set_literal no_exs) (plain_node set_literal (es1 (n 1)))) ∷ []), None) ∷
    -- such that [] = [1]: Ok
    ((such_that (bi Op2.Eq (plain_node matrix_literal no_exs) (plain_node matrix_literal (es1 (n 1)))) ∷ []), None) ∷
    -- such that 1 in mset(1): Ok
    ((such_that (bi Op2.Member (n 1) (plain_node mset_literal (es1 (n 1)))) ∷ []), None) ∷
    -- such that 1 in [1]: ill typed at statement 1
    ((such_that (bi Op2.Member (n 1) (plain_node matrix_literal (es1 (n 1)))) ∷ []), Some (ill_typed, 1)) ∷
    -- such that {1} union mset(1) = {1}: ill typed at statement 1
    ((such_that (bi Op2.Eq (bi Op2.Union (plain_node set_literal (es1 (n 1))) (plain_node mset_literal (es1 (n 1)))) (plain_node set_literal (es1 (n 1)))) ∷ []), Some (ill_typed, 1)) ∷
    -- such that mset(1) union mset(1) = mset(1): ill typed at statement 1
    ((such_that (bi Op2.Eq (bi Op2.Union (plain_node mset_literal (es1 (n 1))) (plain_node mset_literal (es1 (n 1)))) (plain_node mset_literal (es1 (n 1)))) ∷ []), Some (ill_typed, 1)) ∷
    -- letting C be new type enum {a, a}: double name at statement 1
    ((let_enum (codes "C") (codes "a" ∷ codes "a" ∷ []) ∷ []), Some (double_name, 1)) ∷
    -- letting a be sum([x | x : int(1..2)]) / find x : int(1..3) / such that sum([1 | y : int(1..a)]) = x: Ok
    ((let_ex (codes "a") (fn Fun.Sum (comp_ex (N (codes "x")) (over (name_pat (codes "x")) (upto 2) no_gens))) ∷ find (codes "x") (upto 3) ∷ such_that (bi Op2.Eq (fn Fun.Sum (comp_ex (n 1) (over (name_pat (codes "y")) (range (n 1) (N (codes "a"))) no_gens))) (N (codes "x"))) ∷ []), None) ∷
    -- find x : bool / such that y + true: unknown name at statement 2
    ((find (codes "x") bool_dom ∷ such_that (bi Op2.Plus (N (codes "y")) (truth_ex true)) ∷ []), Some (unknown_name, 2)) ∷
    -- find x : int / find x : int: not finite at statement 1
    ((find (codes "x") any_int ∷ find (codes "x") any_int ∷ []), Some (not_finite, 1)) ∷
    []

orders_and_types_are_judged : Judged orders_and_types
orders_and_types_are_judged = refl
