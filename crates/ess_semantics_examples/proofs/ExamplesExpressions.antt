-- Worked examples of the meaning of expressions, as tables: each row is an expression with its value.
use Rattle.std.specs.Prelude.{◌≡◌, refl, true, false, List, [], ◌∷◌, map, negsuc, Option, Some, None, codes}
use Rattle.ess_semantics.specs.declared.words.Op1.{Op1}
use Rattle.ess_semantics.specs.declared.words.Op2.{Op2}
use Rattle.ess_semantics.specs.declared.words.Fun.{Fun}
use Rattle.ess_semantics.specs.declared.words.Key.{Key}
use Rattle.ess_semantics.specs.Values.{a_partition, Value, number, truth, node, of_list, pair, matrix}
use Rattle.ess_semantics.specs.Collections.{set_of, mset_of, relation_of}
use Rattle.ess_semantics.specs.Trees.{tuple_literal, set_literal, mset_literal, function_literal, partition_literal, valued, name_pat, Ex, truth_ex, plain_node, comp_ex, no_exs, more_exs, no_gens, from, cond, bool_dom, tuple_dom, matrix_dom, mset_dom, function_dom, relation_dom, partition_dom, no_doms, more_doms}
use Rattle.ess_semantics.specs.Names.{Names}
use Rattle.ess_semantics.specs.Types.{Ty, type_of_dom}
use Rattle.ess_semantics.proofs.Shorthands.{N, n, es1, es2, un, bi, fn, fn2, at, app, neg, ds2, range, upto, set, v, function, value_with}

-- The types of the names, as those of these domains, and their values.
abbrev pub types : Names Ty
types =
    (codes "f", type_of_dom (function_dom [] no_exs (upto 3) (upto 9))) ∷
    (codes "g", type_of_dom (function_dom [] no_exs (upto 3) bool_dom)) ∷
    (codes "m", type_of_dom (matrix_dom (more_doms (upto 2) no_doms) (range (n 0) (n 9)))) ∷
    (codes "b", type_of_dom (matrix_dom (more_doms (upto 2) no_doms) bool_dom)) ∷
    (codes "p", type_of_dom (partition_dom [] no_exs (upto 3))) ∷
    (codes "s", type_of_dom (set (upto 3))) ∷
    (codes "z", type_of_dom (range (n 0) (n 9))) ∷
    (codes "r", type_of_dom (relation_dom [] no_exs (ds2 (upto 2) (upto 2)))) ∷
    (codes "q", type_of_dom (mset_dom (valued Key.MaxSize ∷ []) (es1 (n 4)) (upto 3))) ∷
    (codes "t", type_of_dom (tuple_dom (ds2 (upto 2) bool_dom))) ∷
    []

abbrev pub values : Names Value
values =
    (codes "f", function (pair (v 1) (v 2) ∷ [])) ∷
    (codes "g", function (pair (v 1) (truth true) ∷ [])) ∷
    (codes "m", matrix (of_list (v 1 ∷ v 2 ∷ [])) (of_list (v 7 ∷ v 8 ∷ []))) ∷
    (codes "b", matrix (of_list (v 1 ∷ v 2 ∷ [])) (of_list (truth true ∷ truth false ∷ []))) ∷
    (codes "p", node a_partition (of_list (set_of (v 1 ∷ v 3 ∷ []) ∷ set_of (v 2 ∷ []) ∷ []))) ∷
    (codes "s", set_of (v 1 ∷ v 2 ∷ [])) ∷
    (codes "z", v 0) ∷
    (codes "r", relation_of (pair (v 1) (v 2) ∷ [])) ∷
    (codes "q", mset_of (v 1 ∷ v 1 ∷ v 3 ∷ [])) ∷
    (codes "t", pair (v 2) (truth true)) ∷
    []

-- An expression with the value that it has.
abbrev pub Row : Type 0
Row = Ex × Option Value

abbrev pub Means : List Row → Type 0
Means rs = map (λ r. value_with r.0 types values) rs ≡ map (λ r. r.1) rs

abbrev numbers : List Row
numbers =
    -- 7 / -2 is -4
    (bi Op2.Div (n 7) (neg 2), Some (number (negsuc 3))) ∷
    -- 7 % -2 is -1
    (bi Op2.Mod (n 7) (neg 2), Some (number (negsuc 0))) ∷
    -- -7 / 2 is -4
    (bi Op2.Div (neg 7) (n 2), Some (number (negsuc 3))) ∷
    -- -7 % 2 is 1
    (bi Op2.Mod (neg 7) (n 2), Some (v 1)) ∷
    -- -7 / -2 is 3
    (bi Op2.Div (neg 7) (neg 2), Some (v 3)) ∷
    -- -7 % -2 is -1
    (bi Op2.Mod (neg 7) (neg 2), Some (number (negsuc 0))) ∷
    -- 7 / 0 is nothing
    (bi Op2.Div (n 7) (n 0), None) ∷
    -- 7 % 0 is nothing
    (bi Op2.Mod (n 7) (n 0), None) ∷
    -- 2 ** 3 ** 2 is 512
    (bi Op2.Pow (n 2) (bi Op2.Pow (n 3) (n 2)), Some (v 512)) ∷
    -- 0 ** 0 is nothing
    (bi Op2.Pow (n 0) (n 0), None) ∷
    -- 0 ** 2 is 0
    (bi Op2.Pow (n 0) (n 2), Some (v 0)) ∷
    -- 2 ** (-1) is nothing
    (bi Op2.Pow (n 2) (neg 1), None) ∷
    -- 1 ** (-1) is nothing
    (bi Op2.Pow (n 1) (neg 1), None) ∷
    -- min({}) is nothing
    (fn Fun.Min (plain_node set_literal no_exs), None) ∷
    []

numbers_mean : Means numbers
numbers_mean = refl

abbrev undefined_numbers_and_applications : List Row
undefined_numbers_and_applications =
    -- min({}) = 1 is false
    (bi Op2.Eq (fn Fun.Min (plain_node set_literal no_exs)) (n 1), Some (truth false)) ∷
    -- !(min({}) = 1) is true
    (un Op1.Not (bi Op2.Eq (fn Fun.Min (plain_node set_literal no_exs)) (n 1)), Some (truth true)) ∷
    -- min({}) != 1 is false
    (bi Op2.Ne (fn Fun.Min (plain_node set_literal no_exs)) (n 1), Some (truth false)) ∷
    -- max(mset(2, 2, 1)) is 2
    (fn Fun.Max (plain_node mset_literal (more_exs (n 2) (es2 (n 2) (n 1)))), Some (v 2)) ∷
    -- f(1) is 2
    (app (N (codes "f")) (n 1), Some (v 2)) ∷
    -- f(3) is nothing
    (app (N (codes "f")) (n 3), None) ∷
    -- f(3) = f(3) is false
    (bi Op2.Eq (app (N (codes "f")) (n 3)) (app (N (codes "f")) (n 3)), Some (truth false)) ∷
    -- !(f(3) = f(3)) is true
    (un Op1.Not (bi Op2.Eq (app (N (codes "f")) (n 3)) (app (N (codes "f")) (n 3))), Some (truth true)) ∷
    -- f(3) != f(3) is false
    (bi Op2.Ne (app (N (codes "f")) (n 3)) (app (N (codes "f")) (n 3)), Some (truth false)) ∷
    -- g(3) = g(3) is true
    (bi Op2.Eq (app (N (codes "g")) (n 3)) (app (N (codes "g")) (n 3)), Some (truth true)) ∷
    -- g(3) is false
    (app (N (codes "g")) (n 3), Some (truth false)) ∷
    -- !g(3) is true
    (un Op1.Not (app (N (codes "g")) (n 3)), Some (truth true)) ∷
    -- image(f, 1) = 2 is true
    (bi Op2.Eq (fn2 Fun.Image (N (codes "f")) (n 1)) (n 2), Some (truth true)) ∷
    -- image(g, 2) = false is true
    (bi Op2.Eq (fn2 Fun.Image (N (codes "g")) (n 2)) (truth_ex false), Some (truth true)) ∷
    []

undefined_numbers_and_applications_mean : Means undefined_numbers_and_applications
undefined_numbers_and_applications_mean = refl

abbrev indices_and_conditions : List Row
indices_and_conditions =
    -- m[1] is 7
    (at (N (codes "m")) (n 1), Some (v 7)) ∷
    -- m[3] is nothing
    (at (N (codes "m")) (n 3), None) ∷
    -- m[3] = 0 is false
    (bi Op2.Eq (at (N (codes "m")) (n 3)) (n 0), Some (truth false)) ∷
    -- m[3] != 0 is false
    (bi Op2.Ne (at (N (codes "m")) (n 3)) (n 0), Some (truth false)) ∷
    -- m[3] = 0 \/ true is true
    (bi Op2.Or (bi Op2.Eq (at (N (codes "m")) (n 3)) (n 0)) (truth_ex true), Some (truth true)) ∷
    -- b[3] is false
    (at (N (codes "b")) (n 3), Some (truth false)) ∷
    -- !b[3] is true
    (un Op1.Not (at (N (codes "b")) (n 3)), Some (truth true)) ∷
    -- b[3] = b[3] is true
    (bi Op2.Eq (at (N (codes "b")) (n 3)) (at (N (codes "b")) (n 3)), Some (truth true)) ∷
    -- 1 / z = 1 \/ true is true
    (bi Op2.Or (bi Op2.Eq (bi Op2.Div (n 1) (N (codes "z"))) (n 1)) (truth_ex true), Some (truth true)) ∷
    -- !(1 / z = 1) is true
    (un Op1.Not (bi Op2.Eq (bi Op2.Div (n 1) (N (codes "z"))) (n 1)), Some (truth true)) ∷
    -- 1 / z = 1 -> false is true
    (bi Op2.Implies (bi Op2.Eq (bi Op2.Div (n 1) (N (codes "z"))) (n 1)) (truth_ex false), Some (truth true)) ∷
    -- toInt(1 / z = 1) is 0
    (fn Fun.ToInt (bi Op2.Eq (bi Op2.Div (n 1) (N (codes "z"))) (n 1)), Some (v 0)) ∷
    -- toInt(!(1 / z = 1)) is 1
    (fn Fun.ToInt (un Op1.Not (bi Op2.Eq (bi Op2.Div (n 1) (N (codes "z"))) (n 1))), Some (v 1)) ∷
    -- 3 in {1, 2 / z} is false
    (bi Op2.Member (n 3) (plain_node set_literal (es2 (n 1) (bi Op2.Div (n 2) (N (codes "z"))))), Some (truth false)) ∷
    []

indices_and_conditions_mean : Means indices_and_conditions
indices_and_conditions_mean = refl

abbrev comprehensions_and_literals : List Row
comprehensions_and_literals =
    -- !(3 in {1, 2 / z}) is true
    (un Op1.Not (bi Op2.Member (n 3) (plain_node set_literal (es2 (n 1) (bi Op2.Div (n 2) (N (codes "z")))))), Some (truth true)) ∷
    -- sum([f(i) | i <- s]) is nothing
    (fn Fun.Sum (comp_ex (app (N (codes "f")) (N (codes "i"))) (from (name_pat (codes "i")) (N (codes "s")) no_gens)), None) ∷
    -- sum([f(i) | i <- s]) = 2 is false
    (bi Op2.Eq (fn Fun.Sum (comp_ex (app (N (codes "f")) (N (codes "i"))) (from (name_pat (codes "i")) (N (codes "s")) no_gens))) (n 2), Some (truth false)) ∷
    -- sum([f(i) | i <- s, i = 1]) is 2
    (fn Fun.Sum (comp_ex (app (N (codes "f")) (N (codes "i"))) (from (name_pat (codes "i")) (N (codes "s")) (cond (bi Op2.Eq (N (codes "i")) (n 1)) no_gens))), Some (v 2)) ∷
    -- and([f(i) = 2 | i <- s]) is false
    (fn Fun.And (comp_ex (bi Op2.Eq (app (N (codes "f")) (N (codes "i"))) (n 2)) (from (name_pat (codes "i")) (N (codes "s")) no_gens)), Some (truth false)) ∷
    -- or([f(i) = 2 | i <- s]) is true
    (fn Fun.Or (comp_ex (bi Op2.Eq (app (N (codes "f")) (N (codes "i"))) (n 2)) (from (name_pat (codes "i")) (N (codes "s")) no_gens)), Some (truth true)) ∷
    -- and([g(i) | i <- s]) is false
    (fn Fun.And (comp_ex (app (N (codes "g")) (N (codes "i"))) (from (name_pat (codes "i")) (N (codes "s")) no_gens)), Some (truth false)) ∷
    -- sum([x | x <- {z, 0, 0}]) is 0
    (fn Fun.Sum (comp_ex (N (codes "x")) (from (name_pat (codes "x")) (plain_node set_literal (more_exs (N (codes "z")) (es2 (n 0) (n 0)))) no_gens)), Some (v 0)) ∷
    -- |{z, 0, 1}| is 2
    (un Op1.Bar (plain_node set_literal (more_exs (N (codes "z")) (es2 (n 0) (n 1)))), Some (v 2)) ∷
    -- function(1 --> 2, 1 --> 3) is nothing
    (plain_node function_literal (es2 (plain_node tuple_literal (es2 (n 1) (n 2))) (plain_node tuple_literal (es2 (n 1) (n 3)))), None) ∷
    -- function(1 --> 2, 1 --> 2) is function(1 --> 2)
    (plain_node function_literal (es2 (plain_node tuple_literal (es2 (n 1) (n 2))) (plain_node tuple_literal (es2 (n 1) (n 2)))), Some (function (pair (v 1) (v 2) ∷ []))) ∷
    -- |function(1 --> 2, z --> 3)| is 2
    (un Op1.Bar (plain_node function_literal (es2 (plain_node tuple_literal (es2 (n 1) (n 2))) (plain_node tuple_literal (es2 (N (codes "z")) (n 3))))), Some (v 2)) ∷
    -- partition({1}, {1, 2}) is nothing
    (plain_node partition_literal (es2 (plain_node set_literal (es1 (n 1))) (plain_node set_literal (es2 (n 1) (n 2)))), None) ∷
    -- partition({1}, {}) is nothing
    (plain_node partition_literal (es2 (plain_node set_literal (es1 (n 1))) (plain_node set_literal no_exs)), None) ∷
    []

comprehensions_and_literals_mean : Means comprehensions_and_literals
comprehensions_and_literals_mean = refl
