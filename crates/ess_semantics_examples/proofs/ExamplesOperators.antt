-- More worked examples of the meaning of expressions, as tables.
use Rattle.std.specs.Prelude.{refl, true, false, List, [], ◌∷◌, Some, None, codes}
use Rattle.ess_semantics.specs.declared.words.Op1.{Op1}
use Rattle.ess_semantics.specs.declared.words.Op2.{Op2}
use Rattle.ess_semantics.specs.declared.words.Fun.{Fun}
use Rattle.ess_semantics.specs.Values.{truth, of_list, pair, matrix}
use Rattle.ess_semantics.specs.Collections.{set_of, mset_of}
use Rattle.ess_semantics.specs.Trees.{application, tuple_literal, set_literal, mset_literal, partition_literal, matrix_literal, one_value, name_pat, tuple_pat, no_pats, more_pats, truth_ex, plain_node, matrix_ex, comp_ex, no_exs, more_exs, no_gens, over, from, cond, int_dom}
use Rattle.ess_semantics_examples.proofs.ExamplesExpressions.{Row, Means}
use Rattle.ess_semantics.proofs.Shorthands.{N, n, es1, es2, un, bi, fn, fn2, at, range, upto, v}

abbrev literals_and_partitions : List Row
literals_and_partitions =
    -- partition({1}, {1}) is nothing
    (plain_node partition_literal (es2 (plain_node set_literal (es1 (n 1))) (plain_node set_literal (es1 (n 1)))), None) ∷
    -- parts(partition({1}, {z})) is {{0}, {1}}
    (fn Fun.Parts (plain_node partition_literal (es2 (plain_node set_literal (es1 (n 1))) (plain_node set_literal (es1 (N (codes "z")))))), Some (set_of (set_of (v 0 ∷ []) ∷ set_of (v 1 ∷ []) ∷ []))) ∷
    -- [1, 2; int(1..3)] is nothing
    (matrix_ex (es2 (n 1) (n 2)) (upto 3), None) ∷
    -- [1, 2; int(4, 6)] is [1, 2; int(4..4, 6..6)]
    (matrix_ex (es2 (n 1) (n 2)) (int_dom (one_value ∷ one_value ∷ []) (es2 (n 4) (n 6))), Some (matrix (of_list (v 4 ∷ v 6 ∷ [])) (of_list (v 1 ∷ v 2 ∷ [])))) ∷
    -- [1, 2; int(4, 6)][6] is 2
    (at (matrix_ex (es2 (n 1) (n 2)) (int_dom (one_value ∷ one_value ∷ []) (es2 (n 4) (n 6)))) (n 6), Some (v 2)) ∷
    -- [1, 2] = [1, 2; int(2..3)] is false
    (bi Op2.Eq (plain_node matrix_literal (es2 (n 1) (n 2))) (matrix_ex (es2 (n 1) (n 2)) (range (n 2) (n 3))), Some (truth false)) ∷
    -- party(2, p) is {2}
    (fn2 Fun.Party (n 2) (N (codes "p")), Some (set_of (v 2 ∷ []))) ∷
    -- party(4, p) is nothing
    (fn2 Fun.Party (n 4) (N (codes "p")), None) ∷
    -- party(4, p) = {} is false
    (bi Op2.Eq (fn2 Fun.Party (n 4) (N (codes "p"))) (plain_node set_literal no_exs), Some (truth false)) ∷
    -- together({1, 3}, p) is true
    (fn2 Fun.Together (plain_node set_literal (es2 (n 1) (n 3))) (N (codes "p")), Some (truth true)) ∷
    -- together({1, 2}, p) is false
    (fn2 Fun.Together (plain_node set_literal (es2 (n 1) (n 2))) (N (codes "p")), Some (truth false)) ∷
    -- together({}, p) is true
    (fn2 Fun.Together (plain_node set_literal no_exs) (N (codes "p")), Some (truth true)) ∷
    -- participants(p) is {1, 2, 3}
    (fn Fun.Participants (N (codes "p")), Some (set_of (v 1 ∷ v 2 ∷ v 3 ∷ []))) ∷
    -- parts(p) is {{1, 3}, {2}}
    (fn Fun.Parts (N (codes "p")), Some (set_of (set_of (v 1 ∷ v 3 ∷ []) ∷ set_of (v 2 ∷ []) ∷ []))) ∷
    []

literals_and_partitions_mean : Means literals_and_partitions
literals_and_partitions_mean = refl

abbrev functions_and_relations : List Row
functions_and_relations =
    -- preImage(f, 2) is {1}
    (fn2 Fun.PreImage (N (codes "f")) (n 2), Some (set_of (v 1 ∷ []))) ∷
    -- preImage(f, 5) is {}
    (fn2 Fun.PreImage (N (codes "f")) (n 5), Some (set_of [])) ∷
    -- defined(f) is {1}
    (fn Fun.Defined (N (codes "f")), Some (set_of (v 1 ∷ []))) ∷
    -- range(f) is {2}
    (fn Fun.Range (N (codes "f")), Some (set_of (v 2 ∷ []))) ∷
    -- r(1, 2) is true
    (plain_node application (more_exs (N (codes "r")) (es2 (n 1) (n 2))), Some (truth true)) ∷
    -- r(2, 1) is false
    (plain_node application (more_exs (N (codes "r")) (es2 (n 2) (n 1))), Some (truth false)) ∷
    -- toSet(r) is {(1, 2)}
    (fn Fun.ToSet (N (codes "r")), Some (set_of (pair (v 1) (v 2) ∷ []))) ∷
    -- freq(q, 1) is 2
    (fn2 Fun.Freq (N (codes "q")) (n 1), Some (v 2)) ∷
    -- freq(q, 2) is 0
    (fn2 Fun.Freq (N (codes "q")) (n 2), Some (v 0)) ∷
    -- toSet(q) is {1, 3}
    (fn Fun.ToSet (N (codes "q")), Some (set_of (v 1 ∷ v 3 ∷ []))) ∷
    -- toMSet([2, 1, 2]) is mset(1, 2, 2)
    (fn Fun.ToMSet (plain_node matrix_literal (more_exs (n 2) (es2 (n 1) (n 2)))), Some (mset_of (v 1 ∷ v 2 ∷ v 2 ∷ []))) ∷
    -- |q| is 3
    (un Op1.Bar (N (codes "q")), Some (v 3)) ∷
    -- |r| is 1
    (un Op1.Bar (N (codes "r")), Some (v 1)) ∷
    -- |f| is 1
    (un Op1.Bar (N (codes "f")), Some (v 1)) ∷
    []

functions_and_relations_mean : Means functions_and_relations
functions_and_relations_mean = refl

abbrev sets_and_lists : List Row
sets_and_lists =
    -- |0 - 5| is 5
    (un Op1.Bar (bi Op2.Minus (n 0) (n 5)), Some (v 5)) ∷
    -- {1, 1} subset {1, 2} is true
    (bi Op2.Subset (plain_node set_literal (es2 (n 1) (n 1))) (plain_node set_literal (es2 (n 1) (n 2))), Some (truth true)) ∷
    -- {1} subset {1} is false
    (bi Op2.Subset (plain_node set_literal (es1 (n 1))) (plain_node set_literal (es1 (n 1))), Some (truth false)) ∷
    -- mset(1, 1) subsetEq mset(1) is false
    (bi Op2.SubsetEq (plain_node mset_literal (es2 (n 1) (n 1))) (plain_node mset_literal (es1 (n 1))), Some (truth false)) ∷
    -- mset(1) subset mset(1, 1) is true
    (bi Op2.Subset (plain_node mset_literal (es1 (n 1))) (plain_node mset_literal (es2 (n 1) (n 1))), Some (truth true)) ∷
    -- {1, 2} - {2, 3} is {1}
    (bi Op2.Minus (plain_node set_literal (es2 (n 1) (n 2))) (plain_node set_literal (es2 (n 2) (n 3))), Some (set_of (v 1 ∷ []))) ∷
    -- {1, 2} union {2, 3} is {1, 2, 3}
    (bi Op2.Union (plain_node set_literal (es2 (n 1) (n 2))) (plain_node set_literal (es2 (n 2) (n 3))), Some (set_of (v 1 ∷ v 2 ∷ v 3 ∷ []))) ∷
    -- {1, 2} intersect {2, 3} is {2}
    (bi Op2.Intersect (plain_node set_literal (es2 (n 1) (n 2))) (plain_node set_literal (es2 (n 2) (n 3))), Some (set_of (v 2 ∷ []))) ∷
    -- [1, 2] <lex [1, 2, 0] is true
    (bi Op2.LexLt (plain_node matrix_literal (es2 (n 1) (n 2))) (plain_node matrix_literal (more_exs (n 1) (es2 (n 2) (n 0)))), Some (truth true)) ∷
    -- [2] <=lex [1, 5] is false
    (bi Op2.LexLe (plain_node matrix_literal (es1 (n 2))) (plain_node matrix_literal (es2 (n 1) (n 5))), Some (truth false)) ∷
    -- [] <lex [false] is true
    (bi Op2.LexLt (plain_node matrix_literal no_exs) (plain_node matrix_literal (es1 (truth_ex false))), Some (truth true)) ∷
    -- t[1] is 2
    (at (N (codes "t")) (n 1), Some (v 2)) ∷
    -- t[2] is true
    (at (N (codes "t")) (n 2), Some (truth true)) ∷
    -- (1, 2) in r is true
    (bi Op2.Member (plain_node tuple_literal (es2 (n 1) (n 2))) (N (codes "r")), Some (truth true)) ∷
    []

sets_and_lists_mean : Means sets_and_lists
sets_and_lists_mean = refl

abbrev tuples_and_generators : List Row
tuples_and_generators =
    -- allDiff([1, 2, 1]) is false
    (fn Fun.AllDiff (plain_node matrix_literal (more_exs (n 1) (es2 (n 2) (n 1)))), Some (truth false)) ∷
    -- sum([]) is 0
    (fn Fun.Sum (plain_node matrix_literal no_exs), Some (v 0)) ∷
    -- product([]) is 1
    (fn Fun.Product (plain_node matrix_literal no_exs), Some (v 1)) ∷
    -- and([]) is true
    (fn Fun.And (plain_node matrix_literal no_exs), Some (truth true)) ∷
    -- or([]) is false
    (fn Fun.Or (plain_node matrix_literal no_exs), Some (truth false)) ∷
    -- [x | x : int(1..3), x != 2] is [1, 3; int(1..2)]
    (comp_ex (N (codes "x")) (over (name_pat (codes "x")) (upto 3) (cond (bi Op2.Ne (N (codes "x")) (n 2)) no_gens)), Some (matrix (of_list (v 1 ∷ v 2 ∷ [])) (of_list (v 1 ∷ v 3 ∷ [])))) ∷
    -- [x + y | x : int(1..2), y : int(x..2)] is [2, 3, 4; int(1..3)]
    (comp_ex (bi Op2.Plus (N (codes "x")) (N (codes "y"))) (over (name_pat (codes "x")) (upto 2) (over (name_pat (codes "y")) (range (N (codes "x")) (n 2)) no_gens)), Some (matrix (of_list (v 1 ∷ v 2 ∷ v 3 ∷ [])) (of_list (v 2 ∷ v 3 ∷ v 4 ∷ [])))) ∷
    -- sum([1 | x : int(1..3), y : int(1..3 / x)]) is 5
    (fn Fun.Sum (comp_ex (n 1) (over (name_pat (codes "x")) (upto 3) (over (name_pat (codes "y")) (range (n 1) (bi Op2.Div (n 3) (N (codes "x")))) no_gens))), Some (v 5)) ∷
    -- sum([1 | x : int(0..1), y : int(1..1 / x)]) is nothing
    (fn Fun.Sum (comp_ex (n 1) (over (name_pat (codes "x")) (range (n 0) (n 1)) (over (name_pat (codes "y")) (range (n 1) (bi Op2.Div (n 1) (N (codes "x")))) no_gens))), None) ∷
    -- sum([1 | x : int(0..1), x > 0, y : int(1..1 / x)]) is 1
    (fn Fun.Sum (comp_ex (n 1) (over (name_pat (codes "x")) (range (n 0) (n 1)) (cond (bi Op2.Gt (N (codes "x")) (n 0)) (over (name_pat (codes "y")) (range (n 1) (bi Op2.Div (n 1) (N (codes "x")))) no_gens)))), Some (v 1)) ∷
    -- sum([1 | (x, y) <- toRelation(f), x < y]) is 1
    (fn Fun.Sum (comp_ex (n 1) (from (tuple_pat (more_pats (name_pat (codes "x")) (more_pats (name_pat (codes "y")) no_pats))) (fn Fun.ToRelation (N (codes "f"))) (cond (bi Op2.Lt (N (codes "x")) (N (codes "y"))) no_gens))), Some (v 1)) ∷
    []

tuples_and_generators_mean : Means tuples_and_generators
tuples_and_generators_mean = refl
