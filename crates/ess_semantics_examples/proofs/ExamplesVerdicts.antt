-- Worked examples of verdicts on parameters and solutions, as tables.
use Rattle.std.specs.Prelude.{◌≡◌, refl, true, List, [], ◌∷◌, ◌++◌, replicate, map, negsuc, Some, None, codes}
use Rattle.ess_semantics.specs.declared.words.Op2.{Op2}
use Rattle.ess_semantics.specs.declared.words.Fun.{Fun}
use Rattle.ess_semantics.specs.declared.words.Key.{Key}
use Rattle.ess_semantics.specs.Values.{number, truth, item, of_list, pair, matrix}
use Rattle.ess_semantics.specs.Collections.{set_of}
use Rattle.ess_semantics.specs.Trees.{flag, valued, name_pat, comp_ex, no_exs, no_gens, from, name_dom, matrix_dom, set_dom, function_dom, no_doms, more_doms, Stm, given, given_enum, let_enum, let_unnamed, needs, find, such_that, maximise}
use Rattle.std.specs.Fmt.{digits}
use Rattle.ess_semantics.specs.Assignments.{nothing_given}
use Rattle.ess_semantics.specs.Parameters.{fits_param, missing_given, extra_name, no_meaning, below_0, not_member, false_need, param_verdict}
use Rattle.ess_semantics.specs.Solutions.{valid, missing_find, extra_find, not_in_domain, false_constraint, no_objective, verdict}
use Rattle.ess_semantics.proofs.Shorthands.{N, n, es1, es2, bi, fn, app, range, upto, from_1, any_int, set, v, function}

-- ---- parameters

-- given n : int(1..) / find f : function (total, injective) int(1..n) --> int(1..n)
abbrev injections : List Stm
injections = given (codes "n") from_1 ∷ find (codes "f") (function_dom (flag Key.Total ∷ flag Key.Injective ∷ []) no_exs (range (n 1) (N (codes "n"))) (range (n 1) (N (codes "n")))) ∷ []

injections_verdicts : map (param_verdict injections) (
    -- letting n be 3: Fits
    record { types = []; vals = (codes "n", Some (v 3)) ∷ [] } ∷
    -- letting n be 0: NotMember(1)
    record { types = []; vals = (codes "n", Some (v 0)) ∷ [] } ∷
    -- no letting: Missing(n)
    record { types = []; vals = [] } ∷
    -- letting n be 3 letting k be 1: Extra(k)
    record { types = []; vals = (codes "n", Some (v 3)) ∷ (codes "k", Some (v 1)) ∷ [] } ∷
    -- letting n be 3 letting n be 4: Extra(n)
    record { types = []; vals = (codes "n", Some (v 3)) ∷ (codes "n", Some (v 4)) ∷ [] } ∷
    -- letting n be true: NotMember(1)
    record { types = []; vals = (codes "n", Some (truth true)) ∷ [] } ∷
    -- letting n be new type enum {a}: NotMember(1)
    record { types = (codes "n", (codes "a" ∷ [])) ∷ []; vals = [] } ∷
    -- letting n be new type enum {a} letting n be 3: Extra(n)
    record { types = (codes "n", (codes "a" ∷ [])) ∷ []; vals = (codes "n", Some (v 3)) ∷ [] } ∷
    []) ≡ fits_param ∷ not_member 1 ∷ missing_given (codes "n") ∷ extra_name (codes "k") ∷ extra_name (codes "n") ∷ not_member 1 ∷ not_member 1 ∷ extra_name (codes "n") ∷ []
unfolding digits
injections_verdicts = refl

-- given E new type enum / letting C be new type enum {red} / find s : set of E
abbrev given_type : List Stm
given_type = given_enum (codes "E") ∷ let_enum (codes "C") (codes "red" ∷ []) ∷ find (codes "s") (set (name_dom (codes "E"))) ∷ []

given_type_verdicts : map (param_verdict given_type) (
    -- letting E be new type enum {a, b}: Fits
    record { types = (codes "E", (codes "a" ∷ codes "b" ∷ [])) ∷ []; vals = [] } ∷
    -- letting E be new type enum {a, red}: Extra(E)
    record { types = (codes "E", (codes "a" ∷ codes "red" ∷ [])) ∷ []; vals = [] } ∷
    -- letting E be new type enum {a, a}: Extra(E)
    record { types = (codes "E", (codes "a" ∷ codes "a" ∷ [])) ∷ []; vals = [] } ∷
    -- letting E be new type enum {a, s}: Extra(E)
    record { types = (codes "E", (codes "a" ∷ codes "s" ∷ [])) ∷ []; vals = [] } ∷
    -- a value's name that is a reserved word, a number, a word outside the subset, or empty: Extra(E)
    record { types = (codes "E", (codes "and" ∷ [])) ∷ []; vals = [] } ∷
    record { types = (codes "E", (codes "a" ∷ codes "2" ∷ [])) ∷ []; vals = [] } ∷
    record { types = (codes "E", (codes "table" ∷ [])) ∷ []; vals = [] } ∷
    record { types = (codes "E", ([] ∷ [])) ∷ []; vals = [] } ∷
    -- no values: NotMember(1)
    record { types = (codes "E", []) ∷ []; vals = [] } ∷
    -- letting E be 3: NotMember(1)
    record { types = []; vals = (codes "E", Some (v 3)) ∷ [] } ∷
    -- letting C be new type enum {red}: Missing(E)
    record { types = (codes "C", (codes "red" ∷ [])) ∷ []; vals = [] } ∷
    -- no letting: Missing(E)
    record { types = []; vals = [] } ∷
    []) ≡ fits_param ∷ map extra_name (replicate 7 (codes "E")) ++ not_member 1 ∷ not_member 1 ∷ missing_given (codes "E") ∷ missing_given (codes "E") ∷ []
unfolding digits
given_type_verdicts = refl

-- given E new type enum / given F new type enum
abbrev two_types : List Stm
two_types = given_enum (codes "E") ∷ given_enum (codes "F") ∷ []

two_types_verdicts : map (param_verdict two_types) (
    -- letting E be new type enum {a} letting F be new type enum {b}: Fits
    record { types = (codes "E", (codes "a" ∷ [])) ∷ (codes "F", (codes "b" ∷ [])) ∷ []; vals = [] } ∷
    -- letting E be new type enum {a} letting F be new type enum {a}: Extra(F)
    record { types = (codes "E", (codes "a" ∷ [])) ∷ (codes "F", (codes "a" ∷ [])) ∷ []; vals = [] } ∷
    -- letting F be new type enum {a} letting E be new type enum {a}: Extra(E)
    record { types = (codes "F", (codes "a" ∷ [])) ∷ (codes "E", (codes "a" ∷ [])) ∷ []; vals = [] } ∷
    []) ≡ fits_param ∷ extra_name (codes "F") ∷ extra_name (codes "E") ∷ []
unfolding digits
two_types_verdicts = refl

-- given n : int / letting U be new type of size n / given E new type enum / find s : set of U
abbrev unnamed_type : List Stm
unnamed_type = given (codes "n") any_int ∷ let_unnamed (codes "U") (N (codes "n")) ∷ given_enum (codes "E") ∷ find (codes "s") (set (name_dom (codes "U"))) ∷ []

unnamed_type_verdicts : map (param_verdict unnamed_type) (
    -- letting n be 2 letting E be new type enum {a}: Fits
    record { types = (codes "E", (codes "a" ∷ [])) ∷ []; vals = (codes "n", Some (v 2)) ∷ [] } ∷
    -- letting n be 2 letting E be new type enum {U_2}: Extra(E)
    record { types = (codes "E", (codes "U_2" ∷ [])) ∷ []; vals = (codes "n", Some (v 2)) ∷ [] } ∷
    -- letting n be -1 letting E be new type enum {a}: BelowZero(2)
    record { types = (codes "E", (codes "a" ∷ [])) ∷ []; vals = (codes "n", Some (number (negsuc 0))) ∷ [] } ∷
    -- letting n be 0 letting E be new type enum {a}: Fits
    record { types = (codes "E", (codes "a" ∷ [])) ∷ []; vals = (codes "n", Some (v 0)) ∷ [] } ∷
    -- letting n be 2 letting E be new type enum {a} letting U be new type enum {U_1, U_2}: Fits
    record { types = (codes "E", (codes "a" ∷ [])) ∷ (codes "U", (codes "U_1" ∷ codes "U_2" ∷ [])) ∷ []; vals = (codes "n", Some (v 2)) ∷ [] } ∷
    -- letting n be 2 letting E be new type enum {a} letting U be new type enum {U_1}: Extra(U)
    record { types = (codes "E", (codes "a" ∷ [])) ∷ (codes "U", (codes "U_1" ∷ [])) ∷ []; vals = (codes "n", Some (v 2)) ∷ [] } ∷
    -- letting n be 2 letting E be new type enum {a} letting U be new type enum {U_2, U_1}: Extra(U)
    record { types = (codes "E", (codes "a" ∷ [])) ∷ (codes "U", (codes "U_2" ∷ codes "U_1" ∷ [])) ∷ []; vals = (codes "n", Some (v 2)) ∷ [] } ∷
    []) ≡ fits_param ∷ extra_name (codes "E") ∷ below_0 2 ∷ fits_param ∷ fits_param ∷ extra_name (codes "U") ∷ extra_name (codes "U") ∷ []
unfolding digits
unnamed_type_verdicts = refl

-- given a, b : int(0..9) / where a <= b / find s : set (size b - a, maxSize 10 / b) of int(1..3)
abbrev sizes : List Stm
sizes = given (codes "a") (range (n 0) (n 9)) ∷ given (codes "b") (range (n 0) (n 9)) ∷ needs (bi Op2.Le (N (codes "a")) (N (codes "b"))) ∷ find (codes "s") (set_dom (valued Key.Size ∷ valued Key.MaxSize ∷ []) (es2 (bi Op2.Minus (N (codes "b")) (N (codes "a"))) (bi Op2.Div (n 10) (N (codes "b")))) (upto 3)) ∷ []

sizes_verdicts : map (param_verdict sizes) (
    -- letting a be 1 letting b be 3: Fits
    record { types = []; vals = (codes "a", Some (v 1)) ∷ (codes "b", Some (v 3)) ∷ [] } ∷
    -- letting a be 3 letting b be 1: Needs(3)
    record { types = []; vals = (codes "a", Some (v 3)) ∷ (codes "b", Some (v 1)) ∷ [] } ∷
    -- letting a be 0 letting b be 0: NoMeaning(4)
    record { types = []; vals = (codes "a", Some (v 0)) ∷ (codes "b", Some (v 0)) ∷ [] } ∷
    -- letting b be 3 letting a be 10: NotMember(1)
    record { types = []; vals = (codes "b", Some (v 3)) ∷ (codes "a", Some (v 10)) ∷ [] } ∷
    []) ≡ fits_param ∷ false_need 3 ∷ no_meaning 4 ∷ not_member 1 ∷ []
unfolding digits
sizes_verdicts = refl

-- given n : int / find x : int(1..n) / find s : set (size n) of int(1..3) / where n > 5
abbrev size_and_where : List Stm
size_and_where = given (codes "n") any_int ∷ find (codes "x") (range (n 1) (N (codes "n"))) ∷ find (codes "s") (set_dom (valued Key.Size ∷ []) (es1 (N (codes "n"))) (upto 3)) ∷ needs (bi Op2.Gt (N (codes "n")) (n 5)) ∷ []

size_and_where_verdicts : map (param_verdict size_and_where) (
    -- letting n be -1: BelowZero(3)
    record { types = []; vals = (codes "n", Some (number (negsuc 0))) ∷ [] } ∷
    -- letting n be 2: Needs(4)
    record { types = []; vals = (codes "n", Some (v 2)) ∷ [] } ∷
    -- letting n be 6: Fits
    record { types = []; vals = (codes "n", Some (v 6)) ∷ [] } ∷
    []) ≡ below_0 3 ∷ false_need 4 ∷ fits_param ∷ []
unfolding digits
size_and_where_verdicts = refl

-- given n : int / given m : matrix indexed by [int(1..n)] of int(0..1)
abbrev given_matrix : List Stm
given_matrix = given (codes "n") any_int ∷ given (codes "m") (matrix_dom (more_doms (range (n 1) (N (codes "n"))) no_doms) (range (n 0) (n 1))) ∷ []

given_matrix_verdicts : map (param_verdict given_matrix) (
    -- letting n be 2 letting m be [0, 1]: Fits
    record { types = []; vals = (codes "n", Some (v 2)) ∷ (codes "m", Some (matrix (of_list (v 1 ∷ v 2 ∷ [])) (of_list (v 0 ∷ v 1 ∷ [])))) ∷ [] } ∷
    -- letting n be 0 letting m be []: Fits
    record { types = []; vals = (codes "n", Some (v 0)) ∷ (codes "m", Some (matrix (of_list []) (of_list []))) ∷ [] } ∷
    -- letting n be 2 letting m be [0, 1, 1]: NotMember(2)
    record { types = []; vals = (codes "n", Some (v 2)) ∷ (codes "m", Some (matrix (of_list (v 1 ∷ v 2 ∷ v 3 ∷ [])) (of_list (v 0 ∷ v 1 ∷ v 1 ∷ [])))) ∷ [] } ∷
    -- letting n be 2 letting m be [0, 1; int(2..3)]: NotMember(2)
    record { types = []; vals = (codes "n", Some (v 2)) ∷ (codes "m", Some (matrix (of_list (v 2 ∷ v 3 ∷ [])) (of_list (v 0 ∷ v 1 ∷ [])))) ∷ [] } ∷
    -- letting n be 2 letting m be [0, 2]: NotMember(2)
    record { types = []; vals = (codes "n", Some (v 2)) ∷ (codes "m", Some (matrix (of_list (v 1 ∷ v 2 ∷ [])) (of_list (v 0 ∷ v 2 ∷ [])))) ∷ [] } ∷
    []) ≡ fits_param ∷ fits_param ∷ not_member 2 ∷ not_member 2 ∷ not_member 2 ∷ []
unfolding digits
given_matrix_verdicts = refl

-- ---- solutions

-- find s : set of int(1..3) / such that 2 in s
abbrev one_set : List Stm
one_set = find (codes "s") (set (upto 3)) ∷ such_that (bi Op2.Member (n 2) (N (codes "s"))) ∷ []

one_set_verdicts : map (verdict one_set nothing_given) (
    -- letting s be {2, 3}: Valid
    record { types = []; vals = (codes "s", Some (set_of (v 2 ∷ v 3 ∷ []))) ∷ [] } ∷
    -- no letting: Missing(s)
    record { types = []; vals = [] } ∷
    -- letting s be {2} letting u be 1: Extra(u)
    record { types = []; vals = (codes "s", Some (set_of (v 2 ∷ []))) ∷ (codes "u", Some (v 1)) ∷ [] } ∷
    -- letting s be {2, 4}: NotMember(s)
    record { types = []; vals = (codes "s", Some (set_of (v 2 ∷ v 4 ∷ []))) ∷ [] } ∷
    -- letting s be {1}: False(2)
    record { types = []; vals = (codes "s", Some (set_of (v 1 ∷ []))) ∷ [] } ∷
    -- letting s be {2} letting s be {2}: Extra(s)
    record { types = []; vals = (codes "s", Some (set_of (v 2 ∷ []))) ∷ (codes "s", Some (set_of (v 2 ∷ []))) ∷ [] } ∷
    -- letting s be 2: NotMember(s)
    record { types = []; vals = (codes "s", Some (v 2)) ∷ [] } ∷
    -- letting s be new type enum {a}: NotMember(s)
    record { types = (codes "s", (codes "a" ∷ [])) ∷ []; vals = [] } ∷
    -- letting s be {2, 2}: Valid
    record { types = []; vals = (codes "s", Some (set_of (v 2 ∷ v 2 ∷ []))) ∷ [] } ∷
    []) ≡ valid ∷ missing_find (codes "s") ∷ extra_find (codes "u") ∷ not_in_domain (codes "s") ∷ false_constraint 2 ∷ extra_find (codes "s") ∷ not_in_domain (codes "s") ∷ not_in_domain (codes "s") ∷ valid ∷ []
unfolding digits
one_set_verdicts = refl

-- find s : set of int(1..2) / find f : function int(1..2) --> int(0..0) / such that sum([f(i) | i <- s]) = 0
abbrev partial_sum : List Stm
partial_sum = find (codes "s") (set (upto 2)) ∷ find (codes "f") (function_dom [] no_exs (upto 2) (range (n 0) (n 0))) ∷ such_that (bi Op2.Eq (fn Fun.Sum (comp_ex (app (N (codes "f")) (N (codes "i"))) (from (name_pat (codes "i")) (N (codes "s")) no_gens))) (n 0)) ∷ []

partial_sum_verdicts : map (verdict partial_sum nothing_given) (
    -- letting s be {2} letting f be function(1 --> 0): False(3)
    record { types = []; vals = (codes "s", Some (set_of (v 2 ∷ []))) ∷ (codes "f", Some (function (pair (v 1) (v 0) ∷ []))) ∷ [] } ∷
    -- letting s be {1} letting f be function(1 --> 0): Valid
    record { types = []; vals = (codes "s", Some (set_of (v 1 ∷ []))) ∷ (codes "f", Some (function (pair (v 1) (v 0) ∷ []))) ∷ [] } ∷
    -- letting f be function() letting s be {}: Valid
    record { types = []; vals = (codes "f", Some (function [])) ∷ (codes "s", Some (set_of [])) ∷ [] } ∷
    []) ≡ false_constraint 3 ∷ valid ∷ valid ∷ []
unfolding digits
partial_sum_verdicts = refl

-- find x : int(0..2) / such that x < 2 / maximising 4 / x
abbrev objective : List Stm
objective = find (codes "x") (range (n 0) (n 2)) ∷ such_that (bi Op2.Lt (N (codes "x")) (n 2)) ∷ maximise (bi Op2.Div (n 4) (N (codes "x"))) ∷ []

objective_verdicts : map (verdict objective nothing_given) (
    -- letting x be 1: Valid
    record { types = []; vals = (codes "x", Some (v 1)) ∷ [] } ∷
    -- letting x be 0: NoObjective(None)
    record { types = []; vals = (codes "x", Some (v 0)) ∷ [] } ∷
    -- letting x be 2: False(2)
    record { types = []; vals = (codes "x", Some (v 2)) ∷ [] } ∷
    -- letting x be 3: NotMember(x)
    record { types = []; vals = (codes "x", Some (v 3)) ∷ [] } ∷
    []) ≡ valid ∷ no_objective ∷ false_constraint 2 ∷ not_in_domain (codes "x") ∷ []
unfolding digits
objective_verdicts = refl

-- find x, y : int(0..3) / such that x + 1 < y, x != 1
abbrev two_scalars : List Stm
two_scalars = find (codes "x") (range (n 0) (n 3)) ∷ find (codes "y") (range (n 0) (n 3)) ∷ such_that (bi Op2.Lt (bi Op2.Plus (N (codes "x")) (n 1)) (N (codes "y"))) ∷ such_that (bi Op2.Ne (N (codes "x")) (n 1)) ∷ []

two_scalars_verdicts : map (verdict two_scalars nothing_given) (
    -- letting x be 0 letting y be 2: Valid
    record { types = []; vals = (codes "x", Some (v 0)) ∷ (codes "y", Some (v 2)) ∷ [] } ∷
    -- letting x be 1 letting y be 3: False(4)
    record { types = []; vals = (codes "x", Some (v 1)) ∷ (codes "y", Some (v 3)) ∷ [] } ∷
    -- letting x be 1 letting y be 1: False(3)
    record { types = []; vals = (codes "x", Some (v 1)) ∷ (codes "y", Some (v 1)) ∷ [] } ∷
    -- letting y be 9 letting x be 9: NotMember(x)
    record { types = []; vals = (codes "y", Some (v 9)) ∷ (codes "x", Some (v 9)) ∷ [] } ∷
    -- letting z be 1 letting x be 9: Missing(y)
    record { types = []; vals = (codes "z", Some (v 1)) ∷ (codes "x", Some (v 9)) ∷ [] } ∷
    []) ≡ valid ∷ false_constraint 4 ∷ false_constraint 3 ∷ not_in_domain (codes "x") ∷ missing_find (codes "y") ∷ []
unfolding digits
two_scalars_verdicts = refl

-- letting U be new type of size 2 / find s : set of U
abbrev unnamed_members : List Stm
unnamed_members = let_unnamed (codes "U") (n 2) ∷ find (codes "s") (set (name_dom (codes "U"))) ∷ []

unnamed_members_verdicts : map (verdict unnamed_members nothing_given) (
    -- letting s be {U_2}: Valid
    record { types = []; vals = (codes "s", Some (set_of (item (codes "U") 2 ∷ []))) ∷ [] } ∷
    -- letting s be {U_3}: NotMember(s)
    record { types = []; vals = (codes "s", Some (set_of (item (codes "U") 3 ∷ []))) ∷ [] } ∷
    -- letting s be {U_02}: NotMember(s)
    record { types = []; vals = (codes "s", None) ∷ [] } ∷
    -- letting U be new type enum {U_1, U_2} letting s be {}: Valid
    record { types = (codes "U", (codes "U_1" ∷ codes "U_2" ∷ [])) ∷ []; vals = (codes "s", Some (set_of [])) ∷ [] } ∷
    -- letting U be new type enum {U_1} letting s be {}: Extra(U)
    record { types = (codes "U", (codes "U_1" ∷ [])) ∷ []; vals = (codes "s", Some (set_of [])) ∷ [] } ∷
    []) ≡ valid ∷ not_in_domain (codes "s") ∷ not_in_domain (codes "s") ∷ valid ∷ extra_find (codes "U") ∷ []
unfolding digits
unnamed_members_verdicts = refl
