-- Worked examples: conditions of each operator, and what a Boolean under its conditions becomes.
use Rattle.std.specs.Prelude.{◌≡◌, refl, ℕ, true, false, [], ◌∷◌, Some, codes}
use Rattle.ess_semantics.specs.declared.words.Op1.{Op1}
use Rattle.ess_semantics.specs.declared.words.Op2.{Op2}
use Rattle.ess_semantics.specs.declared.words.Fun.{Fun}
use Rattle.ess_semantics.specs.declared.words.ReprKind.{ReprKind}
use Rattle.ess_semantics.specs.Values.{Text, Value, truth}
use Rattle.ess_semantics.specs.Names.{Names}
use Rattle.ess_semantics.specs.Choice.{alone, over_child}
use Rattle.ess_semantics.specs.Trees.{word, tuple_literal, set_literal, function_literal, partition_literal, matrix_literal, Ex, truth_ex, name_ex, node_ex, matrix_ex, comp_ex, cell_ex, seen_ex, no_exs, more_exs, no_gens, over, from, cond, name_pat, no_doms, more_doms, matrix_dom, function_dom, ex1, ex2, fun1, at1}
use Rattle.ess_semantics.specs.Meaning.{Env, empty_env, meaning}
use Rattle.ess_semantics.proofs.Shorthands.{N, n, es1, es2, range, upto, v}
use Rattle.ess_guard_laws.specs.Conditions.{chained}
use Rattle.ess_guard_laws.specs.Guard.{there, make_total, make_natural, make_total_term}

-- Reserved names.
abbrev q : Text
q = 0 ∷ 1 ∷ []

abbrev r : Text
r = 0 ∷ 2 ∷ []

abbrev x : Ex
x = N (codes "x")

abbrev i : Ex
i = N (codes "i")

abbrev s : Ex
s = N (codes "s")

abbrev f : Ex
f = N (codes "f")

-- The cell c, a number.
abbrev c : Ex
c = cell_ex false (codes "c") no_exs

abbrev div : Ex → Ex → Ex
div a b = ex2 false Op2.Div a b

abbrev equal : Ex → Ex → Ex
equal a b = ex2 true Op2.Eq a b

abbrev differ : Ex → Ex → Ex
differ a b = ex2 true Op2.Ne a b

-- b under one condition
abbrev under : Ex → Ex → Ex
under p b = fun1 true Fun.Or (comp_ex b (cond p no_gens))

-- ---- quotients and powers

-- 4 / c asks that c isn't 0, and 4 / x the same of the number that x reads as
quotient : there q r (div (n 4) c) ≡ differ c (n 0) ∷ []
quotient = refl

quotient_of_name : there q r (div (n 4) x) ≡ differ (ex2 false Op2.Plus x (n 0)) (n 0) ∷ []
quotient_of_name = refl

-- a number other than 0 asks nothing
quotient_of_number : there q r (div x (n 2)) ≡ []
quotient_of_number = refl

-- 8 / (4 / c) asks inside out
quotient_in_quotient : there q r (div (n 8) (div (n 4) c)) ≡ differ c (n 0) ∷ differ (div (n 4) c) (n 0) ∷ []
quotient_in_quotient = refl

power : there q r (ex2 false Op2.Pow c c) ≡ ex2 true Op2.Ge c (n 0) ∷ ex2 true Op2.Or (differ c (n 0)) (differ c (n 0)) ∷ []
power = refl

power_of_number : there q r (ex2 false Op2.Pow (n 2) c) ≡ ex2 true Op2.Ge c (n 0) ∷ []
power_of_number = refl

square : there q r (ex2 false Op2.Pow c (n 2)) ≡ []
square = refl

-- ---- Booleans

-- `4 / c = 2` stands under its condition
quarter : make_total q r (equal (div (n 4) c) (n 2)) ≡ under (differ c (n 0)) (equal (div (n 4) c) (n 2))
quarter = refl

-- each operand of a connective for itself
denied : make_total q r (ex1 true Op1.Not (equal (div (n 4) c) (n 2))) ≡ ex1 true Op1.Not (under (differ c (n 0)) (equal (div (n 4) c) (n 2)))
denied = refl

-- a Boolean inside a term: toInt(4 / c = 2) + 1 = 2
inside : make_total q r (equal (ex2 false Op2.Plus (fun1 false Fun.ToInt (equal (div (n 4) c) (n 2))) (n 1)) (n 2)) ≡
    equal (ex2 false Op2.Plus (fun1 false Fun.ToInt (under (differ c (n 0)) (equal (div (n 4) c) (n 2)))) (n 1)) (n 2)
inside = refl

-- nothing to ask
nothing : make_total q r (equal (ex2 false Op2.Plus c (n 1)) (n 2)) ≡ equal (ex2 false Op2.Plus c (n 1)) (n 2)
nothing = refl

-- in a natural place the quotient stands as it is, elsewhere it doesn't
natural : make_natural q r (equal (div (n 4) c) (n 2)) ≡ equal (div (n 4) c) (n 2)
natural = refl

not_natural : make_natural q r (ex2 true Op2.Member (div (n 4) c) s) ≡ under (differ c (n 0)) (ex2 true Op2.Member (div (n 4) c) s)
not_natural = refl

-- ---- containers

-- min(s), and min of [4 / i | i : int(1..3)]
least_of_set : there q r (fun1 false Fun.Min s) ≡ fun1 true Fun.Or (comp_ex (truth_ex true) (from (name_pat q) s no_gens)) ∷ []
least_of_set = refl

abbrev quarters : Ex
quarters = comp_ex (div (n 4) i) (over (name_pat (codes "i")) (upto 3) no_gens)

least_of_list : there q r (fun1 false Fun.Min quarters) ≡
    fun1 true Fun.And (comp_ex (differ i (n 0)) (over (name_pat (codes "i")) (upto 3) no_gens)) ∷
    fun1 true Fun.Or (comp_ex (truth_ex true) (over (name_pat (codes "i")) (upto 3) no_gens)) ∷ []
least_of_list = refl

-- f(x), image marked as not Boolean
image : there q r (node_ex false (word Fun.Image) (es2 f x)) ≡ ex2 true Op2.Member x (fun1 false Fun.Defined f) ∷ []
image = refl

-- g(i) of a total function g on int(1..3), where i runs over int(1..3)
abbrev g : Ex
g = seen_ex (over_child ReprKind.Function1D (alone ReprKind.Atom)) (function_dom [] no_exs (upto 3) (upto 9)) (codes "g" ∷ []) no_exs

sure_image : there q r (comp_ex (node_ex false (word Fun.Image) (es2 g i)) (over (name_pat (codes "i")) (upto 3) no_gens)) ≡ []
sure_image = refl

unsure_image : there q r (node_ex false (word Fun.Image) (es2 g c)) ≡ ex2 true Op2.Member c (fun1 false Fun.Defined g) ∷ []
unsure_image = refl

-- function(1 --> c, c --> 2)
abbrev pair_of : Ex → Ex → Ex
pair_of a b = node_ex false tuple_literal (es2 a b)

functions : there q r (node_ex false function_literal (es2 (pair_of (n 1) c) (pair_of c (n 2)))) ≡ ex2 true Op2.Implies (equal (n 1) c) (equal c (n 2)) ∷ []
functions = refl

-- numerals that differ are other arguments: function(1 --> c, 2 --> c) asks nothing, a third pair with 1 asks of the first alone
apart_functions : there q r (node_ex false function_literal (es2 (pair_of (n 1) c) (pair_of (n 2) c))) ≡ []
apart_functions = refl

double_function : there q r (node_ex false function_literal (more_exs (pair_of (n 1) c) (es2 (pair_of (n 2) c) (pair_of (n 1) x)))) ≡
    ex2 true Op2.Implies (equal (n 1) (n 1)) (equal c x) ∷ []
double_function = refl

-- function((1, c) --> 3, (2, c) --> c) asks nothing either: the arguments differ in a component
apart_tuples : there q r (node_ex false function_literal (es2 (pair_of (pair_of (n 1) c) (n 3)) (pair_of (pair_of (n 2) c) c))) ≡ []
apart_tuples = refl

-- partition({c}, s)
parts : there q r (node_ex false partition_literal (es2 (node_ex false set_literal (es1 c)) s)) ≡
    fun1 true Fun.Or (comp_ex (truth_ex true) (from (name_pat q) s no_gens)) ∷
    fun1 true Fun.AllDiff (comp_ex (name_ex q) (from (name_pat r) (node_ex false matrix_literal (es2 (node_ex false set_literal (es1 c)) s)) (from (name_pat q) (name_ex r) no_gens))) ∷ []
parts = refl

-- [5, 6; int(1..2)] and [5, 6; int(1..c)]
matrix : there q r (matrix_ex (es2 (n 5) (n 6)) (upto 2)) ≡ []
matrix = refl

open_matrix : there q r (matrix_ex (es2 (n 5) (n 6)) (range (n 1) c)) ≡ equal (fun1 false Fun.Sum (comp_ex (n 1) (over (name_pat q) (range (n 1) c) no_gens))) (n 2) ∷ []
open_matrix = refl

-- ---- indices

-- A declared matrix of int(1..9) indexed by int(1..3).
abbrev m : Ex
m = seen_ex (over_child ReprKind.Matrix (alone ReprKind.Atom)) (matrix_dom (more_doms (upto 3) no_doms) (upto 9)) (codes "m" ∷ []) no_exs

item : there q r (at1 false m c) ≡ ex2 true Op2.And (ex2 true Op2.Le (n 1) c) (ex2 true Op2.Le c (n 3)) ∷ []
item = refl

sure_item : there q r (at1 false m (n 2)) ≡ []
sure_item = refl

-- in a natural place too
natural_item : make_natural q r (equal (at1 false m c) (n 2)) ≡
    chained (ex2 true Op2.And (ex2 true Op2.Le (n 1) c) (ex2 true Op2.Le c (n 3)) ∷ []) (equal (at1 false m c) (n 2))
natural_item = refl

natural_sum : make_natural q r (ex2 true Op2.Lt (ex2 false Op2.Plus (at1 false m (n 1)) (at1 false m c)) (n 5)) ≡
    chained (ex2 true Op2.And (ex2 true Op2.Le (n 1) c) (ex2 true Op2.Le c (n 3)) ∷ [])
    (ex2 true Op2.Lt (ex2 false Op2.Plus (at1 false m (n 1)) (at1 false m c)) (n 5))
natural_sum = refl

item_of_list : there q r (at1 false (node_ex false matrix_literal (es2 (n 5) (n 6))) c) ≡ ex2 true Op2.And (ex2 true Op2.Le (n 1) c) (ex2 true Op2.Le c (n 2)) ∷ []
item_of_list = refl

-- ---- what it means

abbrev with : Names Value → Env
with vs = record empty_env { vals = vs }

abbrev with_x : ℕ → Env
with_x k = with ((codes "x", v k) ∷ [])

abbrev quarter_of_x : Ex
quarter_of_x = equal (div (n 4) x) (n 2)

at_0 : meaning (make_total q r quarter_of_x) (with_x 0) ≡ Some (truth false)
at_0 = refl

at_2 : meaning (make_total q r quarter_of_x) (with_x 2) ≡ Some (truth true)
at_2 = refl

-- the two answers for the number 4 / x
there_at_0 : meaning ((make_total_term q r true (div (n 4) x)).0) (with_x 0) ≡ Some (truth false)
there_at_0 = refl

term_at_0 : meaning ((make_total_term q r true (div (n 4) x)).1) (with_x 0) ≡ Some (v 0)
term_at_0 = refl

term_at_2 : meaning ((make_total_term q r true (div (n 4) x)).1) (with_x 2) ≡ Some (v 2)
term_at_2 = refl
