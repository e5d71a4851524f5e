-- Worked examples of parameters and solutions.
use Rattle.std.specs.Prelude.{◌≡◌, refl, ℕ, Bool, true, false, List, [], ◌∷◌, ◌++◌, map, length, filter, replicate, negsuc, Some, codes}
use Rattle.ess_semantics.specs.declared.words.Op1.{Op1}
use Rattle.ess_semantics.specs.declared.words.Op2.{Op2}
use Rattle.ess_semantics.specs.declared.words.Fun.{Fun}
use Rattle.ess_semantics.specs.declared.words.Key.{Key}
use Rattle.ess_semantics.specs.Values.{Text, a_partition, Value, number, truth, item, node, of_list, pair}
use Rattle.ess_semantics.specs.Collections.{set_of, mset_of}
use Rattle.ess_semantics.specs.Trees.{Op, set_literal, flag, valued, name_pat, Ex, plain_node, comp_ex, no_exs, no_gens, over, from, cond, Dom, bool_dom, name_dom, tuple_dom, set_dom, mset_dom, function_dom, partition_dom, no_doms, more_doms, Stm, given, given_enum, let_ex, let_dom, let_unnamed, find, such_that, maximise, truth_ex}
use Rattle.ess_semantics.specs.Assignments.{Assignment, nothing_given}
use Rattle.ess_semantics.specs.Parameters.{fits_param, no_meaning, below_0, param_verdict}
use Rattle.ess_semantics.specs.Solutions.{Verdict, valid, verdict}
use Rattle.ess_semantics.proofs.Shorthands.{N, n, es1, es2, un, bi, fn, at, app, range, upto, from_1, any_int, set, v, v2, v3, function, gives1, gives2}

-- ---- shorthands

abbrev pub s : Text
s = codes "s"

abbrev pub f : Text
f = codes "f"

abbrev x : Text
x = codes "x"

abbrev i : Text
i = codes "i"

abbrev m : Text
m = codes "n"

abbrev is_valid : Verdict → Bool
is_valid valid = true
is_valid w = false

-- how many of the values of one find are solutions
abbrev pub solutions : List Stm → Assignment → Text → List Value → ℕ
solutions S p a ws = length (filter (λ w. is_valid (verdict S p (gives1 a w))) ws)

abbrev pub subsets : {A : Type 0} → List A → List (List A)
subsets [] = [] ∷ []
subsets (y ∷ ys) = map (λ l. y ∷ l) (subsets ys) ++ subsets ys

abbrev all_sets : List Value → List Value
all_sets ws = map set_of (subsets ws)

abbrev with_value : Value → List (List Value) → List Value → List (List Value)
with_value a ls [] = ls
with_value a ls (w ∷ ws) = map (λ l. pair a w ∷ l) ls ++ with_value a ls ws

abbrev partials : List Value → List Value → List (List Value)
partials [] ws = [] ∷ []
partials (a ∷ as') ws = with_value a (partials as' ws) ws

abbrev pub all_functions : List Value → List Value → List Value
all_functions as' ws = map function (partials as' ws)

-- ---- membership

-- ---- solutions are counted

abbrev two_of_sets : List Stm
two_of_sets = find s (set_dom (valued Key.Size ∷ []) (es1 (n 2)) (set (upto 2))) ∷ []

six_sets_of_sets : solutions two_of_sets nothing_given s (all_sets (all_sets v2)) ≡ 6
six_sets_of_sets = refl

abbrev f3_is_f3 : Ex
f3_is_f3 = bi Op2.Eq (app (N f) (n 3)) (app (N f) (n 3))

abbrev one_function : Ex → List Stm
one_function e = find f (function_dom [] no_exs (upto 3) (upto 2)) ∷ such_that e ∷ []

all_partials : length (all_functions v3 v2) ≡ 27
all_partials = refl

with_value_at_3 : solutions (one_function f3_is_f3) nothing_given f (all_functions v3 v2) ≡ 18
with_value_at_3 = refl

without_value_at_3 : solutions (one_function (un Op1.Not f3_is_f3)) nothing_given f (all_functions v3 v2) ≡ 9
without_value_at_3 = refl

abbrev sum_over_set : List Stm
sum_over_set =
    find s (set (upto 2)) ∷ find f (function_dom [] no_exs (upto 2) (range (n 0) (n 0))) ∷
    such_that (bi Op2.Eq (fn Fun.Sum (comp_ex (app (N f) (N i)) (from (name_pat i) (N s) no_gens))) (n 0)) ∷ []

abbrev pub pairs_of : {A B : Type 0} → List A → List B → List (A × B)
pairs_of [] bs = []
pairs_of (a ∷ as') bs = map (λ b. (a, b)) bs ++ pairs_of as' bs

nine_solutions : length (filter (λ q. is_valid (verdict sum_over_set nothing_given (gives2 s q.0 f q.1))) (pairs_of (all_sets v2) (all_functions v2 (v 0 ∷ [])))) ≡ 9
nine_solutions = refl

abbrev pub ones_and_twos : ℕ → ℕ → Value
ones_and_twos a b = mset_of (replicate a (v 1) ++ replicate b (v 2))

abbrev to_3 : List ℕ
to_3 = 0 ∷ 1 ∷ 2 ∷ 3 ∷ []

ten_multisets : solutions (find s (mset_dom (valued Key.MaxSize ∷ []) (es1 (n 3)) (upto 2)) ∷ []) nothing_given s
    (map (λ q. ones_and_twos q.0 q.1) (pairs_of to_3 to_3)) ≡ 10
ten_multisets = refl

abbrev partition : List (List Value) → Value
partition ps = node a_partition (of_list (map set_of ps))

abbrev all_partitions : List Value
all_partitions =
    partition (v3 ∷ []) ∷ partition ((v 1 ∷ []) ∷ (v 2 ∷ v 3 ∷ []) ∷ []) ∷ partition ((v 1 ∷ v 2 ∷ []) ∷ (v 3 ∷ []) ∷ []) ∷
    partition ((v 1 ∷ v 3 ∷ []) ∷ (v 2 ∷ []) ∷ []) ∷ partition ((v 1 ∷ []) ∷ (v 2 ∷ []) ∷ (v 3 ∷ []) ∷ []) ∷ []

two_partitions : solutions (find s (partition_dom [] no_exs (upto 3)) ∷ such_that (plain_node (Op.word Fun.Together) (es2 (plain_node set_literal (es2 (n 1) (n 3))) (N s))) ∷ [])
    nothing_given s all_partitions ≡ 2
two_partitions = refl

too_large_set : solutions (find s (set_dom (valued Key.Size ∷ []) (es1 (n 5)) (upto 2)) ∷ []) nothing_given s (all_sets v2) ≡ 0
too_large_set = refl

-- ---- parameters

abbrev injections : List Stm
injections = given m from_1 ∷ find f (function_dom (flag Key.Total ∷ flag Key.Injective ∷ []) no_exs (range (n 1) (N m)) (range (n 1) (N m))) ∷ []

six_injections : solutions injections (gives1 m (v 3)) f (all_functions v3 v3) ≡ 6
six_injections = refl

one_injection : solutions injections (gives1 m (v 1)) f (all_functions (v 1 ∷ []) (v 1 ∷ [])) ≡ 1
one_injection = refl

undefined_bound : param_verdict (given m any_int ∷ find x (range (n 0) (bi Op2.Div (n 1) (N m))) ∷ []) (gives1 m (v 0)) ≡ no_meaning 2
undefined_bound = refl

negative_size : param_verdict (given m any_int ∷ find s (set_dom (valued Key.MaxSize ∷ []) (es1 (N m)) (upto 2)) ∷ []) (gives1 m (number (negsuc 0))) ≡ below_0 2
negative_size = refl

-- enumerated types, and the names of the values of unnamed ones
abbrev E : Text
E = codes "E"

abbrev enums : List Stm
enums = given_enum E ∷ let_unnamed (codes "U") (n 2) ∷ find s (set (name_dom E)) ∷ []

abbrev types1 : Text → List Text → Assignment
types1 t ns = record { types = (t, ns) ∷ []; vals = [] }

abbrev items : List Value
items = item E 1 ∷ item E 2 ∷ item E 3 ∷ []

eight_solutions : solutions enums (types1 E (codes "a" ∷ codes "b" ∷ codes "c" ∷ [])) s (all_sets items) ≡ 8
eight_solutions = refl

-- ---- empty domains

abbrev set_to_n : List Stm
set_to_n = given m any_int ∷ find s (set (range (n 1) (N m))) ∷ []

empty_set_is_valid : verdict set_to_n (gives1 m (v 0)) (gives1 s (set_of [])) ≡ valid
empty_set_is_valid = refl

abbrev set_of_pairs : List Stm
set_of_pairs = given m any_int ∷ find s (set_dom (valued Key.MaxSize ∷ []) (es1 (n 2)) (tuple_dom (more_doms (range (n 1) (N m)) (more_doms bool_dom no_doms)))) ∷ []

abbrev pairs_1 : List Value
pairs_1 = pair (v 1) (truth false) ∷ pair (v 1) (truth true) ∷ []

over_nothing : solutions set_of_pairs (gives1 m (v 0)) s (all_sets pairs_1) ≡ 1
over_nothing = refl

over_one : solutions set_of_pairs (gives1 m (v 1)) s (all_sets pairs_1) ≡ 4
over_one = refl

abbrev far_below : List Stm
far_below = given m any_int ∷ find f (function_dom (flag Key.Total ∷ []) no_exs (range (n 1) (N m)) (range (n 1) (N m))) ∷ []

no_arguments : solutions far_below (gives1 m (number (negsuc 1))) f (all_functions v2 v2) ≡ 1
no_arguments = refl

-- ---- verdicts on solutions

abbrev two_in_s : List Stm
two_in_s = find s (set (upto 3)) ∷ such_that (bi Op2.Member (n 2) (N s)) ∷ []

abbrev quotient : List Stm
quotient = find x (range (n 0) (n 2)) ∷ maximise (bi Op2.Div (n 4) (N x)) ∷ []

two_quotients : solutions quotient nothing_given x (v 0 ∷ v 1 ∷ v 2 ∷ []) ≡ 2
two_quotients = refl

-- ---- social golfers

abbrev w : Text
w = codes "w"

abbrev g : Text
g = codes "g"

abbrev z : Text
z = codes "s"

abbrev golfers : Text
golfers = codes "Golfers"

abbrev sched : Text
sched = codes "sched"

abbrev g1 : Text
g1 = codes "g1"

abbrev g2 : Text
g2 = codes "g2"

abbrev week : Text
week = codes "week"

abbrev weeks : Dom
weeks = set_dom (valued Key.Size ∷ []) (es1 (N w)) (partition_dom (flag Key.Regular ∷ valued Key.NumParts ∷ valued Key.PartSize ∷ []) (es2 (N g) (N z)) (name_dom golfers))

abbrev meet : Ex
meet = fn Fun.ToInt (plain_node (Op.word Fun.Together) (es2 (plain_node set_literal (es2 (N g1) (N g2))) (N week)))

abbrev golf : List Stm
golf =
    given w from_1 ∷ given g from_1 ∷ given z from_1 ∷ let_unnamed golfers (bi Op2.Times (N g) (N z)) ∷ find sched weeks ∷
    such_that (fn Fun.And (comp_ex (bi Op2.Le (fn Fun.Sum (comp_ex meet (from (name_pat week) (N sched) no_gens))) (n 1))
    (over (name_pat g1) (name_dom golfers) (over (name_pat g2) (name_dom golfers) (cond (bi Op2.Ne (N g1) (N g2)) no_gens))))) ∷ []

abbrev played : ℕ → Assignment
played k = record { types = []; vals = (w, Some (v k)) ∷ (g, Some (v 2)) ∷ (z, Some (v 2)) ∷ [] }

abbrev golfer : ℕ → Value
golfer k = item golfers k

abbrev two_pairs : List Value
two_pairs =
    partition ((golfer 1 ∷ golfer 2 ∷ []) ∷ (golfer 3 ∷ golfer 4 ∷ []) ∷ []) ∷ partition ((golfer 1 ∷ golfer 3 ∷ []) ∷ (golfer 2 ∷ golfer 4 ∷ []) ∷ []) ∷
    partition ((golfer 1 ∷ golfer 4 ∷ []) ∷ (golfer 2 ∷ golfer 3 ∷ []) ∷ []) ∷ []

golf_fits : param_verdict golf (played 1) ≡ fits_param
golf_fits = refl

one_week : solutions golf (played 1) sched (all_sets two_pairs) ≡ 3
one_week = refl

two_weeks : solutions golf (played 2) sched (all_sets two_pairs) ≡ 3
two_weeks = refl

three_weeks : solutions golf (played 3) sched (all_sets two_pairs) ≡ 1
three_weeks = refl

four_weeks : solutions golf (played 4) sched (all_sets two_pairs) ≡ 0
four_weeks = refl

-- ---- lettings are put in

letting : solutions (let_ex (codes "a") (n 1) ∷ find x (range (N (codes "a")) (n 3)) ∷ such_that (bi Op2.Eq (N x) (bi Op2.Plus (N (codes "a")) (n 1))) ∷ []) nothing_given x v3 ≡ 1
letting = refl

domain_letting : solutions (let_dom (codes "D") (upto 2) ∷ find s (set (name_dom (codes "D"))) ∷ []) nothing_given s (all_sets v3) ≡ 4
domain_letting = refl

-- ---- scalars

both_orders : length (filter (λ q. is_valid (verdict (find x (range (n 0) (n 3)) ∷ find f (range (n 0) (n 3)) ∷ such_that (bi Op2.Lt (bi Op2.Plus (N x) (n 1)) (N f)) ∷ [])
    nothing_given (gives2 x q.0 f q.1))) (pairs_of (v 0 ∷ v3) (v 0 ∷ v3))) ≡ 3
both_orders = refl

abbrev bits : List Value
bits = v 0 ∷ v 1 ∷ []

quotient_or_true : solutions (find x (range (n 0) (n 1)) ∷ such_that (bi Op2.Or (bi Op2.Eq (bi Op2.Div (N x) (n 0)) (n 1)) (truth_ex true)) ∷ []) nothing_given x bits ≡ 2
quotient_or_true = refl

quotient_alone : solutions (find x (range (n 0) (n 1)) ∷ such_that (bi Op2.Eq (bi Op2.Div (N x) (n 0)) (n 1)) ∷ []) nothing_given x bits ≡ 0
quotient_alone = refl

two_and_true : solutions (find x (tuple_dom (more_doms (upto 2) (more_doms bool_dom no_doms))) ∷ such_that (bi Op2.And (bi Op2.Eq (at (N x) (n 1)) (n 2)) (at (N x) (n 2))) ∷ [])
    nothing_given x (pair (v 1) (truth false) ∷ pair (v 1) (truth true) ∷ pair (v 2) (truth false) ∷ pair (v 2) (truth true) ∷ []) ≡ 1
two_and_true = refl
