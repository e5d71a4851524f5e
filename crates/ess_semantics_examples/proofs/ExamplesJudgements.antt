-- Worked examples of judgements.
use Rattle.std.specs.Prelude.{◌≡◌, refl, ℕ, true, List, [], ◌∷◌, Option, Some, None, codes}
use Rattle.ess_semantics.specs.declared.words.Op2.{Op2}
use Rattle.ess_semantics.specs.declared.words.Fun.{Fun}
use Rattle.ess_semantics.specs.declared.words.Key.{Key}
use Rattle.ess_semantics.specs.Values.{Text}
use Rattle.ess_semantics.specs.Trees.{by_value, Op, index, set_literal, flag, valued, Pat, name_pat, Ex, truth_ex, node_ex, plain_node, comp_ex, no_exs, more_exs, no_gens, over, from, cond, Dom, bool_dom, name_dom, record_dom, matrix_dom, set_dom, function_dom, relation_dom, partition_dom, no_doms, more_doms, Stm, given, let_ex, let_dom, let_unnamed, find, such_that, tuple_dom, tuple_pat, no_pats, more_pats, matrix_literal}
use Rattle.ess_semantics.specs.Judgements.{Judgement, unknown_name, double_name, ill_typed, not_finite, not_enumerable, open_given, fault}
use Rattle.ess_semantics.proofs.Shorthands.{N, n, es1, es2, bi, fn, at, upto, from_1, any_int, set}

abbrev x : Text
x = codes "x"

abbrev y : Text
y = codes "y"

abbrev i : Text
i = codes "i"

abbrev p : Text → Pat
p a = name_pat a

abbrev Fault : Type 0
Fault = Option (Judgement × ℕ)

-- ---- social golfers

abbrev w : Text
w = codes "w"

abbrev g : Text
g = codes "g"

abbrev s : Text
s = codes "s"

abbrev golfers : Text
golfers = codes "Golfers"

abbrev sched : Text
sched = codes "sched"

abbrev g1 : Text
g1 = codes "g1"

abbrev g2 : Text
g2 = codes "g2"

abbrev week : Text
week = codes "week"

abbrev weeks : Dom
weeks = set_dom (valued Key.Size ∷ []) (es1 (N w)) (partition_dom (flag Key.Regular ∷ valued Key.NumParts ∷ valued Key.PartSize ∷ []) (es2 (N g) (N s)) (name_dom golfers))

abbrev meet : Ex
meet = fn Fun.ToInt (plain_node (Op.word Fun.Together) (es2 (plain_node set_literal (es2 (N g1) (N g2))) (N week)))

abbrev golf : List Stm
golf =
    given w from_1 ∷ given g from_1 ∷ given s from_1 ∷ let_unnamed golfers (bi Op2.Times (N g) (N s)) ∷ find sched weeks ∷
    such_that (fn Fun.And (comp_ex (bi Op2.Le (fn Fun.Sum (comp_ex meet (from (p week) (N sched) no_gens))) (n 1))
    (over (p g1) (name_dom golfers) (over (p g2) (name_dom golfers) (cond (bi Op2.Ne (N g1) (N g2)) no_gens))))) ∷ []

golfers_fit : fault golf ≡ None
golfers_fit = refl

value_name_later : fault (let_unnamed (codes "U") (n 3) ∷ find (codes "U_12") bool_dom ∷ []) ≡ Some (double_name, 2)
value_name_later = refl

-- ---- attributes

attribute_of_truth : fault (find x (set_dom (valued Key.Size ∷ []) (es1 (truth_ex true)) (upto 2)) ∷ []) ≡ Some (ill_typed, 1)
attribute_of_truth = refl

abbrev related : Dom → Dom
related d = relation_dom (flag Key.Symmetric ∷ []) no_exs (more_doms (upto 2) (more_doms d no_doms))

symmetric : fault (find x (related (upto 2)) ∷ []) ≡ None
symmetric = refl

not_symmetric : fault (find x (related bool_dom) ∷ []) ≡ Some (ill_typed, 1)
not_symmetric = refl

-- ---- where, lettings and fields

domain_as_value : fault (let_dom (codes "D") (upto 2) ∷ such_that (bi Op2.Eq (N (codes "D")) (n 1)) ∷ []) ≡ Some (ill_typed, 2)
domain_as_value = refl

-- a field may have the name of a letting
abbrev r_dom : Dom
r_dom = record_dom (y ∷ []) (more_doms bool_dom no_doms)

field_and_letting : fault (let_ex y (n 2) ∷ find x r_dom ∷ such_that (at (N x) (N y)) ∷ []) ≡ None
field_and_letting = refl

-- letting y be 2 / letting x1 be 3 / find x : record {y : record {x1 : bool}} / such that x[y, x1], as x[y][x1]
abbrev nested_dom : Dom
nested_dom = record_dom (y ∷ []) (more_doms (record_dom (i ∷ []) (more_doms bool_dom no_doms)) no_doms)

fields_and_lettings : fault (let_ex y (n 2) ∷ let_ex i (n 3) ∷ find x nested_dom
    ∷ such_that (node_ex true (index (by_value ∷ by_value ∷ [])) (more_exs (N x) (more_exs (N y) (more_exs (N i) no_exs)))) ∷ []) ≡ None
fields_and_lettings = refl

fields_in_turn : fault (let_ex y (n 2) ∷ let_ex i (n 3) ∷ find x nested_dom ∷ such_that (at (at (N x) (N y)) (N i)) ∷ []) ≡ None
fields_in_turn = refl

no_field : fault (find x r_dom ∷ such_that (at (N x) (N i)) ∷ []) ≡ Some (ill_typed, 2)
no_field = refl

no_index : fault (find x (matrix_dom (more_doms (upto 2) no_doms) bool_dom) ∷ such_that (at (N x) (N i)) ∷ []) ≡ Some (unknown_name, 2)
no_index = refl

-- ---- comprehensions where order counts

abbrev members_of : Ex → Ex
members_of e = comp_ex (N i) (from (p i) e no_gens)

abbrev one_set : Stm
one_set = find x (set (upto 3))

source_of_sum : fault (one_set ∷ such_that (bi Op2.Eq (fn Fun.Sum (comp_ex (N y) (from (p y) (members_of (N x)) no_gens))) (n 1)) ∷ []) ≡ None
source_of_sum = refl

-- a condition on a find leaves a comprehension without an order
abbrev bits : Stm
bits = find x (matrix_dom (more_doms (upto 3) no_doms) bool_dom)

abbrev chosen_bits : Ex
chosen_bits = comp_ex (N i) (over (p i) (upto 3) (cond (at (N x) (N i)) no_gens))

condition_in_sum : fault (bits ∷ such_that (bi Op2.Eq (fn Fun.Sum chosen_bits) (n 1)) ∷ []) ≡ None
condition_in_sum = refl

-- ---- indices

abbrev t_dom : Dom
t_dom = tuple_dom (more_doms (upto 2) (more_doms bool_dom no_doms))

letting_as_index : fault (let_ex y (n 2) ∷ find x (matrix_dom (more_doms (upto 2) no_doms) bool_dom) ∷ such_that (at (N x) (N y)) ∷ []) ≡ None
letting_as_index = refl

unknown_component : fault (find x t_dom ∷ such_that (at (N x) (N i)) ∷ []) ≡ Some (unknown_name, 2)
unknown_component = refl

-- ---- types

letting_of_itself : fault (let_ex x (N x) ∷ []) ≡ Some (unknown_name, 1)
letting_of_itself = refl

field_twice : fault (let_ex x (plain_node (Op.record_literal (i ∷ i ∷ [])) (es2 (n 1) (n 2))) ∷ []) ≡ Some (ill_typed, 1)
field_twice = refl

pattern_too_long : fault (such_that (fn Fun.And (comp_ex (truth_ex true) (over (tuple_pat (more_pats (p i) (more_pats (p y) (more_pats (p x) no_pats)))) t_dom no_gens))) ∷ []) ≡ Some (ill_typed, 1)
pattern_too_long = refl

least_truth : fault (find x (set bool_dom) ∷ such_that (fn Fun.Min (N x)) ∷ []) ≡ Some (ill_typed, 2)
least_truth = refl

empty_relation : fault (find x (relation_dom [] no_exs (more_doms (upto 2) (more_doms bool_dom no_doms))) ∷ such_that (bi Op2.Eq (N x) (plain_node Op.relation_literal no_exs)) ∷ []) ≡ None
empty_relation = refl

relation_is_no_number : fault (such_that (bi Op2.Eq (n 1) (plain_node Op.relation_literal no_exs)) ∷ []) ≡ Some (ill_typed, 1)
relation_is_no_number = refl

-- a list's index is an int, but `[]` agrees with every matrix
abbrev truth_matrix : Dom
truth_matrix = matrix_dom (more_doms bool_dom no_doms) (upto 2)

list_over_truth : fault (find x (matrix_dom (more_doms bool_dom no_doms) (upto 2)) ∷ such_that (bi Op2.Eq (N x) (plain_node matrix_literal (es2 (n 1) (n 2)))) ∷ []) ≡ Some (ill_typed, 2)
list_over_truth = refl

no_list : fault (find x (matrix_dom (more_doms bool_dom no_doms) (upto 2)) ∷ such_that (bi Op2.Eq (N x) (plain_node matrix_literal no_exs)) ∷ []) ≡ None
no_list = refl

-- ---- domains

endless_generator : fault (such_that (fn Fun.And (comp_ex (truth_ex true) (over (p i) any_int no_gens))) ∷ []) ≡ Some (not_finite, 1)
endless_generator = refl

found_type_size : fault (find x (upto 3) ∷ let_unnamed y (N x) ∷ []) ≡ Some (not_enumerable, 2)
found_type_size = refl

given_matrix : fault (given x (matrix_dom (more_doms (upto 2) no_doms) any_int) ∷ []) ≡ None
given_matrix = refl

given_function : fault (given x (function_dom [] no_exs (upto 2) any_int) ∷ []) ≡ None
given_function = refl

given_sized_set : fault (given x (set_dom (valued Key.Size ∷ []) (es1 (n 2)) any_int) ∷ []) ≡ Some (open_given, 1)
given_sized_set = refl

-- a condition that isn't a Boolean
number_as_condition : fault (such_that (fn Fun.And (comp_ex (truth_ex true) (over (p i) (upto 2) (cond (N i) no_gens)))) ∷ []) ≡ Some (ill_typed, 1)
number_as_condition = refl
