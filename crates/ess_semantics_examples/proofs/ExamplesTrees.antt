-- Worked examples of trees as they are rewritten: resolving, contexts, totality, structures, substitution and scope.
use Rattle.std.specs.Prelude.{◌≡◌, refl, ℕ, Bool, true, false, List, [], ◌∷◌, Some, codes}
use Rattle.ess_semantics.specs.declared.words.Op1.{Op1}
use Rattle.ess_semantics.specs.declared.words.Op2.{Op2}
use Rattle.ess_semantics.specs.declared.words.Fun.{Fun}
use Rattle.ess_semantics.specs.declared.words.Key.{Key}
use Rattle.ess_semantics.specs.Lists.{or_default}
use Rattle.ess_semantics.specs.Values.{Text, a_function, Value, truth, node, nil, cons, pair}
use Rattle.ess_semantics.specs.Names.{Names}
use Rattle.ess_semantics.specs.Collections.{set_of}
use Rattle.ess_semantics.specs.Trees.{by_value, to_component, to_field, binary, word, index, application, set_literal, name_pat, Ex, truth_ex, node_ex, plain_node, matrix_ex, comp_ex, no_gens, over, from, cond, Dom, bool_dom, tuple_dom, record_dom, matrix_dom, set_dom, function_dom, relation_dom, valued, no_doms, more_doms, no_exs, more_exs, Stm, given, find, such_that, let_ex}
use Rattle.ess_semantics.specs.Types.{Ty, int_ty, type_of_dom}
use Rattle.ess_semantics.specs.Resolving.{resolve, IsResolved}
use Rattle.ess_semantics.specs.Prepared.{prepared}
use Rattle.ess_semantics.specs.Meaning.{Env, empty_env, meaning}
use Rattle.ess_semantics.specs.Contexts.{In, hole, in_operand, in_body, in_first, in_later, fill, Where}
use Rattle.ess_semantics.specs.Totality.{Total}
use Rattle.ess_semantics.specs.Refined.{is_refined}
use Rattle.ess_semantics.specs.Substitution.{substitute, for_name, NamesAre}
use Rattle.ess_semantics.specs.Order.{same_text}
use Rattle.ess_semantics.specs.Parameters.{fits_param, param_verdict}
use Rattle.ess_semantics.specs.Solutions.{valid, false_constraint, not_in_domain, verdict}
use Rattle.ess_semantics.proofs.Shorthands.{N, n, es1, es2, un, bi, fn, at, app, ds2, range, upto, set, v, gives1}

abbrev x : Text
x = codes "x"

abbrev y : Text
y = codes "y"

abbrev a : Text
a = codes "a"

abbrev typed : Dom → Names Ty
typed d = (x, type_of_dom d) ∷ []

abbrev with_x : Value → Env
with_x w = record empty_env { vals = (x, w) ∷ [] }

-- ---- what an index is depends on the type reached

item_of_matrix : resolve (at (N x) (n 1)) (typed (matrix_dom (more_doms (upto 2) no_doms) (upto 9))) ≡ node_ex false (index (by_value ∷ [])) (es2 (N x) (n 1))
item_of_matrix = refl

truth_of_matrix : resolve (at (N x) (n 1)) (typed (matrix_dom (more_doms (upto 2) no_doms) bool_dom)) ≡ node_ex true (index (by_value ∷ [])) (es2 (N x) (n 1))
truth_of_matrix = refl

component : resolve (at (N x) (n 2)) (typed (tuple_dom (ds2 (upto 2) bool_dom))) ≡ node_ex true (index (to_component 2 ∷ [])) (es1 (N x))
component = refl

abbrev rec : Dom
rec = record_dom (a ∷ []) (more_doms (upto 2) no_doms)

field : resolve (at (N x) (N a)) (typed rec) ≡ node_ex false (index (to_field a ∷ [])) (es1 (N x))
field = refl

-- x[i, 2, a] where x is a matrix of pairs of a number and a record
abbrev deep : Ex
deep = plain_node (index (by_value ∷ by_value ∷ by_value ∷ [])) (more_exs (N x) (more_exs (N y) (es2 (n 2) (N a))))

abbrev deep_types : Names Ty
deep_types = (y, int_ty) ∷ typed (matrix_dom (more_doms (upto 3) no_doms) (tuple_dom (ds2 (upto 2) rec)))

each_step_by_its_type : resolve deep deep_types ≡ node_ex false (index (by_value ∷ to_component 2 ∷ to_field a ∷ [])) (es2 (N x) (N y))
each_step_by_its_type = refl

resolved_stays : IsResolved (resolve deep deep_types) deep_types
resolved_stays = refl

-- a function at an argument is `image`, a relation at a tuple stays an application
truth_of_function : resolve (app (N x) (n 1)) (typed (function_dom [] no_exs (upto 2) bool_dom)) ≡ node_ex true (word Fun.Image) (es2 (N x) (n 1))
truth_of_function = refl

number_of_function : resolve (app (N x) (n 1)) (typed (function_dom [] no_exs (upto 2) (upto 2))) ≡ node_ex false (word Fun.Image) (es2 (N x) (n 1))
number_of_function = refl

abbrev pairs : Dom
pairs = relation_dom [] no_exs (ds2 (upto 2) (upto 2))

abbrev at_pair : Bool → Ex
at_pair b = node_ex b application (more_exs (N x) (es2 (n 1) (n 2)))

truth_of_relation : resolve (at_pair false) (typed pairs) ≡ at_pair true
truth_of_relation = refl

resolved_function_stays : IsResolved (resolve (app (N x) (n 1)) (typed (function_dom [] no_exs (upto 2) bool_dom))) (typed (function_dom [] no_exs (upto 2) bool_dom))
resolved_function_stays = refl

-- a function at an argument has the value that it had as an application
value_of_function : meaning (resolve (app (N x) (n 1)) (typed (function_dom [] no_exs (upto 2) (upto 2)))) (with_x (node a_function (cons (pair (v 1) (v 7)) nil))) ≡ Some (v 7)
value_of_function = refl

-- a bound name has the type of its generator
under_generators : resolve (comp_ex (at (N y) (n 1)) (from (name_pat y) (N x) no_gens)) (typed (set (tuple_dom (ds2 bool_dom bool_dom)))) ≡
    comp_ex (node_ex true (index (to_component 1 ∷ [])) (es1 (N y))) (from (name_pat y) (N x) no_gens)
under_generators = refl

-- ---- a specification whose bounds and constraints take components

abbrev t : Text
t = codes "t"

abbrev s : Text
s = codes "s"

-- given t : (int(1..3), bool) / find s : set (size t[1]) of int(1..3) / such that t[2]
abbrev of_size_t : List Stm
of_size_t = given t (tuple_dom (ds2 (upto 3) bool_dom)) ∷ find s (set_dom (valued Key.Size ∷ []) (es1 (at (N t) (n 1))) (upto 3)) ∷ such_that (at (N t) (n 2)) ∷ []

parameter : param_verdict of_size_t (gives1 t (pair (v 2) (truth true))) ≡ fits_param
parameter = refl

two_members : verdict of_size_t (gives1 t (pair (v 2) (truth true))) (gives1 s (set_of (v 1 ∷ v 3 ∷ []))) ≡ valid
two_members = refl

one_member : verdict of_size_t (gives1 t (pair (v 2) (truth true))) (gives1 s (set_of (v 1 ∷ []))) ≡ not_in_domain s
one_member = refl

false_component : verdict of_size_t (gives1 t (pair (v 2) (truth false))) (gives1 s (set_of (v 1 ∷ v 3 ∷ []))) ≡ false_constraint 3
false_component = refl

-- lettings are put in before trees are resolved
put_in_and_resolved : prepared (let_ex y (n 1) ∷ find x (tuple_dom (ds2 bool_dom bool_dom)) ∷ such_that (bi Op2.Or (at (N x) (n 1)) (bi Op2.Eq (N y) (n 1))) ∷ []) ≡
    let_ex y (n 1) ∷ find x (tuple_dom (ds2 bool_dom bool_dom)) ∷
    such_that (bi Op2.Or (node_ex true (index (to_component 1 ∷ [])) (es1 (N x))) (bi Op2.Eq (n 1) (n 1))) ∷ []
put_in_and_resolved = refl

-- ---- contexts: a part counts where the left operands of `/\` and `->` are true, and under its generators

-- the open part of x = 1 -> [..]
abbrev behind_arrow : In
behind_arrow = in_operand true (binary Op2.Implies) (in_later (bi Op2.Eq (N x) (n 1)) (in_first hole no_exs))

filled : fill behind_arrow (truth_ex true) ≡ bi Op2.Implies (bi Op2.Eq (N x) (n 1)) (truth_ex true)
filled = refl

-- where x is 2 nothing is asked of the part
never_there : Where behind_arrow (with_x (v 2)) (λ here. ⊥)
never_there e = cc

there : Where behind_arrow (with_x (v 1)) (λ here. meaning (N x) here ≡ Some (v 1))
there e = refl

-- a right operand of `\/` counts everywhere
behind_or : Where (in_operand true (binary Op2.Or) (in_later (bi Op2.Eq (N x) (n 1)) (in_first hole no_exs))) (with_x (v 2)) (λ here. meaning (N x) here ≡ Some (v 2))
behind_or = refl

-- in the body of [.. | y : int(1..2), y > x] y is 2 where x is 1
abbrev in_comprehension : In
in_comprehension = in_body hole (over (name_pat y) (upto 2) (cond (bi Op2.Gt (N y) (N x)) no_gens))

at_2 : Where in_comprehension (with_x (v 1)) (λ here. meaning (N y) here ≡ Some (v 2))
at_2 = ((λ e. absurd (false_is_true e)), ((λ e. refl), tt))
  where
    false_is_true : false ≡ true → ⊥
    false_is_true e = cc

-- ---- totality

-- 4 / x is no total term where x is 0, and one where x isn't
abbrev quotient : Ex
quotient = bi Op2.Div (n 4) (N x)

total_at_2 : Total quotient (with_x (v 2))
total_at_2 = ((λ e. refl), (tt, (tt, tt)))

not_total_at_0 : Total quotient (with_x (v 0)) → ⊥
not_total_at_0 h = no (h.0 refl)
  where
    no : false ≡ true → ⊥
    no e = cc

-- a conjunct beside it doesn't help, an implication's left side neither
beside : Total (bi Op2.And (bi Op2.Ne (N x) (n 0)) (bi Op2.Eq quotient (n 2))) (with_x (v 0)) → ⊥
beside h = not_total_at_0 h.1.1.0.1.0

-- under a condition of its comprehension a term is only asked where the condition holds
guarded : Total (comp_ex quotient (cond (bi Op2.Ne (N x) (n 0)) no_gens)) (with_x (v 0))
guarded = (((λ e. refl), (tt, (tt, tt))), λ e. absurd (no e))
  where
    no : false ≡ true → ⊥
    no e = cc

-- where f has no value at 2, the Boolean `f(2)` is false and no total term, though it always has a truth value
abbrev truth_at : ℕ → Ex
truth_at k = node_ex true (word Fun.Image) (es2 (N x) (n k))

abbrev with_function : Env
with_function = with_x (node a_function (cons (pair (v 1) (truth true)) nil))

false_at_2 : meaning (truth_at 2) with_function ≡ Some (truth false)
false_at_2 = refl

total_at_argument : Total (truth_at 1) with_function
total_at_argument = ((λ e. refl), (tt, (tt, tt)))

not_total_beside_arguments : Total (truth_at 2) with_function → ⊥
not_total_beside_arguments h = no (h.0 refl)
  where
    no : false ≡ true → ⊥
    no e = cc

-- y runs over two matrices that have different indices: `y[5] = 2` is no total term where y is the first
abbrev low : Dom
low = range (n 0) (n 1)

abbrev high : Dom
high = range (n 5) (n 6)

abbrev matrix_over : Dom → Ex
matrix_over d = matrix_ex (es2 (n 2) (n 3)) d

abbrev runs_over_both : Ex → Ex
runs_over_both e = fn Fun.Or (comp_ex e (from (name_pat y) (plain_node set_literal (es2 (matrix_over low) (matrix_over high))) no_gens))

abbrev at_5 : Ex
at_5 = bi Op2.Eq (at (N y) (n 5)) (n 2)

not_total_at_both : Total (runs_over_both at_5) empty_env → ⊥
not_total_at_both h = no (h.1.0.1.0.1.0.0 refl)
  where
    no : false ≡ true → ⊥
    no e = cc

-- y is the matrix over d, and 5 is one of its indices
abbrev is_over : Dom → Ex
is_over d = bi Op2.And (bi Op2.Eq (N y) (matrix_over d)) (fn Fun.Or (comp_ex (bi Op2.Eq (n 5) (N a)) (over (name_pat a) d no_gens)))

abbrev told_apart : Ex
told_apart = fn Fun.Or (comp_ex at_5 (cond (bi Op2.Or (is_over low) (is_over high)) no_gens))

abbrev with_y : Value → Env
with_y w = record empty_env { vals = (y, w) ∷ [] }

low_total : (e : Env) → Total (matrix_over low) e
low_total e = ((λ t q. refl), (tt, (tt, tt)), (tt, (tt, tt)))

high_total : (e : Env) → Total (matrix_over high) e
high_total e = ((λ t q. refl), (tt, (tt, tt)), (tt, (tt, tt)))

has_low : (w : Value) → Total (is_over low) (with_y w)
has_low w = ((λ q. refl), (((λ q. refl), (tt, (low_total (with_y w), tt))), (((λ q. refl), (((tt, (tt, tt)), (((λ q. refl), (tt, (tt, tt))), (((λ q. refl), (tt, (tt, tt))), tt))), tt)), tt)))

has_high : (w : Value) → Total (is_over high) (with_y w)
has_high w = ((λ q. refl), (((λ q. refl), (tt, (high_total (with_y w), tt))), (((λ q. refl), (((tt, (tt, tt)), (((λ q. refl), (tt, (tt, tt))), (((λ q. refl), (tt, (tt, tt))), tt))), tt)), tt)))

each_has_one : (w : Value) → Total (bi Op2.Or (is_over low) (is_over high)) (with_y w)
each_has_one w = ((λ q. refl), (has_low w, (has_high w, tt)))

abbrev of_matrix : Dom → Value
of_matrix d = or_default (meaning (matrix_over d) empty_env) (v 0)

-- at the first matrix the condition fails, at the second one 5 is an index
total_told_apart : Total (runs_over_both told_apart) empty_env
total_told_apart = ((λ q. refl), ((((λ q. refl), (low_total empty_env, (high_total empty_env, tt))), (at_low, (at_high, tt))), tt))
  where
    at_low : Total told_apart (with_y (of_matrix low))
    at_low = ((λ q. refl), ((each_has_one (of_matrix low), (λ q. absurd (no q))), tt))
      where
        no : false ≡ true → ⊥
        no e = cc

    at_high : Total told_apart (with_y (of_matrix high))
    at_high = ((λ q. refl), ((each_has_one (of_matrix high), (λ q. ((λ r. refl), (((λ r. refl), (tt, (tt, tt))), (tt, tt))))), tt))

same_meaning : meaning (runs_over_both told_apart) empty_env ≡ meaning (runs_over_both at_5) empty_env
same_meaning = refl

-- ---- refined trees

refined : is_refined (bi Op2.Or (bi Op2.Lt (fn Fun.Sum (comp_ex (N y) (over (name_pat y) (upto 2) no_gens))) (n 3)) (un Op1.Not (truth_ex true))) ≡ true
refined = refl

abstract_operator : is_refined (bi Op2.Member (n 1) (N x)) ≡ false
abstract_operator = refl

wrong_mark : is_refined (node_ex true (binary Op2.Plus) (es2 (n 1) (n 1))) ≡ false
wrong_mark = refl

-- ---- names

abbrev twice_x : Ex
twice_x = bi Op2.Plus (N x) (comp_ex (N x) (over (name_pat y) (range (n 1) (N x)) no_gens))

put_for_x : substitute (for_name x (n 7)) twice_x ≡ bi Op2.Plus (n 7) (comp_ex (n 7) (over (name_pat y) (range (n 1) (n 7)) no_gens))
put_for_x = refl

only_x_and_y : NamesAre (same_text x) (same_text y) twice_x
only_x_and_y = (refl, ((refl, (refl, (tt, (refl, tt)), tt)), tt))
