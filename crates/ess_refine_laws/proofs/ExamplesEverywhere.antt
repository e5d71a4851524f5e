-- Worked examples of numbers that are there everywhere.
use Rattle.std.specs.Prelude.{◌≡◌, refl, true, false, pos, [], ◌∷◌, codes, Some, None}
use Rattle.ess_semantics.specs.declared.words.Op2.{Op2}
use Rattle.ess_semantics.specs.declared.words.Fun.{Fun}
use Rattle.ess_semantics.specs.Values.{Text}
use Rattle.ess_semantics.specs.Trees.{matrix_literal, name_pat, Ex, truth_ex, node_ex, comp_ex, no_exs, cell_ex, no_gens, over, cond}
use Rattle.ess_semantics.specs.Meaning.{Env, empty_env, meaning}
use Rattle.ess_semantics.proofs.Shorthands.{N, n, v, es1, es2, bi, fn, neg, range, upto}
use Rattle.ess_refine_laws.specs.LeavingConditions.{condition_leaves}
use Rattle.ess_refine_laws.specs.Everywhere.{everywhere}

abbrev x : Text
x = codes "x"

abbrev j : Text
j = codes "j"

abbrev list2 : Ex → Ex → Ex
list2 a b = node_ex false matrix_literal (es2 a b)

-- ---- divisors

-- A divisor isn't 0, and a numeral other than 0 stays.
divisor_of_a_name : everywhere (bi Op2.Div (n 6) (N x)) ≡ bi Op2.Div (n 6) (bi Op2.Plus (N x) (fn Fun.ToInt (bi Op2.Eq (N x) (n 0))))
divisor_of_a_name = refl

divisor_of_a_numeral : everywhere (bi Op2.Mod (N x) (n 2)) ≡ bi Op2.Mod (N x) (n 2)
divisor_of_a_numeral = refl

divided_by_0 : meaning (everywhere (bi Op2.Div (n 6) (n 0))) empty_env ≡ Some (v 6)
divided_by_0 = refl

divided_by_3 : meaning (everywhere (bi Op2.Div (n 6) (bi Op2.Plus (n 1) (n 2)))) empty_env ≡ Some (v 2)
divided_by_3 = refl

-- ---- powers

power_of_names : everywhere (bi Op2.Pow (N x) (N j)) ≡
    bi Op2.Pow (bi Op2.Plus (N x) (fn Fun.ToInt (bi Op2.And (bi Op2.Eq (N x) (n 0)) (bi Op2.Le (N j) (n 0))))) (fn Fun.Max (list2 (N j)
    (n 0)))
power_of_names = refl

power_of_2 : everywhere (bi Op2.Pow (n 2) (N j)) ≡ bi Op2.Pow (n 2) (fn Fun.Max (list2 (N j) (n 0)))
power_of_2 = refl

square : everywhere (bi Op2.Pow (N x) (n 2)) ≡ bi Op2.Pow (N x) (n 2)
square = refl

-- `0 ** 0` and `2 ** -1` have no value; `0 ** 2` is 0.
powers_without_value : (meaning (everywhere (bi Op2.Pow (n 0) (n 0))) empty_env ≡ Some (v 1))
    × (meaning (everywhere (bi Op2.Pow (n 2) (neg 1))) empty_env ≡ Some (v 1))
    × (meaning (everywhere (bi Op2.Pow (n 0) (bi Op2.Plus (n 1) (n 1)))) empty_env ≡ Some (v 0))
powers_without_value = (refl, refl, refl)

-- ---- the least and the greatest

least_of_generators : everywhere (fn Fun.Min (comp_ex (N j) (over (name_pat j) (upto 2) no_gens))) ≡
    fn Fun.Sum (comp_ex (fn Fun.Min (comp_ex (N j) (over (name_pat j) (upto 2) no_gens)))
    (cond (fn Fun.Or (comp_ex (truth_ex true) (over (name_pat j) (upto 2) no_gens))) no_gens))
least_of_generators = refl

-- `max([j | j : int(1..2)])` is 2, and `max([j | j : int(2..1)])`, which has no value, becomes 0. So does `min([])`.
least_and_greatest : (meaning (everywhere (fn Fun.Max (comp_ex (N j) (over (name_pat j) (upto 2) no_gens)))) empty_env ≡ Some (v 2))
    × (meaning (everywhere (fn Fun.Max (comp_ex (N j) (over (name_pat j) (range (n 2) (n 1)) no_gens)))) empty_env ≡ Some (v 0))
    × (meaning (everywhere (fn Fun.Min (node_ex false matrix_literal no_exs))) empty_env ≡ Some (v 0))
least_and_greatest = (refl, refl, refl)

-- ---- what is left alone

-- Booleans and their numbers stay as they are: where a term in them has nothing they are false.
booleans_stay : everywhere (bi Op2.Plus (fn Fun.ToInt (bi Op2.Eq (bi Op2.Div (n 1) (N x)) (n 1))) (n 1)) ≡
    bi Op2.Plus (fn Fun.ToInt (bi Op2.Eq (bi Op2.Div (n 1) (N x)) (n 1))) (n 1)
booleans_stay = refl

-- The bounds of generators don't: `sum([j | j : int(1..1/0)])` becomes a sum over `int(1..1)`.
bounds_do_not : meaning (everywhere (fn Fun.Sum (comp_ex (N j) (over (name_pat j) (range (n 1) (bi Op2.Div (n 1)
    (n 0))) no_gens)))) empty_env
    ≡ Some (v 1)
bounds_do_not = refl

-- ---- conditions that leave

abbrev f : Text
f = codes "f"

-- The cell `f[j]`, and a number that has nothing where it is 0.
abbrev flag : Ex
flag = cell_ex true f (es1 (N j))

abbrev part : Ex
part = bi Op2.Div (n 6) (cell_ex false f (es1 (N j)))

-- `sum([6 / f[j] | j : int(1..2), f[j]])` is `sum([toInt(f[j]) * sum([6 / (f[j] + toInt(f[j] = 0)) | ]) | j : int(1..2)])`.
leaves_a_sum : condition_leaves (fn Fun.Sum (comp_ex part (over (name_pat j) (upto 2) (cond flag no_gens)))) ≡
    Some (fn Fun.Sum (comp_ex (bi Op2.Times (fn Fun.ToInt flag) (fn Fun.Sum (comp_ex (everywhere part) no_gens))) (over (name_pat j)
    (upto 2) no_gens)))
leaves_a_sum = refl

-- Of two conditions that read cells the last one leaves; one that reads none stays.
leaves_the_last : condition_leaves (fn Fun.And (comp_ex (N x) (cond flag (cond (N x) (cond flag (cond (N x) no_gens)))))) ≡
    Some (fn Fun.And (comp_ex (bi Op2.Implies flag (fn Fun.And (comp_ex (N x) (cond (N x) no_gens)))) (cond flag (cond (N x) no_gens))))
leaves_the_last = refl

leaves_no_other : (condition_leaves (fn Fun.Or (comp_ex (N x) (cond (N x) no_gens))) ≡ None)
    × (condition_leaves (fn Fun.Min (comp_ex (N x) (cond flag no_gens))) ≡ None)
    × (condition_leaves (fn Fun.Or (comp_ex (bi Op2.Member (n 1) (N x)) (cond flag no_gens))) ≡ None)
leaves_no_other = (refl, refl, refl)

-- Over the table f = [0, 1] both are 6: where the cell is 0 the old number has nothing, and isn't asked.
abbrev zero_and_one : Env
zero_and_one = record empty_env { cells = (f, record { axes = (pos 1 ∷ pos 2 ∷ []) ∷ []; items = pos 0 ∷ pos 1 ∷ [] }) ∷ [] }

sums_over_the_table : (meaning (fn Fun.Sum (comp_ex part (over (name_pat j) (upto 2) (cond flag no_gens)))) zero_and_one ≡ Some (v 6))
    × (meaning (fn Fun.Sum (comp_ex (bi Op2.Times (fn Fun.ToInt flag) (everywhere part)) (over (name_pat j) (upto 2) no_gens))) zero_and_one
    ≡ Some (v 6))
    × (meaning (fn Fun.Sum (comp_ex (bi Op2.Times (fn Fun.ToInt flag) part) (over (name_pat j) (upto 2) no_gens))) zero_and_one ≡ None)
sums_over_the_table = (refl, refl, refl)
