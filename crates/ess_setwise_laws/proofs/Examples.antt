-- Worked examples of constraints that speak of sets.
use Rattle.std.proofs.Common.{◌≡◌, refl, Bool, true, false, if◌then◌else◌, [], ◌∷◌, pos, codes, Option, Some, None}
use Rattle.ess_semantics.specs.declared.words.Op1.{Op1}
use Rattle.ess_semantics.specs.declared.words.Op2.{Op2}
use Rattle.ess_semantics.specs.declared.words.Fun.{Fun}
use Rattle.ess_semantics.specs.Values.{Text}
use Rattle.ess_semantics.specs.Order.{same_text}
use Rattle.ess_semantics.specs.Names.{is_among}
use Rattle.ess_semantics.specs.Trees.{both_ends, name_pat, Ex, number_ex, name_ex, no_exs, more_exs, comp_ex, no_gens, over, from, cond, int_dom, ex1, ex2, fun1}
use Rattle.ess_seen_laws.specs.Seen.{Kind, scalars, sets_of}
use Rattle.ess_setwise_laws.specs.Setwise.{setwise_mark, is_setwise_truth, is_setwise_number}

-- The number n and the truth value b; sets r and s of sets of numbers, and sets t, u and v of numbers.
abbrev marks : Text → Option Bool
marks a = if same_text a (codes "n") then Some false else (if same_text a (codes "b") then Some true else None)

abbrev sets : Text → Option Kind
sets a =
    if is_among (codes "r" ∷ codes "s" ∷ []) a then Some (sets_of (scalars false)) else
    (if is_among (codes "t" ∷ codes "u" ∷ codes "v" ∷ []) a then Some (scalars false) else None)

abbrev r : Ex
r = name_ex (codes "r")

abbrev s : Ex
s = name_ex (codes "s")

abbrev t : Ex
t = name_ex (codes "t")

abbrev u : Ex
u = name_ex (codes "u")

abbrev v : Ex
v = name_ex (codes "v")

abbrev n : Ex
n = name_ex (codes "n")

abbrev x : Ex
x = name_ex (codes "x")

abbrev i : Ex
i = name_ex (codes "i")

abbrev size : Ex → Ex
size e = ex1 false Op1.Bar e

abbrev is_in : Ex → Ex → Ex
is_in e f = ex2 true Op2.Member e f

abbrev union : Ex → Ex → Ex
union e f = ex2 false Op2.Union e f

abbrev lessened : Ex → Ex → Ex
lessened e f = ex2 false Op2.Minus e f

-- `forAll x in s . |x| >= 2`
for_all : is_setwise_truth marks sets
    (fun1 true Fun.And (comp_ex (ex2 true Op2.Ge (size x) (number_ex (pos 2))) (from (name_pat (codes "x")) s no_gens))) ≡ true
for_all = refl

-- `3 in t`, and `|s| < |t| + |n|`
in_t : is_setwise_truth marks sets (is_in (number_ex (pos 3)) t) ≡ true
in_t = refl

sizes_too : is_setwise_truth marks sets (ex2 true Op2.Lt (size s) (ex2 false Op2.Plus (size t) (size n))) ≡ true
sizes_too = refl

-- `exists x in s, n in x . forAll i in t . i != n`
nested : is_setwise_truth marks sets
    (fun1 true Fun.Or
    (comp_ex (fun1 true Fun.And (comp_ex (ex2 true Op2.Ne i n) (from (name_pat (codes "i")) t no_gens)))
    (from (name_pat (codes "x")) s (cond (is_in n x) no_gens)))) ≡ true
nested = refl

-- `forAll x in s . exists i in x . b /\ i < |x|`
member_of_member : is_setwise_truth marks sets
    (fun1 true Fun.And
    (comp_ex
    (fun1 true Fun.Or
    (comp_ex (ex2 true Op2.And (name_ex (codes "b")) (ex2 true Op2.Lt i (size x))) (from (name_pat (codes "i")) x no_gens)))
    (from (name_pat (codes "x")) s no_gens))) ≡ true
member_of_member = refl

-- `(sum i : int(1..n) . toInt(i in t) * i) <= 7`
sum_of : is_setwise_truth marks sets
    (ex2 true Op2.Le
    (fun1 false Fun.Sum
    (comp_ex (ex2 false Op2.Times (fun1 false Fun.ToInt (is_in i t)) i)
    (over (name_pat (codes "i")) (int_dom (both_ends ∷ []) (more_exs (number_ex (pos 1)) (more_exs n no_exs))) no_gens)))
    (number_ex (pos 7))) ≡ true
sum_of = refl

-- `t union u = v`
of_two : is_setwise_truth marks sets (ex2 true Op2.Eq (union t u) v) ≡ true
of_two = refl

-- `t in s`, and `t intersect u in r union s`
set_in_set : is_setwise_truth marks sets (is_in t s) ≡ true
set_in_set = refl

of_two_in_two : is_setwise_truth marks sets (is_in (ex2 false Op2.Intersect t u) (union r s)) ≡ true
of_two_in_two = refl

-- `forAll x in r - s . x subsetEq t`
for_all_of_two : is_setwise_truth marks sets
    (fun1 true Fun.And (comp_ex (ex2 true Op2.SubsetEq x t) (from (name_pat (codes "x")) (lessened r s) no_gens))) ≡ true
for_all_of_two = refl

-- `exists i in t - u . i in v union t /\ i < n`
members_of_two : is_setwise_truth marks sets
    (fun1 true Fun.Or
    (comp_ex (ex2 true Op2.And (is_in i (union v t)) (ex2 true Op2.Lt i n)) (from (name_pat (codes "i")) (lessened t u) no_gens))) ≡ true
members_of_two = refl

-- `r != s \/ |t| - |u| = 2`: a difference of numbers is none of sets.
two_differences : is_setwise_truth marks sets
    (ex2 true Op2.Or (ex2 true Op2.Ne r s) (ex2 true Op2.Eq (ex2 false Op2.Minus (size t) (size u)) (number_ex (pos 2)))) ≡ true
two_differences = refl

-- `|t union u|` is a number, and so is `|r - s|`; and of a difference of numbers it is the absolute value: `| |t| - n |`.
size_of_two : setwise_mark marks sets (size (union t u)) ≡ Some false
size_of_two = refl

size_of_less : setwise_mark marks sets (size (lessened r s)) ≡ Some false
size_of_less = refl

size_of_numbers : setwise_mark marks sets (size (ex2 false Op2.Minus (size t) n)) ≡ Some false
size_of_numbers = refl

-- `sum([i | i <- t]) <= |t union u|`
abbrev sum_of_all : Ex
sum_of_all = fun1 false Fun.Sum (comp_ex i (from (name_pat (codes "i")) t no_gens))

sum_of_members : is_setwise_truth marks sets (ex2 true Op2.Le sum_of_all (size (union t u))) ≡ true
sum_of_members = refl

-- `sum([i * n | i <- t - u, i in v, b])`, and `sum([|x| | x <- r union s, t subsetEq x])`
sum_with_conditions : setwise_mark marks sets
    (fun1 false Fun.Sum
    (comp_ex (ex2 false Op2.Times i n)
    (from (name_pat (codes "i")) (lessened t u) (cond (is_in i v) (cond (name_ex (codes "b")) no_gens))))) ≡ Some false
sum_with_conditions = refl

sum_of_sizes : setwise_mark marks sets
    (fun1 false Fun.Sum
    (comp_ex (size x) (from (name_pat (codes "x")) (union r s) (cond (ex2 true Op2.SubsetEq t x) no_gens)))) ≡ Some false
sum_of_sizes = refl

-- `sum([i | x <- s, n in x, i : int(1..|x|), i in x])`, and sums in sums: `sum([sum([i | i <- x]) | x <- s])`
sum_of_several : setwise_mark marks sets
    (fun1 false Fun.Sum
    (comp_ex i
    (from (name_pat (codes "x")) s
    (cond (is_in n x)
    (over (name_pat (codes "i")) (int_dom (both_ends ∷ []) (more_exs (number_ex (pos 1)) (more_exs (size x) no_exs)))
    (cond (is_in i x) no_gens)))))) ≡ Some false
sum_of_several = refl

sum_of_sums : setwise_mark marks sets
    (fun1 false Fun.Sum
    (comp_ex (fun1 false Fun.Sum (comp_ex i (from (name_pat (codes "i")) x no_gens))) (from (name_pat (codes "x")) s no_gens)))
    ≡ Some false
sum_of_sums = refl

-- Objectives: `|s|`, `sum([i | i <- t])`, and `|t union u| - n`; a truth value is none, nor is a set.
size_as_objective : is_setwise_number marks sets (size s) ≡ true
size_as_objective = refl

sum_as_objective : is_setwise_number marks sets sum_of_all ≡ true
sum_as_objective = refl

difference_as_objective : is_setwise_number marks sets (ex2 false Op2.Minus (size (union t u)) n) ≡ true
difference_as_objective = refl

no_truth_as_objective : is_setwise_number marks sets (is_in n t) ≡ false
no_truth_as_objective = refl

no_set_as_objective : is_setwise_number marks sets t ≡ false
no_set_as_objective = refl

-- A truth value isn't asked for in a set of numbers, nor a set in one; sets of other members aren't compared, nor put together, and `<` is
-- no sign between sets.
no_truth_in_numbers : setwise_mark marks sets (is_in (name_ex (codes "b")) t) ≡ None
no_truth_in_numbers = refl

no_set_in_numbers : setwise_mark marks sets (is_in u t) ≡ None
no_set_in_numbers = refl

no_other_sets : setwise_mark marks sets (ex2 true Op2.Eq s t) ≡ None
no_other_sets = refl

no_other_union : setwise_mark marks sets (is_in t (union s t)) ≡ None
no_other_union = refl

no_order : setwise_mark marks sets (ex2 true Op2.Lt t u) ≡ None
no_order = refl

-- Truth values aren't summed, nor are sets; and a set is no constraint.
no_sum_of_truths : setwise_mark marks sets (fun1 false Fun.Sum (comp_ex (is_in i u) (from (name_pat (codes "i")) t no_gens))) ≡ None
no_sum_of_truths = refl

no_sum_of_sets : setwise_mark marks sets (fun1 false Fun.Sum (comp_ex x (from (name_pat (codes "x")) s no_gens))) ≡ None
no_sum_of_sets = refl

no_set_alone : setwise_mark marks sets t ≡ None
no_set_alone = refl

no_union_alone : setwise_mark marks sets (union t u) ≡ None
no_union_alone = refl

-- No name hides another one.
no_hiding : setwise_mark marks sets
    (fun1 true Fun.And (comp_ex (is_in x t) (from (name_pat (codes "x")) t (from (name_pat (codes "x")) t no_gens)))) ≡ None
no_hiding = refl
