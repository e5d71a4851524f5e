-- Worked examples of constraints over scalars and ranges alone.
use Rattle.std.proofs.Common.{◌≡◌, refl, Bool, true, false, if◌then◌else◌, [], ◌∷◌, pos, codes, Option, Some, None}
use Rattle.ess_semantics.specs.declared.words.Op2.{Op2}
use Rattle.ess_semantics.specs.declared.words.Fun.{Fun}
use Rattle.ess_semantics.specs.Values.{Text}
use Rattle.ess_semantics.specs.Order.{same_text}
use Rattle.ess_semantics.specs.Trees.{both_ends, low_end, name_pat, Ex, number_ex, name_ex, no_exs, more_exs, comp_ex, Gens, no_gens, over, cond, bool_dom, int_dom, ex2, fun1}
use Rattle.ess_seen_laws.specs.Seen.{Kind}
use Rattle.ess_setwise_laws.specs.Setwise.{setwise_mark, is_setwise_truth}

-- The numbers x and n, and the truth value b.
abbrev names : Text → Option Bool
names a =
    if same_text a (codes "x") then Some false else
    (if same_text a (codes "n") then Some false else (if same_text a (codes "b") then Some true else None))

-- No sets.
abbrev sets : Text → Option Kind
sets a = None

abbrev x : Ex
x = name_ex (codes "x")

abbrev i : Ex
i = name_ex (codes "i")

-- The range from 1 to n in front of generators.
abbrev up_to_n : Gens → Gens
up_to_n gs =
    over (name_pat (codes "i")) (int_dom (both_ends ∷ []) (more_exs (number_ex (pos 1)) (more_exs (name_ex (codes "n")) no_exs))) gs

-- `forAll i : int(1..n) . x != i`
for_all : is_setwise_truth names sets (fun1 true Fun.And (comp_ex (ex2 true Op2.Ne x i) (up_to_n no_gens))) ≡ true
for_all = refl

-- `exists i : int(1..n), x < i . b`
exists_where : is_setwise_truth names sets
    (fun1 true Fun.Or (comp_ex (name_ex (codes "b")) (up_to_n (cond (ex2 true Op2.Lt x i) no_gens)))) ≡ true
exists_where = refl

-- `(sum i : int(1..n) . i + x) <= 7`
sum_of : is_setwise_truth names sets
    (ex2 true Op2.Le (fun1 false Fun.Sum (comp_ex (ex2 false Op2.Plus i x) (up_to_n no_gens))) (number_ex (pos 7))) ≡ true
sum_of = refl

-- `forAll i : bool . i = b`
over_truths_too : is_setwise_truth names sets
    (fun1 true Fun.And (comp_ex (ex2 true Op2.Eq i (name_ex (codes "b"))) (over (name_pat (codes "i")) bool_dom no_gens))) ≡ true
over_truths_too = refl

-- `(sum i : int(1..n) . i * x) <= 7`, and `toInt(b) * toInt(b) = 1`
products : is_setwise_truth names sets
    (ex2 true Op2.Le (fun1 false Fun.Sum (comp_ex (ex2 false Op2.Times i x) (up_to_n no_gens))) (number_ex (pos 7))) ≡ true
products = refl

abbrev chosen_b : Ex
chosen_b = fun1 false Fun.ToInt (name_ex (codes "b"))

product_of_choices : is_setwise_truth names sets (ex2 true Op2.Eq (ex2 false Op2.Times chosen_b chosen_b) (number_ex (pos 1))) ≡ true
product_of_choices = refl

-- `sum([i | i : int(1..n), x < i])`
sum_where : setwise_mark names sets (fun1 false Fun.Sum (comp_ex i (up_to_n (cond (ex2 true Op2.Lt x i) no_gens)))) ≡ Some false
sum_where = refl

-- Not of the class are a name that hides another one, and a range without an end.
no_hiding : setwise_mark names sets (fun1 true Fun.And (comp_ex (ex2 true Op2.Ne x i) (up_to_n (up_to_n no_gens)))) ≡ None
no_hiding = refl

no_scalar_hidden : setwise_mark names sets
    (fun1 true Fun.And (comp_ex (name_ex (codes "b")) (over (name_pat (codes "x")) bool_dom no_gens))) ≡ None
no_scalar_hidden = refl

no_open_range : setwise_mark names sets
    (fun1 true Fun.And (comp_ex (ex2 true Op2.Ne x i) (over (name_pat (codes "i")) (int_dom (low_end ∷ []) (more_exs x no_exs)) no_gens)))
    ≡ None
no_open_range = refl
