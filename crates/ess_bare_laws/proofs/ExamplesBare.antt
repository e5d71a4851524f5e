-- Bare trees, parts of them, and rules at their roots, by examples. The table t holds truth values and has one axis.
use Rattle.std.proofs.Common.{◌≡◌, refl, ℕ, Bool, true, false, if◌then◌else◌, [], ◌∷◌, pos, Option, Some, None, codes}
use Rattle.ess_semantics.specs.declared.words.Op1.{Op1}
use Rattle.ess_semantics.specs.declared.words.Op2.{Op2}
use Rattle.ess_semantics.specs.declared.words.Fun.{Fun}
use Rattle.ess_semantics.specs.Values.{Text}
use Rattle.ess_semantics.specs.Order.{same_text}
use Rattle.ess_semantics.specs.Trees.{both_ends, name_pat, Ex, number_ex, name_ex, comp_ex, cell_ex, no_exs, more_exs, no_gens, over, cond, Dom, int_dom, ex1, ex2, fun1}
use Rattle.ess_rules_laws.specs.FoldRules.{fold_alone, fold_bare}
use Rattle.ess_rules_laws.specs.ChoiceRules.{choice_shorter}
use Rattle.ess_refine_laws.specs.LeavingConditions.{condition_leaves}
use Rattle.ess_flat_laws.specs.Flat.{denied, at_most, product}
use Rattle.ess_bare_laws.specs.Bare.{all_hold, Bare, number, named, cell, one, two, chosen, folded, added, at_end, through, no_axis, along, numbers, no_index, one_index, no_bound, one_bound}

abbrev x_name : Text
x_name = codes "x"

abbrev tables : Text → Option (Bool × ℕ)
tables a = if same_text (codes "t") a then Some (true, 1) else None

-- `t[x]`, and `int(1..2)`.
abbrev t_at_x : Ex
t_at_x = cell_ex true (codes "t") (more_exs (name_ex x_name) no_exs)

abbrev one_to_two : Dom
one_to_two = int_dom (both_ends ∷ []) (more_exs (number_ex (pos 1)) (more_exs (number_ex (pos 2)) no_exs))

-- `t[x]` is bare where x is bound to numbers.
bare_cell : Bare tables ((x_name, false) ∷ []) t_at_x true
bare_cell = cell refl (one_index (named refl) no_index)

-- `and([!t[x] | x : int(1..2)])` is bare where no name is bound, and so is `sum([toInt(t[x]) | x : int(1..2)]) <= 1`.
bare_fold : Bare tables [] (fun1 true Fun.And (comp_ex (ex1 true Op1.Not t_at_x) (over (name_pat x_name) one_to_two no_gens))) true
bare_fold = folded all_hold (through (numbers refl (one_bound number (one_bound number no_bound))) at_end) (one denied bare_cell)

bare_count : Bare tables [] (ex2 true Op2.Le (fun1 false Fun.Sum (comp_ex (fun1 false Fun.ToInt t_at_x)
    (over (name_pat x_name) one_to_two no_gens))) (number_ex (pos 1))) true
bare_count = two at_most
    (added (along (numbers refl (one_bound number (one_bound number no_bound))) no_axis) (chosen bare_cell)) number

-- A condition leaves a fold of truth values: `and([!t[x] | x : int(1..2), t[x]])` becomes `and([t[x] -> and([!t[x] | ]) | x : int(1..2)])`.
leaving : condition_leaves (fun1 true Fun.And (comp_ex (ex1 true Op1.Not t_at_x)
    (over (name_pat x_name) one_to_two (cond t_at_x no_gens)))) ≡
    Some (fun1 true Fun.And (comp_ex (ex2 true Op2.Implies t_at_x (fun1 true Fun.And (comp_ex (ex1 true Op1.Not t_at_x) no_gens)))
    (over (name_pat x_name) one_to_two no_gens)))
leaving = refl

-- A fold without generators is its item, and one over a condition alone is `->`.
item_alone : fold_bare (fun1 true Fun.And (comp_ex t_at_x no_gens)) ≡ Some t_at_x
item_alone = refl

condition_alone : fold_alone (fun1 true Fun.And (comp_ex t_at_x (cond t_at_x no_gens))) ≡ Some (ex2 true Op2.Implies t_at_x t_at_x)
condition_alone = refl

-- `sum([toInt(t[x])]) * 1` becomes `toInt(t[x]) * 1`, of which another rule makes `toInt(t[x])`; both are bare where x is bound.
factor_alone : fold_bare (fun1 false Fun.Sum (comp_ex (fun1 false Fun.ToInt t_at_x) no_gens)) ≡ Some (fun1 false Fun.ToInt t_at_x)
factor_alone = refl

product_shorter : choice_shorter (ex2 false Op2.Times (fun1 false Fun.ToInt t_at_x) (number_ex (pos 1))) ≡
    Some (fun1 false Fun.ToInt t_at_x)
product_shorter = refl

bare_product : Bare tables ((x_name, false) ∷ []) (ex2 false Op2.Times (fun1 false Fun.ToInt t_at_x) (number_ex (pos 1))) false
bare_product = two product (chosen bare_cell) number

-- `toInt(t[x]) * toInt(t[1])` becomes `toInt(t[x] /\ t[1])`.
abbrev t_at_one : Ex
t_at_one = cell_ex true (codes "t") (more_exs (number_ex (pos 1)) no_exs)

choices_joined : choice_shorter (ex2 false Op2.Times (fun1 false Fun.ToInt t_at_x) (fun1 false Fun.ToInt t_at_one)) ≡
    Some (fun1 false Fun.ToInt (ex2 true Op2.And t_at_x t_at_one))
choices_joined = refl
