-- Worked examples: which trees are flat and total, and what fires where a condition chooses a factor.
use Rattle.std.proofs.Common.{◌≡◌, refl, Bool, true, false, pos, codes, if◌then◌else◌, Option, Some, None}
use Rattle.ess_semantics.specs.declared.words.Op1.{Op1}
use Rattle.ess_semantics.specs.declared.words.Op2.{Op2}
use Rattle.ess_semantics.specs.declared.words.Fun.{Fun}
use Rattle.ess_semantics.specs.Values.{Text}
use Rattle.ess_semantics.specs.Order.{same_text}
use Rattle.ess_semantics.specs.Trees.{Ex, number_ex, truth_ex, name_ex, cell_ex, no_exs, ex1, ex2, fun1}
use Rattle.ess_rules_laws.specs.ChoiceRules.{choice_shorter}
use Rattle.ess_flat_laws.specs.Flat.{flat_mark, is_flat_total, none_marked}

-- A table x of a number.
abbrev cells : Text → Option Bool
cells a = if same_text a (codes "x") then Some false else None

abbrev x : Ex
x = cell_ex false (codes "x") no_exs

-- `x + 1 < 3 /\ !(x = 2)`
of-comparisons : flat_mark none_marked cells (ex2 true Op2.And (ex2 true Op2.Lt (ex2 false Op2.Plus x (number_ex (pos 1)))
    (number_ex (pos 3)))
    (ex1 true Op1.Not (ex2 true Op2.Eq x (number_ex (pos 2))))) ≡ Some true
of-comparisons = refl

-- `x / 2 = 1` may have nothing; so has `x = true` operands of two kinds, and a name that isn't declared is none.
of-quotients : is_flat_total none_marked cells (ex2 true Op2.Eq (ex2 false Op2.Div x (number_ex (pos 2))) (number_ex (pos 1))) ≡ false
of-quotients = refl

of-kinds : is_flat_total none_marked cells (ex2 true Op2.Eq x (truth_ex true)) ≡ false
of-kinds = refl

of-names : is_flat_total none_marked cells (ex2 true Op2.Eq x (name_ex (codes "y"))) ≡ false
of-names = refl

-- `2 * toInt(x = 1)` is one. `toInt(x = 1) * 1` is not: it has a shorter form.
abbrev is-one : Ex
is-one = ex2 true Op2.Eq x (number_ex (pos 1))

of-choices : flat_mark none_marked cells (ex2 false Op2.Times (number_ex (pos 2)) (fun1 false Fun.ToInt is-one)) ≡ Some false
of-choices = refl

not-of-choices : is_flat_total none_marked cells (ex2 false Op2.Times (fun1 false Fun.ToInt is-one) (number_ex (pos 1))) ≡ false
not-of-choices = refl

choices-fire : choice_shorter (ex2 false Op2.Times (fun1 false Fun.ToInt is-one) (number_ex (pos 1))) ≡ Some (fun1 false Fun.ToInt is-one)
choices-fire = refl
