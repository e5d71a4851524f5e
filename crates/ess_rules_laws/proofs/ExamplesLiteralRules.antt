-- Worked examples of the rules of operators on literals.
use Rattle.std.specs.Prelude.{◌≡◌, refl, true, false, [], ◌∷◌, ℕ, pos, codes, Some, None}
use Rattle.ess_semantics.specs.declared.words.Op2.{Op2}
use Rattle.ess_semantics.specs.declared.words.Fun.{Fun}
use Rattle.ess_semantics.specs.Values.{Text, truth, number}
use Rattle.ess_semantics.specs.Trees.{to_component, to_field, record_literal, index, tuple_literal, set_literal, matrix_literal, Ex, node_ex, fun1, no_exs, more_exs}
use Rattle.ess_semantics.specs.Meaning.{empty_env, meaning}
use Rattle.ess_semantics.proofs.Shorthands.{N, n, es1, es2, bi, fn}
use Rattle.ess_rules_laws.specs.FieldLiterals.{field_listed}
use Rattle.ess_rules_laws.specs.LiteralRules.{component_listed, different_listed, extreme_listed}

abbrev pub x : Text
x = codes "x"

-- A component of a pair.
abbrev pub part : ℕ → Ex → Ex → Ex
part k a b = node_ex false (index (to_component k ∷ [])) (es1 (node_ex false tuple_literal (es2 a b)))

second_of_two : component_listed (part 2 (n 1) (N x)) ≡ Some (N x)
second_of_two = refl

third_of_two : component_listed (part 3 (n 1) (N x)) ≡ None
third_of_two = refl

-- `(1, 1/0)[1]` has nothing, and 1 has a value
part_without_value : (meaning (part 1 (n 1) (bi Op2.Div (n 1) (n 0))) empty_env ≡ None) × (meaning (n 1) empty_env ≡ Some (number (pos 1)))
part_without_value = (refl, refl)

-- A field of a record with the fields y and x.
abbrev pub field : Text → Ex → Ex → Ex
field f a b = node_ex false (index (to_field f ∷ [])) (es1 (node_ex false (record_literal (codes "y" ∷ x ∷ [])) (es2 a b)))

second_field : field_listed (field x (n 1) (N x)) ≡ Some (N x)
second_field = refl

field_value : meaning (field x (n 1) (n 2)) empty_env ≡ Some (number (pos 2))
field_value = refl

-- All items differ.
abbrev pub different : Ex → Ex
different e = fun1 true Fun.AllDiff e

three_differ : different_listed (different (node_ex false matrix_literal (more_exs (n 1) (es2 (n 2) (N x)))))
    ≡ Some (fn Fun.And (node_ex false matrix_literal (more_exs (bi Op2.Ne (n 2) (n 1)) (es2 (bi Op2.Ne (N x) (n 1)) (bi Op2.Ne (N x) (n 2))))))
three_differ = refl

-- `allDiff([1/0])` is false, and `and([])` is true
item_without_value : (meaning (different (node_ex false matrix_literal (es1 (bi Op2.Div (n 1) (n 0))))) empty_env ≡ Some (truth false))
    × (meaning (fn Fun.And (node_ex false matrix_literal no_exs)) empty_env ≡ Some (truth true))
item_without_value = (refl, refl)

least_of_two : extreme_listed (fn Fun.Min (node_ex false set_literal (es2 (n 2) (N x)))) ≡ Some (fn Fun.Min (node_ex false matrix_literal (es2 (n 2) (N x))))
least_of_two = refl

least_of_nothing : (meaning (fn Fun.Min (node_ex false set_literal no_exs)) empty_env ≡ None) × (meaning (fn Fun.Min (node_ex false matrix_literal no_exs)) empty_env ≡ None)
least_of_nothing = (refl, refl)
