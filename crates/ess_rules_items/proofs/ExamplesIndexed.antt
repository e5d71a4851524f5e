-- Worked examples: terms at one index.
use Rattle.std.proofs.Common.{◌≡◌, refl, false, [], ◌∷◌, pos, Some, None}
use Rattle.ess_semantics.specs.Trees.{by_value, to_component, index, number_ex, name_ex, node_ex, no_exs, more_exs}
use Rattle.ess_rules_items.specs.Indexed.{by_value_alone, indexed}

-- `m[1]` is one, `t[1]` of a tuple isn't, nor is `m[1, 2]`.
at_one : indexed (node_ex false (index (by_value ∷ [])) (more_exs (name_ex (109 ∷ [])) (more_exs (number_ex (pos 1)) no_exs)))
    ≡ Some (name_ex (109 ∷ []), number_ex (pos 1))
at_one = refl

of_a_tuple : indexed (node_ex false (index (to_component 1 ∷ [])) (more_exs (name_ex (116 ∷ [])) no_exs)) ≡ None
of_a_tuple = refl

two_steps : by_value_alone (by_value ∷ by_value ∷ []) ≡ false
two_steps = refl
