-- Worked examples: what picks a value.
use Rattle.std.proofs.Common.{◌≡◌, refl, true, false, [], ◌∷◌, pos, Some, None}
use Rattle.ess_semantics.specs.Trees.{by_value, to_component, index, number_ex, name_ex, node_ex, no_exs, more_exs, at1}
use Rattle.ess_rules_picked.specs.Picked.{picks_at, within_at, indexed}
use Rattle.ess_rules_picked.specs.Paths.{first_apart}

-- `m[1]` picks, whatever m is; `t[1]` of a tuple picks where t does; an index of two steps waits until they come apart.
an_item : picks_at (by_value ∷ []) (more_exs (name_ex (109 ∷ [])) (more_exs (number_ex (pos 1)) no_exs)) ≡ true
an_item = refl

a_component : picks_at (to_component 1 ∷ []) (more_exs (name_ex (116 ∷ [])) no_exs) ≡ false
a_component = refl

a_component_of_an_item : picks_at (to_component 1 ∷ []) (more_exs (at1 false (name_ex (109 ∷ [])) (number_ex (pos 1))) no_exs) ≡ true
a_component_of_an_item = refl

two_steps : picks_at (by_value ∷ by_value ∷ []) (more_exs (name_ex (109 ∷ [])) no_exs) ≡ false
two_steps = refl

-- `m[1][2]` picks within `m[1]`, `m[1]` within nothing.
within_an_item : within_at (more_exs (at1 false (name_ex (109 ∷ [])) (number_ex (pos 1))) (more_exs (number_ex (pos 2)) no_exs))
    ≡ Some (at1 false (name_ex (109 ∷ [])) (number_ex (pos 1)))
within_an_item = refl

within_nothing : within_at (more_exs (name_ex (109 ∷ [])) (more_exs (number_ex (pos 1)) no_exs)) ≡ None
within_nothing = refl

-- `m[1]` is m at 1, a component has no index.
at_one : indexed (at1 false (name_ex (109 ∷ [])) (number_ex (pos 1))) ≡ Some (name_ex (109 ∷ []), number_ex (pos 1))
at_one = refl

no_index : indexed (node_ex false (index (to_component 1 ∷ [])) (more_exs (name_ex (116 ∷ [])) no_exs)) ≡ None
no_index = refl

-- `m[1, 2]` is `m[1][2]`; a step by a value has one.
one_by_one : first_apart true by_value (by_value ∷ [])
    (more_exs (name_ex (109 ∷ [])) (more_exs (number_ex (pos 1)) (more_exs (number_ex (pos 2)) no_exs)))
    ≡ Some (at1 true (at1 false (name_ex (109 ∷ [])) (number_ex (pos 1))) (number_ex (pos 2)))
one_by_one = refl

without_a_value : first_apart true by_value (by_value ∷ []) (more_exs (name_ex (109 ∷ [])) no_exs) ≡ None
without_a_value = refl
