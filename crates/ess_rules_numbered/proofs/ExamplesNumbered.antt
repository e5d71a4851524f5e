-- Worked examples: where names stand, how many items lists have at most by the operator, lists in place of matrices, and parts of terms.
use Rattle.std.proofs.Common.{◌≡◌, refl, true, false, [], ◌∷◌, pos, Some, None, option_map}
use Rattle.ess_semantics.specs.declared.words.Fun.{Fun}
use Rattle.ess_semantics.specs.Values.{Text}
use Rattle.ess_semantics.specs.Trees.{by_value, both_ends, name_pat, index, word, tuple_literal, Ex, Exs, number_ex, name_ex, matrix_ex, comp_ex, no_exs, more_exs, no_gens, over, from, Dom, int_dom, fun1}
use Rattle.ess_core.specs.TreeViews.{over_item, from_item}
use Rattle.ess_rules_laws.specs.SourceRules.{list_of}
use Rattle.ess_numbered_laws.specs.MostItems.{a_component}
use Rattle.ess_rules_numbered.specs.NamedParts.{names, item_names}
use Rattle.ess_rules_numbered.specs.CountedForms.{item_at}
use Rattle.ess_rules_numbered.specs.BehindForms.{behind_parts, with_source, item_parts}
use Rattle.ess_rules_numbered.specs.ListedForms.{as_list, within_items, lists_here}
use Rattle.ess_rules_numbered.specs.MostForms.{most_of_op, most_of_list, most_of_literal, most_before}

abbrev x : Text
x = 120 ∷ []

abbrev y : Text
y = 121 ∷ []

abbrev z : Text
z = 122 ∷ []

abbrev one : Ex
one = number_ex (pos 1)

abbrev two : Ex
two = number_ex (pos 2)

-- `int(1..x)`.
abbrev up_to_x : Dom
up_to_x = int_dom (both_ends ∷ []) (more_exs one (more_exs (name_ex x) no_exs))

-- `[y | y : int(1..x)]`.
abbrev all_up_to_x : Ex
all_up_to_x = comp_ex (name_ex y) (over (name_pat y) up_to_x no_gens)

-- ---- names

-- The bound of a domain counts, and what a generator binds counts where it is used.
bound_stands : names x all_up_to_x ≡ true
bound_stands = refl

other_stands_not : names z all_up_to_x ≡ false
other_stands_not = refl

-- The name that a generator binds is no expression.
pattern_stands_not : item_names y (over_item (name_pat y) up_to_x) ≡ false
pattern_stands_not = refl

-- ---- numbers of items

-- `[[1, 2], [1]][x]` has three items at most, as the sum of both.
of_an_index : most_of_op z [] false (index (by_value ∷ []))
    (more_exs (list_of (more_exs (list_of (more_exs one (more_exs two no_exs))) (more_exs (list_of (more_exs one no_exs)) no_exs)))
    (more_exs (name_ex x) no_exs))
    ≡ Some (fun1 false Fun.Sum (list_of (more_exs two (more_exs one no_exs))))
of_an_index = refl

-- `[1, 2]` has two, and `([1, 2], [1])[2]` one.
of_a_list : most_of_list z [] (more_exs one (more_exs two no_exs)) ≡ Some two
of_a_list = refl

of_a_component : most_of_literal z (a_component 2 ∷ []) tuple_literal
    (more_exs (list_of (more_exs one (more_exs two no_exs))) (more_exs (list_of (more_exs one no_exs)) no_exs)) ≡ Some one
of_a_component = refl

-- A set has no number of items.
of_another_word : most_of_op z [] false (word Fun.ToSet) (more_exs (name_ex x) no_exs) ≡ None
of_another_word = refl

-- Behind `y <- [1, 2]` a number that speaks of y has none.
behind_a_name : most_before z (from_item (name_pat y) (list_of (more_exs one (more_exs two no_exs)))) (name_ex y) ≡ None
behind_a_name = refl

-- ---- lists in place of matrices

abbrev one_and_two : Exs
one_and_two = more_exs one (more_exs two no_exs)

-- `[1, 2; int(0..1)]`.
abbrev from_nought : Ex
from_nought = matrix_ex one_and_two (int_dom (both_ends ∷ []) (more_exs (number_ex (pos 0)) (more_exs one no_exs)))

-- Itself it is `[1, 2]`; so it is as an item of a list, but its own items have nothing in place.
in_place : (as_list z from_nought ≡ list_of one_and_two)
    × (within_items z 0 (list_of (more_exs from_nought no_exs)) ≡ list_of (more_exs (list_of one_and_two) no_exs))
    × (lists_here z 1 from_nought ≡ from_nought) × (as_list z (name_ex x) ≡ name_ex x)
in_place = (refl, refl, refl, refl)

-- ---- parts

-- `[1, 2][x]` is an item of a list, and `[1, 2]` isn't.
items : (item_parts (item_at false (list_of one_and_two) (name_ex x)) ≡ Some (false, (list_of one_and_two, name_ex x)))
    × (item_parts (list_of one_and_two) ≡ None)
items = (refl, refl)

-- `[x | y : int(1..x), x <- [1, 2]]` has the source `[1, 2]`, which another one may stand for, and `[y | y : int(1..x)]` has none.
abbrev over_source : Ex → Ex
over_source s = comp_ex (name_ex x) (over (name_pat y) up_to_x (from (name_pat x) s no_gens))

sources : (option_map (λ p. p.source) (behind_parts (over_source (list_of one_and_two))) ≡ Some (list_of one_and_two))
    × (option_map (λ p. with_source p from_nought) (behind_parts (over_source (list_of one_and_two))) ≡ Some (over_source from_nought))
    × (behind_parts all_up_to_x ≡ None)
sources = (refl, refl, refl)
