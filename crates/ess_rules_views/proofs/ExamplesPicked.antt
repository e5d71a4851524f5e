-- Worked examples: lookups of what one step of an index picks.
use Rattle.std.proofs.Common.{◌≡◌, refl, true, false, [], ◌∷◌, Some, None}
use Rattle.ess_semantics.specs.Values.{Text, a_tuple, a_matrix}
use Rattle.ess_semantics.specs.Trees.{by_value, to_component, to_field, index, Ex, name_ex, node_ex, no_exs, more_exs, bool_dom}
use Rattle.ess_semantics.specs.Types.{Ty, bool_ty, int_ty, compound2}
use Rattle.ess_rules_views.specs.Picked.{stepped, part_fits, part_where, part_behind, item_where, item_behind}

abbrev pub x : Text
x = 120 ∷ []

abbrev pub a : Ex
a = name_ex (97 ∷ [])

abbrev pub pairs : Ty
pairs = compound2 a_tuple int_ty bool_ty

abbrev pub rows : Ty
rows = compound2 a_matrix int_ty int_ty

-- `a[1]` has one step; `a[1, 2]` has two.
pub one_step : stepped (node_ex false (index (to_component 1 ∷ [])) (more_exs a no_exs)) ≡ Some (false, (to_component 1, more_exs a no_exs))
one_step = refl

pub two_steps : stepped (node_ex false (index (to_component 1 ∷ to_component 2 ∷ [])) (more_exs a no_exs)) ≡ None
two_steps = refl

-- Of a pair of a number and a truth value the second component fits a Boolean place, the first doesn't, and there is no third.
pub second_fits : part_fits (Some pairs) true (to_component 2) ≡ true
second_fits = refl

pub first_fits : part_fits (Some pairs) true (to_component 1) ≡ false
first_fits = refl

pub no_third : part_fits (Some pairs) false (to_component 3) ≡ false
no_third = refl

pub no_field : part_fits (Some pairs) false (to_field x) ≡ false
no_field = refl

pub no_part : part_fits (Some pairs) false by_value ≡ false
no_part = refl

pub looked_up : part_where (Some pairs) true (to_component 2) x a ≡ Some (part_behind true (to_component 2) x a)
looked_up = refl

-- Items of numbers fit no Boolean place.
pub an_item : item_where (Some rows) false x bool_dom a a ≡ Some (item_behind false x bool_dom a a)
an_item = refl

pub no_truth : item_where (Some rows) true x bool_dom a a ≡ None
no_truth = refl
