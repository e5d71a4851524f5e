-- That an index is in a domain of one range.
use Rattle.std.proofs.Common.{◌≡◌, refl, [], ◌∷◌}
use Rattle.ess_semantics.specs.Values.{Text}
use Rattle.ess_semantics.specs.Trees.{both_ends, Ex, no_exs, more_exs, Dom, int_dom}
use Rattle.ess_guard_laws.specs.Conditions.{in_dom}
use Rattle.ess_guard_forms.specs.PartForms.{one_range}
use Rattle.ess_guard_conditions.specs.ConditionForms.{within_bounds}

-- That an index is in a domain is said by its bounds, where it has one range.
pub in_range : (x : Text) (i : Ex) (d : Dom) → in_dom x i d ≡ within_bounds x i d (one_range d)
in_range x i (int_dom (both_ends ∷ []) (more_exs a (more_exs b no_exs))) = refl
in_range x i d = refl
