-- Lookups of what one step of an index picks.
use Rattle.std.proofs.Common.{◌≡◌, refl, ℕ, Bool, [], ◌∷◌, List, Some, None, option_map}
use Rattle.ess_semantics.specs.Lists.{and_then, only_of}
use Rattle.ess_semantics.specs.Values.{Text}
use Rattle.ess_semantics.specs.Names.{Names}
use Rattle.ess_semantics.specs.Trees.{Step, by_value, to_component, to_field, index, Ex, Exs, node_ex, no_exs, more_exs, Dom}
use Rattle.ess_semantics.specs.Types.{Ty}
use Rattle.ess_semantics.specs.Typing.{a_number, a_name, part_ty}
use Rattle.ess_rules_laws.specs.PartLookups.{component_type_of, field_type_of, part_lookup, matrix_lookup}
use Rattle.ess_rules_views.specs.Picked.{stepped, part_from, item_from}

-- An index has one step where that is the only one.
pub stepped_of_only : (b : Bool) (qs : List Step) (es : Exs)
    → stepped (node_ex b (index qs) es) ≡ option_map (λ q. (b, (q, es))) (only_of qs)
stepped_of_only b (q ∷ []) es = refl
stepped_of_only b qs es = refl

-- The type of a component is that which a step reaches.
pub component_typed : (t : Ty) (k : ℕ) → component_type_of (Some t) k ≡ part_ty t (a_number k)
component_typed t k = refl

-- So is that of a field.
pub field_typed : (t : Ty) (a : Text) → field_type_of (Some t) a ≡ part_ty t (a_name a)
field_typed t a = refl

-- The lookup of a component or field, from the step.
pub part_by_step : (g : Names Ty) (x : Text) (l e : Ex) → part_lookup g x l e ≡ and_then (stepped e) (part_from g x l)
part_by_step g x l (node_ex b (index (to_component k ∷ [])) (more_exs t no_exs)) = refl
part_by_step g x l (node_ex b (index (to_field a ∷ [])) (more_exs t no_exs)) = refl
part_by_step g x l (node_ex b (index (q ∷ [])) (more_exs t no_exs)) = refl
part_by_step g x l e = refl

-- That of an item.
pub item_by_step : (g : Names Ty) (x : Text) (d : Dom) (e : Ex) → matrix_lookup g x d e ≡ and_then (stepped e) (item_from g x d)
item_by_step g x d (node_ex b (index (by_value ∷ [])) (more_exs m (more_exs i no_exs))) = refl
item_by_step g x d (node_ex b (index (q ∷ [])) (more_exs m (more_exs i no_exs))) = refl
item_by_step g x d e = refl
