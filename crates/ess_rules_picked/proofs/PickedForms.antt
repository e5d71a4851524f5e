-- What picks a value, by the steps and the operands.
use Rattle.std.proofs.Common.{◌≡◌, refl, Bool, true, false, List, [], ◌∷◌, None}
use Rattle.ess_semantics.specs.Trees.{Step, by_value, to_component, to_field, index, Exs, node_ex, no_exs, more_exs}
use Rattle.ess_rules_forms.specs.Forms.{both_operands}
use Rattle.ess_kind_rules_laws.specs.TermLookups.{picks, picked_within}
use Rattle.ess_rules_picked.specs.Picked.{picks_at, has_one_step, within_at, indexed}

-- An index by its steps.
pub picks_by_steps : (b : Bool) (qs : List Step) (es : Exs) → picks_at qs es ≡ picks (node_ex b (index qs) es)
picks_by_steps b (to_component k ∷ []) (more_exs t no_exs) = refl
picks_by_steps b (to_component k ∷ []) (more_exs t (more_exs u us)) = refl
picks_by_steps b (to_component k ∷ []) no_exs = refl
picks_by_steps b (to_field a ∷ []) (more_exs t no_exs) = refl
picks_by_steps b (to_field a ∷ []) (more_exs t (more_exs u us)) = refl
picks_by_steps b (to_field a ∷ []) no_exs = refl
picks_by_steps b (by_value ∷ []) es = refl
picks_by_steps b [] es = refl
picks_by_steps b (by_value ∷ q ∷ qs) es = refl
picks_by_steps b (to_component k ∷ q ∷ qs) es = refl
picks_by_steps b (to_field a ∷ q ∷ qs) es = refl

-- What an index picks within, at one step.
pub within_by_steps : (b : Bool) (qs : List Step) (es : Exs) → has_one_step qs ≡ true
    → within_at es ≡ picked_within (node_ex b (index qs) es)
within_by_steps b (q ∷ []) (more_exs t es) h = refl
within_by_steps b (q ∷ []) no_exs h = refl
within_by_steps b [] es h = cc
within_by_steps b (q ∷ r ∷ qs) es h = cc

-- And at others.
pub within_otherwise : (b : Bool) (qs : List Step) (es : Exs) → has_one_step qs ≡ false → picked_within (node_ex b (index qs) es) ≡ None
within_otherwise b (q ∷ []) es h = cc
within_otherwise b [] es h = refl
within_otherwise b (q ∷ r ∷ qs) es h = refl

-- A term at one index, by its operands.
pub indexed_by_operands : (b : Bool) (es : Exs) → both_operands es ≡ indexed (node_ex b (index (by_value ∷ [])) es)
indexed_by_operands b (more_exs v (more_exs a no_exs)) = refl
indexed_by_operands b no_exs = refl
indexed_by_operands b (more_exs v no_exs) = refl
indexed_by_operands b (more_exs v (more_exs a (more_exs u us))) = refl
