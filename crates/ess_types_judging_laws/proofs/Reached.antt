-- What is found of an index step by step is what is found of it.
use Rattle.std.proofs.Common.{◌≡◌, refl, sym, ap, ◌∙◌, Bool, true, false, ◌&&◌, if◌then◌else◌, List, [], ◌∷◌, Option, Some, None, option_map}
use Rattle.std.specs.Prelude.{is_some}
use Rattle.ess_semantics.specs.Lists.{and_then, is_some_and}
use Rattle.ess_semantics.specs.Trees.{Step, index, Ex, Exs, node_ex, more_exs}
use Rattle.ess_semantics.specs.Types.{Ty}
use Rattle.ess_semantics.specs.Typing.{Static, static, statics, a_number, a_name, step_ty, part_ty, type_behind, part_behind, path_ty, type_of_node}
use Rattle.ess_semantics.specs.Lettings.{is_record, field_steps}
use Rattle.ess_semantics.specs.Scopes.{Scope}
use Rattle.ess_types_judging_laws.specs.Found.{Found, both, at_place}
use Rattle.ess_types_judging_laws.specs.Judged.{Judged, types_in, judged, judged_all}
use Rattle.ess_types_judging_laws.specs.Combined.{operands_found, node_judged}
use Rattle.ess_types_judging_laws.specs.Accumulated.{over_parts}
use Rattle.ess_types_judging_laws.specs.Reached.{Stepping, at_value, at_component, at_field, steps_of, values_in, Reached, behind_value, behind_step, behind_steps, reached_first}
use Rattle.ess_types_judging_laws.proofs.Truths.{both_assoc, both_well}
use Rattle.ess_types_judging_laws.proofs.Layers.{judged_node}

-- ---- the type

index-type : (o : Option Ty) (qs : List Step) (s : Static) (ss : List Static) (us : List (Option Ty)) →
    type_of_node (index qs) (s ∷ ss) (o ∷ us) ≡ and_then o (λ t. path_ty t qs ss us)
index-type None qs s ss us = refl
index-type (Some t) qs s ss us = refl

-- The types of the values in steps.
abbrev value_tys : List Stepping → Scope → List (Option Ty)
value_tys ps s = types_in (judged_all (values_in ps) s)

reached-type : (ps : List Stepping) (p : Reached) (s : Scope) →
    and_then p.ty (λ t. path_ty t (steps_of ps) (statics (values_in ps)) (value_tys ps s)) ≡ (behind_steps ps p s).ty
reached-type [] p s = go p.ty
  where
    go : (o : Option Ty) → and_then o (λ t. Some t) ≡ o
    go None = refl
    go (Some t) = refl
reached-type (at_value e ∷ ps) p s = go p.ty ∙ reached-type ps (behind_value e (judged e s) p) s
  where
    go : (o : Option Ty) →
        and_then o (λ t. and_then (step_ty t (static e) (judged e s).ty) (λ v. path_ty v (steps_of ps) (statics (values_in ps)) (value_tys ps s)))
        ≡ and_then (type_behind o (static e) (judged e s).ty) (λ t. path_ty t (steps_of ps) (statics (values_in ps)) (value_tys ps s))
    go None = refl
    go (Some t) = refl
reached-type (at_component k ∷ ps) p s = go p.ty ∙ reached-type ps (behind_step (at_component k) p s) s
  where
    go : (o : Option Ty) →
        and_then o (λ t. and_then (part_ty t (a_number k)) (λ v. path_ty v (steps_of ps) (statics (values_in ps)) (value_tys ps s)))
        ≡ and_then (part_behind o (a_number k)) (λ t. path_ty t (steps_of ps) (statics (values_in ps)) (value_tys ps s))
    go None = refl
    go (Some t) = refl
reached-type (at_field a ∷ ps) p s = go p.ty ∙ reached-type ps (behind_step (at_field a) p s) s
  where
    go : (o : Option Ty) →
        and_then o (λ t. and_then (part_ty t (a_name a)) (λ v. path_ty v (steps_of ps) (statics (values_in ps)) (value_tys ps s)))
        ≡ and_then (part_behind o (a_name a)) (λ t. path_ty t (steps_of ps) (statics (values_in ps)) (value_tys ps s))
    go None = refl
    go (Some t) = refl

-- ---- the rest

reached-found : (ps : List Stepping) (p : Reached) (s : Scope) →
    both p.found (operands_found true (field_steps p.ty (steps_of ps) (statics (values_in ps)) (value_tys ps s)) (judged_all (values_in ps) s))
    ≡ (behind_steps ps p s).found
reached-found [] p s = both_well p.found
reached-found (at_value e ∷ ps) p s = go (is_some_and p.ty is_record) ∙ reached-found ps (behind_value e (judged e s) p) s
  where
    t : Option Ty
    t = type_behind p.ty (static e) (judged e s).ty

    bs : List Bool
    bs = field_steps t (steps_of ps) (statics (values_in ps)) (value_tys ps s)

    go : (b : Bool) →
        both p.found (operands_found true (b ∷ bs) (judged e s ∷ judged_all (values_in ps) s))
        ≡ both (if b then p.found else both p.found (at_place true (judged e s).found)) (operands_found true bs (judged_all (values_in ps) s))
    go true = refl
    go false = sym (both_assoc p.found (at_place true (judged e s).found) (operands_found true bs (judged_all (values_in ps) s)))
reached-found (at_component k ∷ ps) p s = reached-found ps (behind_step (at_component k) p s) s
reached-found (at_field a ∷ ps) p s = reached-found ps (behind_step (at_field a) p s) s

-- What is found of a part that has type t, of whose parts f is found.
abbrev over : Option Ty → Found → Judged
over t f = over_parts t true f

pub judged_index : (b : Bool) (e : Ex) (ps : List Stepping) (s : Scope) →
    judged (node_ex b (index (steps_of ps)) (more_exs e (values_in ps))) s
    ≡ over_parts (behind_steps ps (reached_first (judged e s)) s).ty true (behind_steps ps (reached_first (judged e s)) s).found
judged_index b e ps s =
    judged_node b (index (steps_of ps)) (more_exs e (values_in ps)) s
    ∙ ap (λ t. over t (both (at_place true (judged e s).found) rest))
    (index-type (judged e s).ty (steps_of ps) (static e) (statics (values_in ps)) (value_tys ps s) ∙ reached-type ps (reached_first (judged e s)) s)
    ∙ ap (over (behind_steps ps (reached_first (judged e s)) s).ty) (reached-found ps (reached_first (judged e s)) s)
  where
    rest : Found
    rest = operands_found true (field_steps (judged e s).ty (steps_of ps) (statics (values_in ps)) (value_tys ps s)) (judged_all (values_in ps) s)
