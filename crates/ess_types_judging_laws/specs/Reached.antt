-- What is found of an index, step by step.
use Rattle.std.specs.Prelude.{ℕ, Bool, true, if◌then◌else◌, List, [], ◌∷◌, Option, None}
use Rattle.ess_semantics.specs.Lists.{is_some_and}
use Rattle.ess_semantics.specs.Values.{Text}
use Rattle.ess_semantics.specs.Trees.{Step, by_value, to_component, to_field, Ex, Exs, no_exs, more_exs}
use Rattle.ess_semantics.specs.Types.{Ty}
use Rattle.ess_semantics.specs.Typing.{static, a_number, a_name, type_behind, part_behind}
use Rattle.ess_semantics.specs.Lettings.{is_record}
use Rattle.ess_semantics.specs.Scopes.{Scope}
use Rattle.ess_types_judging_laws.specs.Found.{Found, both, at_place}
use Rattle.ess_types_judging_laws.specs.Judged.{Judged, judged}

-- A step of an index with the value that stands in it.
pub data Stepping : Type 0 where
  at_value : Ex → Stepping
  at_component : ℕ → Stepping
  at_field : Text → Stepping

-- The steps.
abbrev pub steps_of : List Stepping → List Step
steps_of [] = []
steps_of (at_value e ∷ ps) = by_value ∷ steps_of ps
steps_of (at_component k ∷ ps) = to_component k ∷ steps_of ps
steps_of (at_field a ∷ ps) = to_field a ∷ steps_of ps

-- The values that stand in them.
abbrev pub values_in : List Stepping → Exs
values_in [] = no_exs
values_in (at_value e ∷ ps) = more_exs e (values_in ps)
values_in (at_component k ∷ ps) = values_in ps
values_in (at_field a ∷ ps) = values_in ps

-- The type that is reached, and what is found on the way.
pub record Reached : Type 0 where
  pub ty : Option Ty
  pub found : Found

-- Behind a step by a value. What names a field is no part.
abbrev pub behind_value : Ex → Judged → Reached → Reached
behind_value e j p =
    record {
      ty = type_behind p.ty (static e) j.ty;
      found = if is_some_and p.ty is_record then p.found else both p.found (at_place true j.found);
    }

-- Behind a step.
abbrev pub behind_step : Stepping → Reached → Scope → Reached
behind_step (at_value e) p s = behind_value e (judged e s) p
behind_step (at_component k) p s = record p { ty = part_behind p.ty (a_number k) }
behind_step (at_field a) p s = record p { ty = part_behind p.ty (a_name a) }

-- Behind steps.
abbrev pub behind_steps : List Stepping → Reached → Scope → Reached
behind_steps [] p s = p
behind_steps (q ∷ qs) p s = behind_steps qs (behind_step q p s) s

-- Where an index begins, of which j is found.
abbrev pub reached_first : Judged → Reached
reached_first j = record { ty = j.ty; found = at_place true j.found }
