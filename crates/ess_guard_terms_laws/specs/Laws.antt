-- What the conditions of judged terms say.
use Rattle.std.specs.Prelude.{◌≡◌, true, false, Some, None, is_some}
use Rattle.ess_semantics.specs.Values.{a_relation, Text, Value, Values, node, truth}
use Rattle.ess_semantics.specs.Trees.{Ex}
use Rattle.ess_semantics.specs.Types.{Tys, any_ty, compound}
use Rattle.ess_semantics.specs.Typing.{type_of}
use Rattle.ess_semantics.specs.Typed.{Typed}
use Rattle.ess_semantics.specs.Occurrences.{has_cells}
use Rattle.ess_semantics.specs.Scopes.{Scope, every}
use Rattle.ess_semantics.specs.Resolving.{resolve}
use Rattle.ess_semantics.specs.Meaning.{Env, meaning}
use Rattle.ess_types_laws.specs.SoundParts.{sound_parts}
use Rattle.ess_guard_laws.specs.Guard.{has_value}
use Rattle.ess_guard_supplied_laws.specs.Applications.{ApplicationsAreTold}
use Rattle.ess_guard_supplied_laws.specs.Present.{Present}

-- The conditions of a judged term, resolved, say whether it has a value, where what it reads is there, each application in it has the
-- type bool, and its function literals are of pairs. A term that has the type of a relation has relations as values, so that an
-- application of it has a value; and one that has the type of an empty literal's members has none, so that connectives read it as false.
pub record JudgedConditionsTellValues : Type 0 where
  pub tells : (x y : Text) (e : Ex) (s : Scope) (env : Env) → every sound_parts e s ≡ true → ApplicationsAreTold (resolve e s.tys) s.tys →
      Present (resolve e s.tys) env → meaning (has_value x y (resolve e s.tys)) env ≡ Some (truth (is_some (meaning (resolve e s.tys) env)))
  pub applied : (e : Ex) (s : Scope) (env : Env) (ts : Tys) → has_cells e ≡ false → every sound_parts e s ≡ true → Typed s.tys env →
      type_of e s.tys ≡ Some (compound a_relation ts) → (v : Value) → meaning (resolve e s.tys) env ≡ Some v →
      (ps : Values) × (v ≡ node a_relation ps)
  pub nothing : (e : Ex) (s : Scope) (env : Env) → has_cells e ≡ false → every sound_parts e s ≡ true → Typed s.tys env →
      type_of e s.tys ≡ Some any_ty → meaning (resolve e s.tys) env ≡ None
